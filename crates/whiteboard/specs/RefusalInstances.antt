-- Instances of what is turned away: the nine examples of document 01's table with their lowest number, a fault of every other kind, and one plan
-- that is accepted in each of its forms.
use Rattle.std.specs.Prelude.{◌≡◌, refl, List, [], ◌∷◌, ℕ, ◌-◌, ◌^◌, ◌≤◌, ◌<◌, eqb, ltb, length, get_or}
use Rattle.std.proofs.Common.{sym, subst, ◌∙◌, ⊎_elim, inl, inr, arith, eqb-true, ltb-true, pow_pos}
use Rattle.std.specs.Int.Count.{ones, ones_in}
use Rattle.gf2.specs.Digits.{odd}
use Rattle.gf2.specs.Lists.{list_to}
use Rattle.gf2.specs.Members.{In}
use Rattle.regular.specs.Sizes.{Size}
use Rattle.regular.specs.Runs.{Runs, runs_of, Table}
use Rattle.regular.specs.Words.{Word, NoShort, Generated, total}
use Rattle.regular.specs.Columns.{plan_of, run_of, Below, Spans, Allowed}
use Rattle.regular.specs.Designs.{Holds}
use Rattle.regular.specs.PlanBytes.{plan_bytes, mask_in}
use Rattle.regular.specs.Refusals.{SizeFault, ResolutionFault, WordsFault, SignFault, ColumnsFault, MaskFault, ListFault, RecordFault, TableFault}
use Rattle.regular.specs.Refusals.{WantedFault, LentFault, RoomFault, either, size_faults, words_faults, runs_faults, design_faults, columns_faults}
use Rattle.regular.specs.Refusals.{bare_faults, Lowest}
use Rattle.regular.specs.RefusalLaws.{lowest_none, lowest_at, words_least, none_lowest, lent_is}
use Rattle.regular.specs.Accepted.{columns_none, entry_accepted}
use Rattle.regular.specs.PlanLists.{BytesFault}
use Rattle.regular.specs.Catalogues.{catalogue_faults}
use Rattle.regular.specs.Smallest.{Equal, Entry}
use Rattle.regular.specs.declared.Design.{Design}
use Rattle.words.specs.Short.{repeat_gives_short}
use Rattle.words.specs.Switches.{agree_refl}
use Rattle.smallest_laws.specs.Growth.{entry_equal}
use Rattle.counts.specs.GivenWords.{WordsGiven}
use Rattle.whiteboard.specs.ListTests.{all, all_at}
use Rattle.whiteboard.specs.PlanInstances.{size_4, runs_abc, whole_4, table_abc_lem, not_regular, short_abc, entry_abc, plan_abc_lem, plan_abcd_lem}
use Rattle.whiteboard.specs.PlanInstances.{not_spans, record_abc, dependent_twice, allowed_none, long_words}
use Rattle.whiteboard.specs.PlanInstances.{holds_abc, disguised, table_disguised, no_short_disguised, repeat_ab}
use Rattle.whiteboard.specs.RowLaws.{is_given}
use Rattle.whiteboard.specs.Samples.{abc, plan_abc, plan_abcd, fives, catalogue_5, words_abc, words_abcd}
use Rattle.whiteboard.specs.Tests.{below, below_at, agree_at, only_zero_lem}

-- no fault of a size that is one
pub size_none : (n g : ℕ) → Size n g → (k : ℕ) → SizeFault n g k → ⊥
size_none n g s k (SizeFault.factors h) = ⊎_elim (λ l. omega (arith, s.some)) (λ l. omega (arith, s.most)) h
size_none n g s k (SizeFault.generators h) = ⊎_elim (λ l. omega (arith, s.less)) (λ l. omega (arith, s.few)) h

-- no sign is at fault where all are plus
plus_none : (g k : ℕ) → SignFault g 0 k → ⊥
plus_none g k (SignFault.past h) = omega (arith, pow_pos g)

-- 1: N 17
pub refusal_1 : Lowest (words_faults 17 1 (7 ∷ []) 0) 1
refusal_1 = lowest_at (words_faults 17 1 (7 ∷ []) 0) 1 (omega arith) (inl (SizeFault.factors (inr (omega arith)))) least
  where
    size : (k : ℕ) → SizeFault 17 1 k → 1 ≤ k
    size k (SizeFault.factors h) = omega arith
    size k (SizeFault.generators h) = omega arith

    least : (k : ℕ) → words_faults 17 1 (7 ∷ []) 0 k → 1 ≤ k
    least k f = ⊎_elim (size k) (⊎_elim (λ w. omega (arith, words_least 17 1 (7 ∷ []) k w)) (λ q. absurd (plus_none 1 k q))) f

-- 2: N 9, G 1
pub refusal_2 : Lowest (words_faults 9 1 (7 ∷ []) 0) 2
refusal_2 = lowest_at (words_faults 9 1 (7 ∷ []) 0) 2 (omega arith) (inl (SizeFault.generators (inr (omega arith)))) least
  where
    size : (k : ℕ) → SizeFault 9 1 k → 2 ≤ k
    size k (SizeFault.factors h) = ⊎_elim (λ l. absurd (omega arith)) (λ l. absurd (omega arith)) h
    size k (SizeFault.generators h) = omega arith

    least : (k : ℕ) → words_faults 9 1 (7 ∷ []) 0 k → 2 ≤ k
    least k f = ⊎_elim (size k) (⊎_elim (λ w. omega (arith, words_least 9 1 (7 ∷ []) k w)) (λ q. absurd (plus_none 1 k q))) f

-- 3: R 2
size_5 : Size 5 1
size_5 = record { some = omega arith; most = omega arith; less = omega arith; few = omega arith }

pub refusal_3 : Lowest (size_faults 5 1 2) 3
refusal_3 = lowest_at (size_faults 5 1 2) 3 (omega arith) (inr (ResolutionFault.outside (inl (omega arith)))) least
  where
    wanted : (k : ℕ) → ResolutionFault 2 k → 3 ≤ k
    wanted k (ResolutionFault.outside h) = omega arith

    least : (k : ℕ) → size_faults 5 1 2 k → 3 ≤ k
    least k f = ⊎_elim (λ s. absurd (size_none 5 1 size_5 k s)) (wanted k) f

-- a list of words of a size: its faults are those of the words
words_lowest : (n g : ℕ) (ws : List ℕ) (r : ℕ) → Size n g → 0 < r → WordsFault n g ws r → ((k : ℕ) → WordsFault n g ws k → r ≤ k)
    → Lowest (words_faults n g ws 0) r
words_lowest n g ws r s p f least =
    lowest_at (words_faults n g ws 0) r p (inr (inl f))
    (λ k h. ⊎_elim (λ q. absurd (size_none n g s k q)) (⊎_elim (least k) (λ q. absurd (plus_none g k q))) h)

-- 4: N 5, G 1, two words
pub refusal_4 : Lowest (words_faults 5 1 (7 ∷ 11 ∷ []) 0) 4
refusal_4 = words_lowest 5 1 (7 ∷ 11 ∷ []) 4 size_5 (omega arith) (WordsFault.count (λ e. omega arith)) (words_least 5 1 (7 ∷ 11 ∷ []))

-- 5: N 3, G 1, word 8
pub size_3 : Size 3 1
size_3 = record { some = omega arith; most = omega arith; less = omega arith; few = omega arith }

pub refusal_5 : Lowest (words_faults 3 1 (8 ∷ []) 0) 5
refusal_5 = words_lowest 3 1 (8 ∷ []) 5 size_3 (omega arith) (WordsFault.past 0 (omega arith) (omega arith)) least
  where
    least : (k : ℕ) → WordsFault 3 1 (8 ∷ []) k → 5 ≤ k
    least k (WordsFault.count h) = absurd (h refl)
    least k (WordsFault.past i l h) = omega arith
    least k (WordsFault.dependent h) = omega arith
    least k (WordsFault.short h) = omega arith

-- 6: N 4, G 2, word 7 twice
pub refusal_6 : Lowest (words_faults 4 2 (7 ∷ 7 ∷ []) 0) 6
unfolding below
refusal_6 = words_lowest 4 2 (7 ∷ 7 ∷ []) 6 size (omega arith) (WordsFault.dependent dependent_twice) least
  where
    size : Size 4 2
    size = record { some = omega arith; most = omega arith; less = omega arith; few = omega arith }

    within : (i : ℕ) → i < 2 → get_or (7 ∷ 7 ∷ []) i 0 < 16
    within i h = ltb-true (get_or (7 ∷ 7 ∷ []) i 0) 16 (below_at (λ j. ltb (get_or (7 ∷ 7 ∷ []) j 0) 16) 2 refl i h)

    least : (k : ℕ) → WordsFault 4 2 (7 ∷ 7 ∷ []) k → 6 ≤ k
    least k (WordsFault.count h) = absurd (h refl)
    least k (WordsFault.past i l h) = absurd (omega (arith, within i l))
    least k (WordsFault.dependent h) = omega arith
    least k (WordsFault.short h) = omega arith

-- 7: N 3, G 1, word 3
pub refusal_7 : Lowest (words_faults 3 1 (3 ∷ []) 0) 7
unfolding total below odd ones ones_in
refusal_7 = words_lowest 3 1 (3 ∷ []) 7 size_3 (omega arith) (WordsFault.short (record { word = 3; is = word; few = omega arith })) least
  where
    word : Word 3 (Generated 3 1 (3 ∷ [])) 3
    word = record { some = omega arith; within = omega arith; constant = λ x y p q. p.even 0 (omega arith) ∙ sym (q.even 0 (omega arith)) }

    within : (i : ℕ) → i < 1 → get_or (3 ∷ []) i 0 < 8
    within i h = ltb-true (get_or (3 ∷ []) i 0) 8 (below_at (λ j. ltb (get_or (3 ∷ []) j 0) 8) 1 refl i h)

    least : (k : ℕ) → WordsFault 3 1 (3 ∷ []) k → 7 ≤ k
    least k (WordsFault.count h) = absurd (h refl)
    least k (WordsFault.past i l h) = absurd (omega (arith, within i l))
    least k (WordsFault.dependent h) = absurd (h (only_zero_lem (total (3 ∷ []) 1) 2 refl))
    least k (WordsFault.short h) = omega arith

-- a list of columns without a fault
pub list_none : (n : ℕ) (c : List ℕ) → length c ≡ n → (k : ℕ) → ListFault n c k → ⊥
list_none n c e k (ListFault.count h) = h e

pub mask_none : (n : ℕ) (s : Runs) (mask : ℕ) → Allowed n s mask → (k : ℕ) → MaskFault n s mask k → ⊥
mask_none n s mask a k (MaskFault.barred h) = h a

-- n columns alone; a plan's bytes; and those of an entry without switches
pub bare_accepted : (n g : ℕ) (c : List ℕ) → Size n g → length c ≡ n → Entry n (n - g) 3 c → Lowest (bare_faults n g c) 0
bare_accepted n g c s e k =
    lowest_none (bare_faults n g c) (λ i f. ⊎_elim (size_none n g s i) (⊎_elim (list_none n c e i)
    (columns_none n (n - g) c k.smallest.columns.below k.smallest.columns.rank k.long i)) f)

pub bytes_accepted : (n g : ℕ) (c : List ℕ) → Size n g → length c ≡ plan_bytes n → Below n (n - g) c → Spans n (n - g) c → NoShort n 3 (plan_of n (n - g) c)
    → Allowed n (plan_of n (n - g) c) (mask_in n c) → Lowest (columns_faults n g c) 0
bytes_accepted n g c s e b sp ns a =
    lowest_none (columns_faults n g c) (λ i f. ⊎_elim (size_none n g s i) (⊎_elim (list_none (plan_bytes n) c e i)
    (⊎_elim (columns_none n (n - g) c b sp ns i) (mask_none n (plan_of n (n - g) c) (mask_in n c) a i))) f)

entry_accepted_bytes : (n g : ℕ) (c : List ℕ) → Size n g → length c ≡ plan_bytes n → mask_in n c ≡ 0 → Entry n (n - g) 3 c → Lowest (columns_faults n g c) 0
entry_accepted_bytes n g c s e z k =
    bytes_accepted n g c s e k.smallest.columns.below k.smallest.columns.rank k.long
    (subst (Allowed n (plan_of n (n - g) c)) (sym z) (allowed_none n (plan_of n (n - g) c)))

pub accepted_bare : Lowest (bare_faults 4 1 abc) 0
accepted_bare = bare_accepted 4 1 abc size_4 refl entry_abc

pub accepted_columns : Lowest (columns_faults 4 1 plan_abc) 0
accepted_columns = entry_accepted_bytes 4 1 plan_abc size_4 refl refl plan_abc_lem

pub accepted_abcd : Lowest (columns_faults 4 1 plan_abcd) 0
accepted_abcd = entry_accepted_bytes 4 1 plan_abcd size_4 refl refl plan_abcd_lem

-- independent words and signs of a plan that has no word below three letters
pub words_accepted : (n g : ℕ) (ws : List ℕ) (signs : ℕ) → Size n g → length ws ≡ g → WordsGiven n g ws → NoShort n 3 (Generated n g ws) → signs < 2 ^ g
    → Lowest (words_faults n g ws signs) 0
words_accepted n g ws signs s e given long few =
    lowest_none (words_faults n g ws signs) (λ k f. ⊎_elim (size_none n g s k) (⊎_elim (none k) (sign k)) f)
  where
    none : (k : ℕ) → WordsFault n g ws k → ⊥
    none k (WordsFault.count h) = h e
    none k (WordsFault.past i l h) = omega (arith, given.within i (omega arith))
    none k (WordsFault.dependent h) = h given.independent
    none k (WordsFault.short h) = omega (arith, h.few, long h.word h.is)

    sign : (k : ℕ) → SignFault g signs k → ⊥
    sign k (SignFault.past h) = omega arith

pub accepted_words : Lowest (words_faults 4 1 (7 ∷ []) 0) 0
unfolding total below
accepted_words =
    words_accepted 4 1 (7 ∷ []) 0 size_4 refl (is_given 4 1 (7 ∷ []) refl) (long_words (1 ∷ 0 ∷ []) words_abc.pattern) (omega arith)

pub accepted_word_abcd : Lowest (words_faults 4 1 (15 ∷ []) 0) 0
unfolding total below
accepted_word_abcd =
    words_accepted 4 1 (15 ∷ []) 0 size_4 refl (is_given 4 1 (15 ∷ []) refl) (long_words (0 ∷ 1 ∷ []) words_abcd.pattern) (omega arith)

pub runs_none : (n m : ℕ) (t : List ℕ) → Table n m t → NoShort n 3 (runs_of t) → (k : ℕ) → TableFault n m t k → ⊥
runs_none n m t tab ns k (TableFault.count h) = h tab.count
runs_none n m t tab ns k (TableFault.past x i h) = omega (arith, tab.within x i)
runs_none n m t tab ns k (TableFault.repeated h) = h tab.different
runs_none n m t tab ns k (TableFault.irregular h) = h tab.regular
runs_none n m t tab ns k (TableFault.short h) = omega (arith, h.few, ns h.word h.is)

pub accepted_runs : Lowest (runs_faults 4 1 runs_abc) 0
unfolding list_to run_of odd ones ones_in
accepted_runs =
    lowest_none (runs_faults 4 1 runs_abc) (λ k f. ⊎_elim (size_none 4 1 size_4 k) (runs_none 4 3 runs_abc table_abc_lem (whole_4.long 0 (omega arith)) k) f)

pub accepted_disguised : Lowest (runs_faults 4 1 disguised) 0
accepted_disguised =
    lowest_none (runs_faults 4 1 disguised) (λ k f. ⊎_elim (size_none 4 1 size_4 k) (runs_none 4 3 disguised table_disguised no_short_disguised k) f)

-- a record that holds an entry
pub design_none : (d : Design) → Holds 4 3 (Entry 4 3 3) d → (k : ℕ) → design_faults 4 1 d k → ⊥
design_none d h = none_lowest (design_faults 4 1 d) (entry_accepted 4 1 3 d size_4 (omega arith) h)

pub accepted_design : Lowest (design_faults 4 1 record_abc) 0
accepted_design = entry_accepted 4 1 3 record_abc size_4 (omega arith) holds_abc

-- runs that are not regular, refused by 6
pub refused_runs : Lowest (runs_faults 3 1 (0 ∷ 1 ∷ 2 ∷ 4 ∷ [])) 6
unfolding all
refused_runs =
    lowest_at (runs_faults 3 1 (0 ∷ 1 ∷ 2 ∷ 4 ∷ [])) 6 (omega arith) (inr (TableFault.irregular not_regular))
    (λ k f. ⊎_elim (λ q. absurd (size_none 3 1 size_3 k q)) (least k) f)
  where
    within : (x : ℕ) → In x (0 ∷ 1 ∷ 2 ∷ 4 ∷ []) → x < 8
    within x m = ltb-true x 8 (all_at (λ y. ltb y 8) (0 ∷ 1 ∷ 2 ∷ 4 ∷ []) refl x m)

    least : (k : ℕ) → TableFault 3 2 (0 ∷ 1 ∷ 2 ∷ 4 ∷ []) k → 6 ≤ k
    least k (TableFault.count h) = absurd (h refl)
    least k (TableFault.past x i h) = absurd (omega (arith, within x i))
    least k (TableFault.repeated h) = omega arith
    least k (TableFault.irregular h) = omega arith
    least k (TableFault.short h) = omega arith

-- 8: a witness of 4 for N 5
abbrev pub five_abc : List ℕ
five_abc = 1 ∷ 2 ∷ 3 ∷ 4 ∷ 8 ∷ 0 ∷ 0 ∷ []

abbrev pub five_abcd : List ℕ
five_abcd = 1 ∷ 2 ∷ 4 ∷ 7 ∷ 8 ∷ 0 ∷ 0 ∷ []

accepted_5 : (i : ℕ) (h : i < 3) (c : List ℕ) → Equal 5 (get_or fives i []) c → length c ≡ 7 → mask_in 5 c ≡ 0 → Lowest (columns_faults 5 1 c) 0
accepted_5 i h c e l z = entry_accepted_bytes 5 1 c size_5 l z (entry_equal 5 4 (get_or fives i []) c e 3 (catalogue_5.sound i h))

accepted_five_abc : Lowest (columns_faults 5 1 five_abc) 0
unfolding below
accepted_five_abc = accepted_5 0 (omega arith) five_abc (agree_at (λ f. get_or (get_or fives 0 []) f 0) (λ f. get_or five_abc f 0) 5 refl) refl refl

accepted_five_abcd : Lowest (columns_faults 5 1 five_abcd) 0
unfolding below
accepted_five_abcd = accepted_5 1 (omega arith) five_abcd (agree_at (λ f. get_or (get_or fives 1 []) f 0) (λ f. get_or five_abcd f 0) 5 refl) refl refl

pub refusal_8 : Lowest (either (either (columns_faults 5 1 five_abc) (columns_faults 5 1 five_abcd)) (LentFault 5 (0 ∷ 0 ∷ 0 ∷ 0 ∷ []))) 8
refusal_8 =
    lowest_at (either (either (columns_faults 5 1 five_abc) (columns_faults 5 1 five_abcd)) (LentFault 5 (0 ∷ 0 ∷ 0 ∷ 0 ∷ [])))
    8 (omega arith) (inr (LentFault.few (omega arith)))
    (λ k f. ⊎_elim
    (λ p. ⊎_elim
    (λ a. absurd (none_lowest (columns_faults 5 1 five_abc) accepted_five_abc k a))
    (λ b. absurd (none_lowest (columns_faults 5 1 five_abcd) accepted_five_abcd k b)) p)
    (λ l. omega (arith, lent_is 5 (0 ∷ 0 ∷ 0 ∷ 0 ∷ []) k l)) f)

-- 9: N 5, G 1, R 3, a list of 2
pub refusal_9 : Lowest (catalogue_faults 5 1 3 (λ k. k ≤ 2)) 9
refusal_9 =
    lowest_at (catalogue_faults 5 1 3 (λ k. k ≤ 2)) 9 (omega arith)
    (inr (RoomFault.more 3 (λ i. get_or fives i []) catalogue_5 (λ l. omega arith)))
    (λ k f. ⊎_elim (λ s. ⊎_elim (λ q. absurd (size_none 5 1 size_5 k q)) (wanted k) s) (room k) f)
  where
    wanted : (k : ℕ) → ResolutionFault 3 k → 9 ≤ k
    wanted k (ResolutionFault.outside h) = ⊎_elim (λ l. absurd (omega arith)) (λ l. absurd (omega arith)) h

    room : (k : ℕ) → RoomFault 5 4 3 (λ i. i ≤ 2) k → 9 ≤ k
    room k (RoomFault.more total all c h) = omega arith

-- a fault of every other kind: 2 for G not below N, 4 for lists, records and tables of a wrong count, 5 past the bits and past N
pub fault_generators : SizeFault 4 4 2
fault_generators = SizeFault.generators (inl (omega arith))

pub fault_no_factor : SizeFault 0 0 1
fault_no_factor = SizeFault.factors (inl (omega arith))

pub fault_resolution : ResolutionFault 17 3
fault_resolution = ResolutionFault.outside (inr (omega arith))

pub fault_list : ListFault 4 (1 ∷ 2 ∷ 4 ∷ []) 4
fault_list = ListFault.count (λ e. omega arith)

pub fault_factors : RecordFault 5 3 record_abc 4
fault_factors = RecordFault.factors (λ e. omega arith)

pub fault_basics : RecordFault 4 2 record_abc 4
fault_basics = RecordFault.basics (λ e. omega arith)

pub fault_used : RecordFault 3 3 record_abc 5
fault_used = RecordFault.used 3 (omega arith) (omega arith) (λ e. omega arith)

pub fault_above : ColumnsFault 4 3 (1 ∷ 2 ∷ 4 ∷ 8 ∷ []) 5
fault_above = ColumnsFault.above 3 (omega arith) (omega arith)

pub fault_rank : ColumnsFault 4 3 (1 ∷ 1 ∷ 2 ∷ 3 ∷ []) 6
fault_rank = ColumnsFault.rank not_spans

pub fault_repeat : ColumnsFault 4 3 (1 ∷ 1 ∷ 2 ∷ 4 ∷ []) 7
fault_repeat =
    ColumnsFault.short (repeat_gives_short 4 3 (plan_of 4 3 (1 ∷ 1 ∷ 2 ∷ 4 ∷ [])) (1 ∷ 1 ∷ 2 ∷ 4 ∷ []) (agree_refl (plan_of 4 3 (1 ∷ 1 ∷ 2 ∷ 4 ∷ [])))
    repeat_ab)

pub fault_runs : TableFault 4 3 (0 ∷ 5 ∷ []) 4
fault_runs = TableFault.count (λ e. omega arith)

pub fault_past : TableFault 2 1 (0 ∷ 5 ∷ []) 5
fault_past = TableFault.past 5 (inr (inl refl)) (omega arith)

pub fault_repeated : TableFault 2 1 (1 ∷ 1 ∷ []) 6
fault_repeated = TableFault.repeated (λ d. d.0 (inl refl))

pub fault_irregular : TableFault 3 2 (0 ∷ 1 ∷ 2 ∷ 4 ∷ []) 6
fault_irregular = TableFault.irregular not_regular

pub fault_short : TableFault 2 1 (0 ∷ 3 ∷ []) 7
unfolding all ones ones_in odd
fault_short = TableFault.short (record { word = 3; is = word; few = omega arith })
  where
    even : (x : ℕ) → In x (0 ∷ 3 ∷ []) → odd x 3 ≡ 0
    even x m = eqb-true (odd x 3) 0 (all_at (λ y. eqb (odd y 3) 0) (0 ∷ 3 ∷ []) refl x m)

    word : Word 2 (runs_of (0 ∷ 3 ∷ [])) 3
    word = record { some = omega arith; within = omega arith; constant = λ x y p q. even x p ∙ sym (even y q) }

pub fault_wanted : WantedFault 4 4 (plan_of 4 3 abc) 7
fault_wanted = WantedFault.short short_abc

pub fault_lent : LentFault 4 (9 ∷ 9 ∷ []) 8
fault_lent = LentFault.few (omega arith)

pub fault_bytes : BytesFault 4 (1 ∷ 2 ∷ 4 ∷ 7 ∷ []) 4
fault_bytes = BytesFault.count (λ count e. omega arith)
