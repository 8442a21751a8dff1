-- The published form of "the same plan" (document 002, proposition II.2): two regular plans are the same exactly if a renaming of the factors turns
-- the words of the one into the words of the other. Document 01's definition, by runs, is shown to say that.
use Rattle.std.specs.Prelude.{◌≡◌, refl, List, ℕ, ◌^◌, ◌<◌, get_or}
use Rattle.std.proofs.Common.{sym, ap, subst, ◌∙◌, pow_pos}
use Rattle.std.specs.Int.Bits.{bit_xor, xor_zero_r}
use Rattle.gf2.specs.Digits.{odd}
use Rattle.gf2.specs.Parity.{odd_zero_l}
use Rattle.regular.specs.Columns.{plan_of, run_of}
use Rattle.regular.specs.Runs.{Runs, runs_of, switched, Table}
use Rattle.regular.specs.Same.{moved, Renaming, Carries, Same}
use Rattle.regular.specs.Words.{Word}
use Rattle.standard.specs.Form.{StandardForm}
use Rattle.standard.specs.FromTable.{head_in}
use Rattle.standard.proofs.FromTable.{table_standard}
use Rattle.standard.specs.Model.{standard}
use Rattle.standard.specs.Runs.{run_zero}
use Rattle.words.specs.ReducedWords.{reduced_words_lem}
use Rattle.words.specs.Switches.{agree_sym, word_agree, word_switched, word_switched_back}
use Rattle.words.specs.WordList.{words_to}
use Rattle.words.specs.Standards.{standard_own}
use Rattle.isomorphism_laws.specs.KeptWords.{word_moved, word_from}
use Rattle.isomorphism_laws.specs.Masks.{plan_within, switched_witness}
use Rattle.isomorphism_laws.specs.Renamings.{moved_lt, odd_moved, unmoved, unmoved_lt, moved_unmoved}

-- the renaming p turns the words of s into those of t
pub record Renames (n : ℕ) (s t : Runs) (p : List ℕ) : Type 0 where
  pub renaming : Renaming n p
  pub into : (w : ℕ) → Word n s w → Word n t (moved p n w)
  pub onto : (v : ℕ) → Word n t v → (w : ℕ) × (Word n s w × (v ≡ moved p n w))

-- the same plan: so do the names of any witness
pub same_words : (n : ℕ) (s t : Runs) (k : Same n s t) → Renames n s t k.names
same_words n s t k = record {
  renaming = k.carries.renaming;
  into = word_moved n s t k.names k.mask k.carries;
  onto = word_from n s t k.names k.mask k.carries;
}

-- columns in standard form: every run has an even number of low levels in every word
even_run : (n m : ℕ) (c : List ℕ) (x w : ℕ) → plan_of n m c x → Word n (plan_of n m c) w → odd x w ≡ 0
even_run n m c x w p h =
    h.constant x (run_of c n 0) p (0, (pow_pos m, refl)) ∙ ap (λ (r : ℕ). odd r w) (run_zero c n) ∙ odd_zero_l w

-- .. and a run that is even in every word is one of the plan
run_of_even : (n m : ℕ) (c : List ℕ) → StandardForm n m c → (x : ℕ) → x < 2 ^ n → ((w : ℕ) → Word n (plan_of n m c) w → odd x w ≡ 0) → plan_of n m c x
run_of_even n m c f x l h =
    let r = reduced_words_lem n m (plan_of n m c) c (standard_own n m c f) in
    r.plan.onto x (record { within = l; even = λ i q. h (get_or (words_to c n) i 0) (r.word i q) })

module _ (n m : ℕ) (a d p : List ℕ) (sa : StandardForm n m a) (sd : StandardForm n m d) (r : Renames n (plan_of n m a) (plan_of n m d) p) where
  run_moved : (x : ℕ) → plan_of n m a x → plan_of n m d (moved p n x)
  run_moved x q =
      run_of_even n m d sd (moved p n x) (moved_lt n p r.renaming x)
      (λ v h. let o = r.onto v h in
      ap (odd (moved p n x)) o.1.1 ∙ odd_moved n p r.renaming x o.0 o.1.0.within ∙ even_run n m a x o.0 q o.1.0)

  run_unmoved : (y : ℕ) → plan_of n m d y → plan_of n m a (unmoved p n y)
  run_unmoved y q =
      let e = moved_unmoved n p r.renaming y (plan_within n m d y q) in
      run_of_even n m a sa (unmoved p n y) (unmoved_lt n p y)
      (λ w h. sym (odd_moved n p r.renaming (unmoved p n y) w h.within) ∙ ap (λ (z : ℕ). odd z (moved p n w)) e
      ∙ even_run n m d y (moved p n w) q (r.into w h))

  columns_carried : Carries n (plan_of n m a) (plan_of n m d) p 0
  columns_carried = record {
    renaming = r.renaming;
    within = pow_pos n;
    into = λ x q. subst (plan_of n m d) (sym (xor_zero_r (moved p n x))) (run_moved x q);
    onto = λ y q. (
      unmoved p n y,
      (run_unmoved y q, sym (moved_unmoved n p r.renaming y (plan_within n m d y q)) ∙ sym (xor_zero_r (moved p n (unmoved p n y)))),
    );
  }

-- the words of a table are those of its standard columns
module _ (n m : ℕ) (t : List ℕ) (tab : Table n m t) where
  columns_word_lem : (w : ℕ) → Word n (runs_of t) w → Word n (plan_of n m (standard t n)) w
  columns_word_lem w h =
      word_agree n (switched (get_or t 0 0) (runs_of t)) (plan_of n m (standard t n)) (table_standard n m t tab).plan w
      (word_switched n (get_or t 0 0) (runs_of t) w h)

  table_word : (w : ℕ) → Word n (plan_of n m (standard t n)) w → Word n (runs_of t) w
  table_word w h =
      word_switched_back n (get_or t 0 0) (runs_of t) w
      (word_agree n (plan_of n m (standard t n)) (switched (get_or t 0 0) (runs_of t))
      (agree_sym (switched (get_or t 0 0) (runs_of t)) (plan_of n m (standard t n)) (table_standard n m t tab).plan) w h)

-- a renaming that turns the words of one regular table into those of another: the plans are the same
pub words_same : (n m : ℕ) (t u p : List ℕ) → Table n m t → Table n m u → Renames n (runs_of t) (runs_of u) p → Same n (runs_of t) (runs_of u)
words_same n m t u p first second r =
    let a = standard t n in
    let d = standard u n in
    let k : Carries n (plan_of n m a) (plan_of n m d) p 0 =
    columns_carried n m a d p (table_standard n m t first).form (table_standard n m u second).form (record {
      renaming = r.renaming;
      into = λ w h. columns_word_lem n m u second (moved p n w) (r.into w (table_word n m t first w h));
      onto = λ v h. let o = r.onto v (table_word n m u second v h) in (o.0, (columns_word_lem n m t first o.0 o.1.0, o.1.1));
    }) in
    record {
      names = p;
      mask = bit_xor (moved p n (get_or t 0 0)) (get_or u 0 0);
      carries = switched_witness n m (runs_of t) (runs_of u) (get_or t 0 0) (get_or u 0 0) a d (second.within (get_or u 0 0) (head_in n m u second))
          (table_standard n m t first).plan (table_standard n m u second).plan p k;
    }
