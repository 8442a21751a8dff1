-- Columns in standard form are the standard columns of document 01, and the other way round; so its definition fixes the columns.
use Rattle.std.specs.Prelude.{◌≡◌, List, [], ◌∷◌, ℕ, zero, suc, ◌*◌, ◌^◌, ◌≤◌, ◌<◌, get_or}
use Rattle.std.proofs.Common.{sym, ap, ap₂, ◌∙◌, subst, inl, inr, ⊎_elim, arith}
use Rattle.std.proofs.Math.Logic.{by_cases}
use Rattle.std.proofs.Math.Decide.{ℕ_discrete}
use Rattle.std.specs.Int.Bits.{bit_xor}
use Rattle.gf2.specs.Counts.{Count, count_unique, count_same}
use Rattle.gf2.specs.DigitLaws.{xor_none}
use Rattle.regular.specs.Columns.{Basic, StandardColumns, plan_of}
use Rattle.regular.specs.Runs.{Runs}
use Rattle.regular.specs.Words.{total}
use Rattle.standard.specs.Form.{units_before, StandardForm, StandardFor}
use Rattle.standard.specs.Plans.{word_cancels}
use Rattle.standard.specs.Runs.{plan_cols}
use Rattle.standard.specs.Total.{total_cols, total_more, total_unit, total_xor}
use Rattle.standard.specs.Units.{spread, spread_lt, units_at, unitary, based_lt, units_next, standard_below, units_same, units_zero, units_stay}
use Rattle.words.specs.Switches.{agree_sym, agree_trans, word_agree, agree_refl}
use Rattle.words.specs.ToWords.{word_at, basic_last_of_none, other_last_of_one}
use Rattle.words.specs.WordList.{is_unit}

-- the units among the first f columns, counted
units_count : (a : List ℕ) (f : ℕ) → Count (λ e. (e < f) × is_unit a e) (units_before a f)
units_count a zero = record { members = []; different = tt; each = λ x m. absurd m; all = λ x p. absurd (omega (arith, p.0)); number = sym (units_zero a) }
units_count a (suc f) =
    let c = units_count a f in
    by_cases (ℕ_discrete (get_or a f 0) (2 ^ units_before a f))
    (λ u. record {
      members = f ∷ c.members;
      different = ((λ m. omega (arith, (c.each f m).0)), c.different);
      each = λ x m. ⊎_elim (λ e. (omega arith, subst (is_unit a) (sym e) u)) (λ i. let r = c.each x i in (omega (arith, r.0), r.1)) m;
      all = λ x p. by_cases (ℕ_discrete x f) (λ e. inl e) (λ ne. inr (c.all x (omega (arith, p.0), p.1)));
      number = omega (arith, c.number, units_next a f u);
    })
    (λ u. record {
      members = c.members;
      different = c.different;
      each = λ x m. let r = c.each x m in (omega (arith, r.0), r.1);
      all = λ x p. by_cases (ℕ_discrete x f) (λ e. absurd (u (subst (is_unit a) e p.1))) (λ ne. c.all x (omega (arith, p.0), p.1));
      number = c.number ∙ sym (units_stay a f u);
    })

-- columns in standard form: the basic factors are those of the units
module _ (n m : ℕ) (s : Runs) (a : List ℕ) (st : StandardFor n m s a) where
  pub unit_basic : (f : ℕ) → f < n → is_unit a f → Basic n s f
  unit_basic f h u w word last = basic_last_of_none n m a st.form f h u w (word_agree n s (plan_of n m a) st.plan w word) last

  pub basic_unit : (f : ℕ) → f < n → Basic n s f → is_unit a f
  basic_unit f h b =
      by_cases (ℕ_discrete (get_or a f 0) (2 ^ units_before a f)) (λ u. u)
      (λ ne.
      let r = other_last_of_one n m a st.form f h ne in
      absurd (b (word_at a f) (word_agree n (plan_of n m a) s (agree_sym s (plan_of n m a) st.plan) (word_at a f) r.0) r.1))

  -- as many basic factors before f as units
  basics_count : (f : ℕ) → f ≤ n → Count (λ e. (e < f) × Basic n s e) (units_before a f)
  basics_count f h =
      count_same (λ e. (e < f) × is_unit a e) (λ e. (e < f) × Basic n s e) (units_before a f)
      (λ e p. (p.0, unit_basic e (omega (arith, p.0)) p.1))
      (λ e p. (p.0, basic_unit e (omega (arith, p.0)) p.1))
      (units_count a f)

  pub form_standard : StandardColumns n m s a
  form_standard =
      record {
        below = standard_below n m a st.form;
        plan = st.plan;
        basic = λ f k h b c. basic_unit f h b
            ∙ ap (λ (i : ℕ). 2 ^ i) (count_unique (λ e. (e < f) × Basic n s e) (units_before a f) k (basics_count f (omega arith)) c);
      }

-- the column of f from those before it, by a word with last letter f
column_of_lem : (c : List ℕ) (n f r : ℕ) → f < n → r < 2 ^ f → total c n (bit_xor (1 * 2 ^ f) r) ≡ 0 → get_or c f 0 ≡ total c f r
column_of_lem c n f r h l z =
    let e : 1 * 2 ^ f ≡ 2 ^ f = omega arith in
    xor_none (get_or c f 0) (total c f r)
    (sym (total_xor c n (1 * 2 ^ f) r ∙ ap₂ bit_xor (ap (total c n) e ∙ total_unit c f n h) (total_more c f n r (omega arith) l)) ∙ z)

module _ (n m : ℕ) (s : Runs) (a c : List ℕ) (st : StandardFor n m s a) (sc : StandardColumns n m s c) where
  same_at : (f : ℕ) → f < n → ((g : ℕ) → g < f → get_or a g 0 ≡ get_or c g 0) → get_or a f 0 ≡ get_or c f 0
  same_at f h ih =
      by_cases (ℕ_discrete (get_or a f 0) (2 ^ units_before a f))
      (λ u. u ∙ sym (sc.basic f (units_before a f) h (unit_basic n m s a st f h u) (basics_count n m s a st f (omega arith))))
      (λ ne.
      let w = word_at a f in
      let r = spread (units_at a f) (get_or a f 0) in
      let l : r < 2 ^ f = spread_lt (units_at a f) f (based_lt a f (units_at a f) (unitary a f).based) (get_or a f 0) in
      let word = (other_last_of_one n m a st.form f h ne).0 in
      let agree = agree_trans (plan_of n m a) s (plan_of n m c) (agree_sym s (plan_of n m a) st.plan) sc.plan in
      column_of_lem a n f r h l (word_cancels n m a (standard_below n m a st.form) w word)
      ∙ total_cols a c f r ih
      ∙ sym (column_of_lem c n f r h l (word_cancels n m c sc.below w (word_agree n (plan_of n m a) (plan_of n m c) agree w word))))

  same_below : (f : ℕ) → f ≤ n → (g : ℕ) → g < f → get_or a g 0 ≡ get_or c g 0
  same_below zero h g l = absurd (omega arith)
  same_below (suc f) h g l =
      let ih : (i : ℕ) → i < f → get_or a i 0 ≡ get_or c i 0 = same_below f (omega arith) in
      by_cases (ℕ_discrete g f) (λ e. rw e (same_at f h ih)) (λ ne. ih g (omega arith))

  -- document 01's definition fixes the columns
  pub standard_columns_unique : (f : ℕ) → f < n → get_or a f 0 ≡ get_or c f 0
  standard_columns_unique f h = same_below n (omega arith) f h

-- the form is one of the first n columns
pub form_cols : (n m : ℕ) (a c : List ℕ) → StandardForm n m a → ((f : ℕ) → f < n → get_or a f 0 ≡ get_or c f 0) → StandardForm n m c
form_cols n m a c s e =
    record {
      next = λ f h.
          let u = ap (λ (k : ℕ). 2 ^ k) (units_same a c f (λ g l. e g (omega arith))) in
          omega (arith, e f h, s.next f h);
      units = sym (units_same a c n e) ∙ s.units;
    }

-- columns in standard form are the standard columns of their plan
pub standard_own : (n m : ℕ) (a : List ℕ) → StandardForm n m a → StandardFor n m (plan_of n m a) a
standard_own n m a s = record { form = s; plan = agree_refl (plan_of n m a) }

-- equal columns are as good
pub standard_cols : (n m : ℕ) (s : Runs) (a c : List ℕ) → StandardFor n m s a → ((f : ℕ) → f < n → get_or a f 0 ≡ get_or c f 0) → StandardFor n m s c
standard_cols n m s a c st e =
    record {
      form = form_cols n m a c st.form e;
      plan = agree_trans s (plan_of n m a) (plan_of n m c) st.plan (plan_cols n m a c e);
    }
