-- A regular plan's set of runs is the plan of exactly one record: standard columns with an allowed mask. And of any columns of its rank, with switches,
-- exactly one allowed mask gives the same runs.
use Rattle.std.specs.Prelude.{ℕ, ◌^◌, ◌<◌, ◌≡◌, List, get_or}
use Rattle.std.proofs.Common.{sym, subst, ◌∙◌, pow_pos}
use Rattle.std.specs.Int.Bits.{xor_self}
use Rattle.regular.specs.Runs.{Runs, Agree, Table, runs_of, switched}
use Rattle.regular.specs.Columns.{plan_of, plan_with, StandardColumns, Allowed, Standard}
use Rattle.regular.specs.Smallest.{Equal}
use Rattle.standard.specs.Form.{StandardFor}
use Rattle.standard.specs.FromTable.{head_in}
use Rattle.standard.proofs.FromTable.{table_standard}
use Rattle.standard.specs.Model.{standard}
use Rattle.standard.specs.Runs.{run_zero}
use Rattle.words.specs.Standards.{standard_columns_unique}
use Rattle.words.specs.Switches.{agree_sym, agree_trans, switched_twice}
use Rattle.signs.specs.MaskLaws.{basic_switched, basic_switched_back, mask_one, mask_run}
use Rattle.signs.specs.SignLaws.{switched_agree}
use Rattle.signs.specs.MaskLaws.{mask_of_some, mask_within, mask_of_form, mask_of_allowed, mask_of_standard}

-- one record, and no other
pub record OneRecord (n m : ℕ) (s : Runs) : Type 0 where
  pub columns : List ℕ
  pub mask : ℕ
  pub within : mask < 2 ^ n
  pub is : Standard n m s columns mask
  pub only : (c : List ℕ) (other : ℕ) → Standard n m s c other → Equal n columns c × (mask ≡ other)

-- from any run of the plan
pub record_from : (n m : ℕ) (s : Runs) (x : ℕ) (c : List ℕ) → x < 2 ^ n → StandardFor n m (switched x s) c → OneRecord n m s
record_from n m s x c l st =
    let k = mask_of_some n c x in
    let mask = k.0 in
    let own = mask_of_form n m s x c mask st k.1 in
    record {
      columns = c;
      mask = mask;
      within = mask_within n c x mask k.1 l;
      is = mask_of_standard n m s x c mask st k.1 l;
      only = λ d other g.
          let e : mask ≡ other = mask_one n m s c mask other own (mask_of_allowed n m s x c mask st k.1 l)
          (mask_run n m s d other g.columns.plan) g.allowed in
          (standard_columns_unique n m (switched mask s) c d own (subst (λ (y : ℕ). StandardColumns n m (switched y s) d) (sym e) g.columns), e);
    }

-- every regular run table
pub one_record : (n m : ℕ) (t : List ℕ) → Table n m t → OneRecord n m (runs_of t)
one_record n m t tab = record_from n m (runs_of t) (get_or t 0 0) (standard t n) (tab.within (get_or t 0 0) (head_in n m t tab)) (table_standard n m t tab)

-- columns whose plan has the standard columns a
module _ (n m : ℕ) (c a : List ℕ) (st : StandardFor n m (plan_of n m c) a) where
  own : (x : ℕ) → StandardFor n m (switched x (plan_with n m c x)) a
  own x = record {
    form = st.form;
    plan = agree_trans (switched x (plan_with n m c x)) (plan_of n m c) (plan_of n m a) (switched_twice x (plan_of n m c)) st.plan;
  }

  -- two allowed masks that give one set of runs are one
  pub allowed_one : (mask other : ℕ) → Allowed n (plan_of n m c) mask → Allowed n (plan_of n m c) other → Agree (plan_with n m c mask) (plan_with n m c other)
      → mask ≡ other
  allowed_one mask other p q e =
      mask_one n m (plan_with n m c mask) a mask other (own mask)
      (λ f b. p f (basic_switched_back n mask (plan_of n m c) f b))
      (e.onto other (0, (pow_pos m, xor_self other ∙ sym (run_zero c n))))
      (λ f b. q f (basic_switched_back n mask (plan_of n m c) f b))

  -- .. and there is one, for the runs that any switches give
  pub allowed_some : (x : ℕ) → x < 2 ^ n
      → (mask : ℕ) × ((mask < 2 ^ n) × (Allowed n (plan_of n m c) mask × Agree (plan_with n m c x) (plan_with n m c mask)))
  allowed_some x l =
      let s = plan_with n m c x in
      let k = mask_of_some n a x in
      let mask = k.0 in
      let plan : Agree (switched mask s) (plan_of n m c) =
      agree_trans (switched mask s) (plan_of n m a) (plan_of n m c) (mask_of_form n m s x a mask (own x) k.1).plan
      (agree_sym (plan_of n m c) (plan_of n m a) st.plan) in (
        mask,
        (
          mask_within n a x mask k.1 l,
          (
            λ f b. mask_of_allowed n m s x a mask (own x) k.1 l f (basic_switched n x (plan_of n m c) f b),
            agree_trans s (switched mask (switched mask s)) (plan_with n m c mask) (agree_sym (switched mask (switched mask s)) s (switched_twice mask s))
                (switched_agree mask (switched mask s) (plan_of n m c) plan),
          ),
        ),
      )
