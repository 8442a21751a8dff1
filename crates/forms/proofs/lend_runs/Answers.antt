-- `forms::lend_runs` meets its contract: the runs of the columns, switched, are lent. Assumes nothing.
use Rattle.std.proofs.Common.{arith, subst, ◌∙◌, ◌-◌, ℕ, ◌≤◌, length}
use Rattle.std.proofs.Math.Pow.{pow_mono}
use Rattle.lent.specs.Lends.{Lends, lends_means}
use Rattle.regular.specs.Answers.{refusal_of}
use Rattle.regular.specs.Columns.{ListedWith}
use Rattle.forms.proofs.Parts.{part_lent}
use Rattle.forms.proofs.lend_runs.Goals as goal

pub returns : goal.returns
returns c =
    let a = c.args in
    let w = c.switched_table-runs in
    let q = c.power-end in
    let l = c.lend_numbers in
    let m = a.n - a.g in
    let o = a.out.now in
    let x = l.new.out in
    let fits : q.result ≤ length w.result = omega (arith, w.ensures.places, q.ensures.0, pow_mono {i = m} {j = 7} c.requires.few) in
    subst (λ (k : ℕ). Lends 0 k (ListedWith a.n m a.columns a.mask) o x (refusal_of l.result)) q.ensures.0
    (lends_means 0 q.result _ (ListedWith a.n m a.columns a.mask) o x (refusal_of l.result)
    (λ _ h j i. h j (omega (arith, q.ensures.0)) ∙ w.ensures.run j i) (part_lent q.result w.result fits l.ensures))
