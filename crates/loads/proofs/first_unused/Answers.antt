use Rattle.std.proofs.Common.{◌≡◌, ℕ, ◌+◌, ◌%◌, ◌<◌, get_or, sym, ap, ◌∙◌, subst, inl, inr, mod-lt, arith, below_more}
use Rattle.regular.specs.Columns.{Column}
use Rattle.regular.specs.Loads.{FirstUnused}
use Rattle.load_laws.specs.Unused.{stepped, step_more}
use Rattle.loads.specs.Marks.{marks_first}
use Rattle.loads.proofs.first_unused.Goals as goal

pub returns-then-seen-column-eq0 : goal.returns-then-seen-column-eq0
returns-then-seen-column-eq0 c =
    let a = c.args in
    let i = c.loop.invariant in (
      i.0,
      i.1,
      λ b s. subst (FirstUnused a.last (Column a.f b) (a.x + 1)) (sym i.2)
          (marks_first b a.f a.seen.now s a.last a.x c.loop.counter (omega arith) (omega arith) i.3
          (inl (ap (λ (v : ℕ). get_or a.seen.now v 0) (sym i.2) ∙ c.if-seen-column-eq0.true))),
    )

pub loop-preserved : goal.loop-preserved
loop-preserved c =
    let a = c.args in
    let i = c.loop.invariant in
    let small : c.loop.column % a.last < a.last = mod-lt c.loop.column (omega arith) in (
      omega arith,
      omega arith,
      ap (λ (v : ℕ). v % a.last + 1) i.2 ∙ step_more a.last a.x c.loop.counter,
      below_more (λ (j : ℕ). get_or a.seen.now (stepped a.last a.x j) 0 ≡ 0 → ⊥) c.loop.counter i.3
          (λ e. c.if-seen-column-eq0.false (ap (λ (v : ℕ). get_or a.seen.now v 0) i.2 ∙ e)),
    )

pub returns : goal.returns
returns c =
    let a = c.args in
    let i = c.loop.invariant in (
      i.0,
      i.1,
      λ b s. subst (FirstUnused a.last (Column a.f b) (a.x + 1)) (sym i.2)
          (marks_first b a.f a.seen.now s a.last a.x c.loop.counter (omega arith) (omega arith) i.3 (inr (omega arith))),
    )
