use Rattle.std.proofs.Common.{refl, arith}
use Rattle.std.proofs.lemmas.Bool.{false≢true}
use Rattle.column_forms.specs.TableLaws.{seen_none, seen_twice}
use Rattle.column_forms.proofs.distinct_nonzero.Goals as goal

pub loop-f-init : goal.loop-f-init
loop-f-init c = seen_none _ _ refl

pub returns-then-seen-z-ne0 : goal.returns-then-seen-z-ne0
returns-then-seen-z-ne0 c = (
  λ e. absurd (false≢true e),
  λ e. seen_twice _ _ _ _ c.from-z.ensures c.loop-f.invariant _ (omega arith) c.if-seen-z-ne0.true,
)
