-- Plans: what rests on the examples.
use Rattle.std.specs.Prelude.{◌≡◌, refl, [], ◌∷◌}
use Rattle.std.proofs.Common.{arith}
use Rattle.regular.specs.Words.{NoShort, Generated}
use Rattle.regular.specs.Columns.{plan_of}
use Rattle.regular.specs.Pattern.{Resolution, LessAberration, AberrationCriterion}
use Rattle.counts.specs.Aberration.{less_criterion}
use Rattle.whiteboard.proofs.Samples.{printed_samples}
use Rattle.whiteboard.proofs.Whiteboard.{whiteboard}
use Rattle.whiteboard.specs.PlanInstances.{long_words}

pub resolution_full : Resolution 3 (Generated 3 0 []) 4
resolution_full = whiteboard.1.1.1.0.resolution

-- it meets R 5, which is above its resolution
pub no_short_full : NoShort 3 5 (plan_of 3 3 (1 ∷ 2 ∷ 4 ∷ []))
no_short_full = ((whiteboard.1.1.0 5 (omega arith) (omega arith)).sound 0 (omega arith)).long

pub less_000 : LessAberration 7 5 (Generated 7 2 (39 ∷ 94 ∷ [])) (Generated 7 2 (39 ∷ 89 ∷ []))
less_000 = record {
  p = 0 ∷ 0 ∷ 0 ∷ 1 ∷ 2 ∷ 0 ∷ 0 ∷ [];
  q = 0 ∷ 0 ∷ 0 ∷ 2 ∷ 0 ∷ 1 ∷ 0 ∷ [];
  of_t = printed_samples.0.pattern;
  of_s = printed_samples.1.0.pattern;
  better = record {
    at = 4;
    from = omega arith;
    to = omega arith;
    before = λ l h k. let e : l ≡ 3 = omega arith in rw e refl;
    fewer = omega arith;
  };
}

pub criterion_000 : AberrationCriterion 7 (Generated 7 2 (39 ∷ 94 ∷ [])) (Generated 7 2 (39 ∷ 89 ∷ []))
criterion_000 =
    less_criterion
    (long_words (0 ∷ 1 ∷ 2 ∷ 0 ∷ 0 ∷ []) printed_samples.0.pattern)
    (long_words (0 ∷ 2 ∷ 0 ∷ 1 ∷ 0 ∷ []) printed_samples.1.0.pattern) less_000
