-- The shape of a problem: what the text of an answer to it takes.
use Rattle.std.specs.Prelude.{◌≡◌, ℕ, ◌+◌, ◌≤◌, length}
use Rattle.tier_core.specs.declared.shape.Shape.{Shape}
use Rattle.tier_core.specs.KindShapes.{free_count, stretch_count}
use Rattle.tier_core.specs.Shapes.{masked_count}
use Rattle.violation.specs.Prefixes.{stretches}
use Rattle.violation.specs.Problems.{Problem, last_stage}

-- A shape is that of a problem: it has as many tiers, input tiers and free tiers, as many stages, and at
-- each stage as many stretch implications.
pub record IsShapeOfProblem (problem : Problem) (shape : Shape) : Type 0 where
  pub width : shape.width ≡ problem.tiers.width
  pub inputs : masked_count shape.inputs ≡ length problem.tiers.input
  pub free : free_count shape ≡ length problem.tiers.free
  pub stages : length shape.phases.items ≡ last_stage problem + 1
  pub phases : (r : ℕ) → r ≤ last_stage problem → stretch_count shape r ≡ length (stretches problem r)
