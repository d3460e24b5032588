-- Kinds whose bits fit the stage at which they are listed.
use Rattle.std.specs.Prelude.{ℕ, ◌^◌, ◌<◌, ◌≤◌, length, All}
use Rattle.tier_core.specs.declared.kind.Kind.{Kind}
use Rattle.tier_core.specs.Kinds.{AreStretchesBelow}
use Rattle.violation.specs.Prefixes.{stretches}
use Rattle.violation.specs.Problems.{Problem, last_stage}
use Rattle.answer_text.specs.declared.answer.Answer.{Answer}
use Rattle.answer_text.specs.declared.once_answer.OnceAnswer.{OnceAnswer}
use Rattle.answer_text.specs.Right.{nodes_at}

-- No bit of `opened` is set from the number of free tiers on, and none of `unmet` and `met` from the
-- number of stretch implications among the first r constraints on.
pub record FitsStage (problem : Problem) (r : ℕ) (kind : Kind) : Type 0 where
  pub opened : kind.opened < 2 ^ length problem.tiers.free
  pub stretches : AreStretchesBelow (length (stretches problem r)) kind

-- the kind of each node of each stage fits the stage
abbrev pub HaveFittingKinds : Problem → Answer → Type 0
HaveFittingKinds problem answer = (r : ℕ) → r ≤ last_stage problem
    → All (λ node. FitsStage problem r node.kind) (nodes_at answer.stages.items r)

-- the kind of each node of a single pass fits the last stage
abbrev pub HaveFittingKindsOnce : Problem → OnceAnswer → Type 0
HaveFittingKindsOnce problem answer = All (λ node. FitsStage problem (last_stage problem) node.kind) answer.nodes.items
