-- What a checker needs to know about nodes that were read.
use Rattle.std.specs.Prelude.{ℕ, ◌≤◌}
use Rattle.tier_core.specs.declared.shape.Shape.{Shape}
use Rattle.tier_core.specs.KindShapes.{FitsShape}
use Rattle.answer_text.specs.declared.stage.Node.{Node}

-- a node's kind fits the shape at its stage, and its numbers are within their limits
pub record IsNodeWithin (shape : Shape) (columns stage : ℕ) (node : Node) : Type 0 where
  pub fits : FitsShape shape stage node.kind
  pub place : node.kind.place ≤ columns
  pub potential : node.potential ≤ 1000000000
