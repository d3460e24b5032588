-- The kinds that nodes tell at a stage of a shape.
use Rattle.std.specs.Prelude.{ℕ, List, map}
use Rattle.tier_core.specs.declared.shape.Shape.{Shape}
use Rattle.tier_core.specs.Kinds.{PrefixKind}
use Rattle.tier_core.specs.KindShapes.{kind_in}
use Rattle.answer_text.specs.declared.stage.Node.{Node}

abbrev pub told_in : Shape → ℕ → List Node → List PrefixKind
told_in shape stage nodes = map (λ node. kind_in shape stage node.kind) nodes
