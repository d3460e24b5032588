-- What the text of an answer takes from a shape.
use Rattle.tier_core.specs.declared.shape.Shape.{Shape}
use Rattle.tier_core.specs.KindShapes.{free_count}
use Rattle.answer_text.specs.Text.{Widths}

abbrev pub widths_of : Shape → Widths
widths_of shape = record { free = free_count shape; stretches = shape.phases.items }
