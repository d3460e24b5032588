-- The lines before the stages, as the code has them.
use Rattle.std.specs.Prelude.{◌≡◌, ◌≤◌, length, All}
use Rattle.tier_core.specs.declared.shape.Shape.{Shape}
use Rattle.tier_core.specs.Shapes.{masked_count}
use Rattle.timeline_text.specs.Texts.{text_of, IsTextOf}
use Rattle.answer_reader.specs.declared.head.Head.{Head}
use Rattle.answer_reader.specs.Reading.{constraint_count, HeadValue}

abbrev pub head_seen : Head → HeadValue
head_seen head = record { form = head.form; counts = head.counts.items; example = head.example }

-- the form and the example have the grammar's widths, and the numbers are within their limits
pub record IsHeadWithin (shape : Shape) (head : Head) : Type 0 where
  pub form : IsTextOf (masked_count shape.inputs) 64 (text_of head.form) head.form
  pub example : IsTextOf shape.width 65536 (text_of head.example) head.example
  pub one_each : length head.counts.items ≡ constraint_count shape
  pub counts : All (λ n. n ≤ 1000000000) head.counts.items
