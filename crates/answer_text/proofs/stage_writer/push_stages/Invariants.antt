use Rattle.std.proofs.Common.{drop}
use Rattle.outside.proofs.Writing.{PushesUpTo}
use Rattle.answer_text.specs.{Shape.widths_of, Text.{lines_text, stages_lines}}
use Rattle.answer_text.proofs.stage_writer.push_stages.Given as goal

abbrev pub invariant-loop-number : goal.invariant-loop-number
invariant-loop-number g l =
    PushesUpTo g.O.Sink l.fn.sink l.sink l.fn.out l.out
    (lines_text (stages_lines (widths_of l.shape) 0 l.stages))
    (lines_text (stages_lines (widths_of l.shape) l.number (drop l.number l.stages)))
