use Rattle.answer_text.specs.Text.{arc_line, line}
use Rattle.outside.proofs.Writing.{PushesEach}
use Rattle.answer_text.proofs.automaton_writer.push_arcs.Given as goal

abbrev pub invariant-loop-arc : goal.invariant-loop-arc
invariant-loop-arc g l =
    PushesEach g.O.Sink l.fn.sink l.sink l.fn.out l.out (λ arc. line (arc_line arc)) l.arcs l.arc-index
