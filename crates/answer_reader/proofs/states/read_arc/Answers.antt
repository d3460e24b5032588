use Rattle.std.proofs.Common.{map}
use Rattle.answer_reader.specs.States.{next_arc}
use Rattle.answer_text.specs.Values.{arc_value}
use Rattle.answer_reader.proofs.FirstLines.{takes_said}
use Rattle.answer_reader.proofs.states.read_arc.Goals as goal

pub returns-clause-takes : goal.returns-clause-takes
returns-clause-takes c = takes_said (next_arc c.args.width c.args.nodes (map arc_value c.args.arcs.now)) arc_value
    c.args.lines.now c.next_line.new.self c.in_ok-line.line.now c.next_arc.result c.on_line.result
    c.in_ok-line.ensures.line c.in_ok-line.ensures.number c.next_arc.ensures.said c.on_line.ensures
