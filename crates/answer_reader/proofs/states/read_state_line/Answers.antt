use Rattle.std.proofs.Common.{map}
use Rattle.answer_reader.specs.{LineWords.bare_state, States.next_state}
use Rattle.answer_text.specs.Values.{state_value}
use Rattle.answer_reader.proofs.FirstLines.{takes_said}
use Rattle.answer_reader.proofs.states.read_state_line.Goals as goal

pub returns-clause-takes : goal.returns-clause-takes
returns-clause-takes c = takes_said (next_state c.args.nodes (map state_value c.args.states.now)) bare_state
    c.args.lines.now c.next_line.new.self c.in_ok-line.line.now c.next_state.result c.on_line.result
    c.in_ok-line.ensures.line c.in_ok-line.ensures.number c.next_state.ensures.said c.on_line.ensures
