use Rattle.answer_text.specs.Text.{lines_text, state_lines}
use Rattle.outside.proofs.Writing.{PushesEach}
use Rattle.answer_text.proofs.automaton_writer.push_states.Given as goal

abbrev pub invariant-loop-state : goal.invariant-loop-state
invariant-loop-state g l =
    PushesEach g.O.Sink l.fn.sink l.sink l.fn.out l.out
    (λ state. lines_text (state_lines state)) l.states l.state-index
