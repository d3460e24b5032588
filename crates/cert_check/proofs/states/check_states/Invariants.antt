use Rattle.std.proofs.Common.{◌≡◌, ℕ, ◌<◌, Some, slice_get}
use Rattle.answer_text.specs.declared.automaton.StateLine.{StateLine}
use Rattle.cert_check.specs.{States.IsRightState, Subjects.problem_of}
use Rattle.cert_check.proofs.states.check_states.Given as goal

abbrev pub invariant-loop-state : goal.invariant-loop-state
invariant-loop-state l = (n : ℕ) (line : StateLine) → n < l.state-index
    → slice_get l.subject.answer.now.automaton.states.items n ≡ Some line
    → IsRightState (problem_of l.subject) l.subject.answer.now line.node
