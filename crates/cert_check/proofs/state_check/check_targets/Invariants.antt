use Rattle.std.proofs.Common.{◌≡◌, ℕ, ◌<◌, Some, slice_get}
use Rattle.answer_text.specs.declared.automaton.ArcLine.{ArcLine}
use Rattle.cert_check.specs.Faults.{IsState}
use Rattle.cert_check.proofs.state_check.check_targets.Given as goal

abbrev pub invariant-loop-arc : goal.invariant-loop-arc
invariant-loop-arc l = (n : ℕ) (arc : ArcLine) → n < l.arc-index → slice_get l.state.arcs.items n ≡ Some arc
    → IsState l.subject.answer.now arc.target
