use Rattle.violation.proofs.NextPhases.{AreNext}
use Rattle.cert_check.proofs.moves.with_phases.Given as goal

abbrev pub invariant-loop-constraint : goal.invariant-loop-constraint
invariant-loop-constraint l = AreNext l.constraints l.kind l.column l.constraint-index l.next l.unmet l.met
