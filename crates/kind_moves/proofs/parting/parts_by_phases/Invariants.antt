use Rattle.kind_moves.proofs.PhaseParts.{ArePhasedBelow}
use Rattle.kind_moves.proofs.parting.parts_by_phases.Given as goal

abbrev pub invariant-loop-constraint : goal.invariant-loop-constraint
invariant-loop-constraint l = ArePhasedBelow l.width l.constraints l.kind l.constraint-index l.next
    l.initial.parts.items l.parts.items
