use Rattle.outside.proofs.Writing.{PushesUpTo}
use Rattle.tableau.specs.Layout.{spaces}
use Rattle.tableau.proofs.fields.push_spaces.Given as goal

abbrev pub invariant-loop-rest : goal.invariant-loop-rest
invariant-loop-rest g l = PushesUpTo g.O.Sink l.fn.sink l.sink l.fn.out l.out (spaces l.fn.count) (spaces l.rest)

abbrev pub decreases-loop-rest : goal.decreases-loop-rest
decreases-loop-rest g l = l.rest
