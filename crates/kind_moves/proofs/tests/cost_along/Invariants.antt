use Rattle.kind_moves.specs.Frames.{FitsFrame}
use Rattle.kind_moves.proofs.tests.cost_along.Given as goal

abbrev pub invariant-loop-column : goal.invariant-loop-column
invariant-loop-column l = FitsFrame l.frame l.constraint l.kind
