use Rattle.kind_moves.specs.Frames.{FitsFrame}
use Rattle.kind_moves.proofs.tests.agrees.Given as goal

abbrev pub invariant-loop-place : goal.invariant-loop-place
invariant-loop-place l = FitsFrame l.frame l.stage l.kind
