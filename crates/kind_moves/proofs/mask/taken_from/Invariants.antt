use Rattle.kind_moves.proofs.MaskSteps.{AreTaken}
use Rattle.kind_moves.proofs.mask.taken_from.Given as goal

abbrev pub invariant-loop-tier : goal.invariant-loop-tier
invariant-loop-tier l = AreTaken l.tiers l.mask l.tier l.next l.taken
