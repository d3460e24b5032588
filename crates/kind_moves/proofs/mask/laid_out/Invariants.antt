use Rattle.kind_moves.proofs.MaskSteps.{AreLaid}
use Rattle.kind_moves.proofs.mask.laid_out.Given as goal

abbrev pub invariant-loop-tier : goal.invariant-loop-tier
invariant-loop-tier l = AreLaid l.tiers l.flags l.tier l.next l.laid
