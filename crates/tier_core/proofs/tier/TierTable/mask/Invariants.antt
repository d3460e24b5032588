use Rattle.tier_core.proofs.MaskLemmas.{IsMaskBelow}
use Rattle.tier_core.proofs.tier.TierTable.mask.Given as goal

abbrev pub invariant-loop-tier : goal.invariant-loop-tier
invariant-loop-tier l = IsMaskBelow l.self.kinds.items l.kind l.mask l.tier
