use Rattle.kind_moves.proofs.LeavingSteps.{AreLeft}
use Rattle.kind_moves.proofs.leaving.columns_opening.Given as goal

abbrev pub invariant-loop-tier : goal.invariant-loop-tier
invariant-loop-tier l = AreLeft l.class l.rest l.tiers l.opened l.tier l.next
