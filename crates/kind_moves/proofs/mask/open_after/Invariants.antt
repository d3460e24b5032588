use Rattle.kind_moves.proofs.MaskSteps.{AreOpened}
use Rattle.kind_moves.proofs.mask.open_after.Given as goal

abbrev pub invariant-loop-tier : goal.invariant-loop-tier
invariant-loop-tier l = AreOpened l.column l.tier l.open
