use Rattle.std.proofs.Common.{arith}
use Rattle.kind_moves.proofs.MaskSteps.{opened_all}
use Rattle.kind_moves.proofs.mask.open_after.Goals as goal

pub returns : goal.returns
returns c = opened_all _ _ _ c.loop-tier.invariant (omega arith)
