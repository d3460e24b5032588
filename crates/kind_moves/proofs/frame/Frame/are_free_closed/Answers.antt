use Rattle.kind_moves.proofs.MaskSteps.{no_lowest}
use Rattle.kind_moves.proofs.frame.Frame.are_free_closed.Goals as goal

pub returns : goal.returns
returns c =
    no_lowest _ _ _ _ c.free_count.ensures.value c.lowest_bits.ensures.within c.lowest_bits.ensures.bits
