use Rattle.kind_moves.proofs.OpenPlaces.{free_mask}
use Rattle.kind_moves.proofs.open.free_tiers.Goals as goal

pub returns : goal.returns
returns c =
    let kinds = c.args.tiers.now.kinds.items in
    free_mask kinds c.mask.result c.mask-2.result c.args.tiers.now.few c.mask.ensures.within c.mask-2.ensures.within
    c.mask.ensures.bits c.mask-2.ensures.bits
