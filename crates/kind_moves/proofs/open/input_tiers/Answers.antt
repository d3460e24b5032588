use Rattle.tier_core.proofs.TableMasks.{input_tiers}
use Rattle.kind_moves.proofs.open.input_tiers.Goals as goal

pub returns : goal.returns
returns c = input_tiers c.args.tiers.now.kinds.items c.mask.result c.args.tiers.now.few c.mask.ensures.within
    c.mask.ensures.bits
