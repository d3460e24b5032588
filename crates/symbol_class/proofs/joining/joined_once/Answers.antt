use Rattle.symbol_class.proofs.JoinedClasses.{below_apart, below_more}
use Rattle.symbol_class.proofs.joining.joined_once.Goals as goal

pub joined_along-requires-clause-apart : goal.joined_along-requires-clause-apart
joined_along-requires-clause-apart c = below_apart c.args.width c.loop-tier.tier c.args.classes.items
    c.loop-tier.joined.items c.requires.apart c.loop-tier.invariant

pub loop-tier-preserved : goal.loop-tier-preserved
loop-tier-preserved c = below_more c.args.width c.loop-tier.tier c.args.classes.items c.loop-tier.joined.items
    c.in_ok-joined.joined.items c.loop-tier.invariant c.in_ok-joined.ensures
