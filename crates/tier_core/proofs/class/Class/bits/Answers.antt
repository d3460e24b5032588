use Rattle.std.proofs.Common.{◌∙◌, sym, arith}
use Rattle.tier_core.proofs.ClassSets.{width_is, set_is}
use Rattle.tier_core.proofs.class.Class.bits.Goals as goal

pub set_in-requires : goal.set_in-requires
set_in-requires c = omega (arith, width_is c.args.self.now, c.args.self.now.few)

pub returns-clause-value : goal.returns-clause-value
returns-clause-value c = c.set_in.ensures.value ∙ sym (set_is c.args.self.now c.args.tier c.requires)
