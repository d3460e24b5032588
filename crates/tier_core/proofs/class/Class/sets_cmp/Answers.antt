use Rattle.std.proofs.Common.{◌∙◌, arith}
use Rattle.tier_core.proofs.ClassSets.{sets_ordered}
use Rattle.tier_core.proofs.class.Class.sets_cmp.Goals as goal

pub returns : goal.returns
returns c = c.cmp.ensures ∙ sets_ordered c.args.self.now c.args.other.now (omega arith) (omega arith)
