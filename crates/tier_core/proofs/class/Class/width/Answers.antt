use Rattle.std.proofs.{Common.{◌∙◌, sym}, lemmas.Nat.and_mask}
use Rattle.tier_core.proofs.ClassSets.{width_is}
use Rattle.tier_core.proofs.class.Class.width.Goals as goal

pub returns-clause-value : goal.returns-clause-value
returns-clause-value c = and_mask c.args.self.now.word 4 ∙ sym (width_is c.args.self.now)
