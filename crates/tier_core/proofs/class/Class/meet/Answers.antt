use Rattle.std.proofs.Common.{bit_and, refl, ap, sym, ◌∙◌, arith}
use Rattle.tier_core.specs.ClassWords.{below_in}
use Rattle.tier_core.proofs.ClassSets.{width_is, sets_met, met_width}
use Rattle.tier_core.proofs.class.Class.meet.Goals as goal

pub invariant_of-result : goal.invariant_of-result
invariant_of-result c =
    let a = c.args.self.now in
    let both = bit_and a.word c.args.other.now.word in
    let own = met_width a c.args.other.now c.requires in
    record {
      some = omega (arith, a.some, own.0);
      few = omega (arith, a.few, own.0);
      rest = ap (below_in both) own.0 ∙ own.1 ∙ sym own.0;
    }

pub returns-clause-width : goal.returns-clause-width
returns-clause-width c = width_is _ ∙ (met_width c.args.self.now c.args.other.now c.requires).0
    ∙ sym (width_is c.args.self.now)

pub returns-clause-sets : goal.returns-clause-sets
returns-clause-sets c = sets_met c.args.self.now c.args.other.now _ refl c.requires
