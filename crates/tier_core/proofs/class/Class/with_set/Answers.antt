use Rattle.std.proofs.Common.{ap, sym, ◌∙◌, arith}
use Rattle.tier_core.specs.ClassWords.{below_in}
use Rattle.tier_core.proofs.ClassSets.{width_is, sets_put, put_width}
use Rattle.tier_core.proofs.class.Class.with_set.Goals as goal

pub invariant_of-result : goal.invariant_of-result
invariant_of-result c =
    let class = c.args.self.now in
    let own = put_width class c.with_set_in.result c.args.tier
    (omega (arith, c.width.ensures.value)) c.with_set_in.ensures.below in
    record {
      some = omega (arith, class.some, own.0);
      few = omega (arith, class.few, own.0);
      rest = ap (below_in c.with_set_in.result) own.0 ∙ own.1 ∙ sym own.0;
    }

pub returns : goal.returns
returns c =
    let class = c.args.self.now in
    sets_put class _ c.args.tier c.args.set (omega (arith, width_is class, c.width.ensures.value))
    (put_width class c.with_set_in.result c.args.tier
    (omega (arith, c.width.ensures.value)) c.with_set_in.ensures.below).0
    c.with_set_in.ensures.here c.with_set_in.ensures.others
