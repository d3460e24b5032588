use Rattle.std.proofs.{Common.{◌∙◌, arith}, lemmas.List.length-set}
use Rattle.distances.proofs.Turns.{relax_kept, relax_new}
use Rattle.distances.proofs.settle.relax.Goals as goal

pub loop-incoming-preserved-then-not-lowers : goal.loop-incoming-preserved-then-not-lowers
loop-incoming-preserved-then-not-lowers g c =
    let inv = c.loop-incoming.invariant in
    record {
      inside = omega (arith, c.loop-incoming-test.true);
      same = inv.same;
      relaxed_is = relax_kept g.W.Weight.meaning c.args.rest c.loop-incoming.least.items c.args.moves.now
          c.loop-incoming.incoming-index c.incoming-item.result c.loop-incoming-test.true c.incoming-item.is
          c.plus-weight.result c.plus-weight.ensures _ c.requires.inside inv.same c.index.result.now c.index.ensures
          c.lowers.result c.lowers.ensures c.if-not-lowers.true
          ∙ inv.relaxed_is;
    }

pub loop-incoming-preserved : goal.loop-incoming-preserved
loop-incoming-preserved g c =
    let inv = c.loop-incoming.invariant in
    let least = c.loop-incoming.least.items in
    record {
      inside = omega (arith, c.loop-incoming-test.true);
      same = length-set least c.incoming-item.result.source _ ∙ inv.same;
      relaxed_is = relax_new g.W.Weight.meaning c.args.rest least c.args.moves.now c.loop-incoming.incoming-index
          c.incoming-item.result c.loop-incoming-test.true c.incoming-item.is c.plus-weight.result
          c.plus-weight.ensures _ c.requires.inside inv.same c.index.result.now c.index.ensures c.lowers.result
          c.lowers.ensures c.if-not-lowers.false
          ∙ inv.relaxed_is;
    }
