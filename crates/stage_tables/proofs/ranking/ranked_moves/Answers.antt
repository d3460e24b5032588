use Rattle.std.proofs.Common.{arith}
use Rattle.stage_tables.specs.Ranking.{IsRankedMove}
use Rattle.stage_tables.proofs.RankedStates.{zip_next, zip_all}
use Rattle.stage_tables.proofs.ranking.ranked_moves.Goals as goal

pub loop-arc-init : goal.loop-arc-init
loop-arc-init c = record {
  inside = omega arith;
  zipped = rw c.new-moves.ensures.items tt;
}

pub loop-arc-preserved : goal.loop-arc-preserved
loop-arc-preserved c =
    let inv = c.loop-arc.invariant in
    let good = IsRankedMove c.args.frame.now c.args.kind.now in
    record {
      inside = omega (arith, c.loop-arc-test.true);
      zipped = rw c.in_ok-push.ensures.items
          (zip_next good c.args.arcs.now c.loop-arc.moves.items c.loop-arc.arc-index c.arc-item.result
          c.ranked_move.result inv.zipped c.loop-arc-test.true c.arc-item.is c.ranked_move.ensures);
    }

pub returns : goal.returns
returns c =
    let good = IsRankedMove c.args.frame.now c.args.kind.now in
    zip_all good c.args.arcs.now c.loop-arc.moves.items c.loop-arc.arc-index c.loop-arc.invariant.zipped
    c.loop-arc-test.false
