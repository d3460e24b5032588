use Rattle.std.proofs.Common.{arith}
use Rattle.symbol_class.specs.{Held.once_if, Parts.differs}
use Rattle.stage_tables.proofs.WeighedMoves.{none_weighed, one_weighed, all_weighed}
use Rattle.stage_tables.proofs.weighing.weighed_moves.Goals as goal

pub loop-arc-init : goal.loop-arc-init
loop-arc-init c = record {
  inside = omega arith;
  so_far = none_weighed (λ column. once_if (differs c.args.test.now column)) c.args.arcs.now
      c.in_ok-moves.moves.items c.in_ok-moves.ensures.items;
}

pub loop-arc-preserved : goal.loop-arc-preserved
loop-arc-preserved c =
    let inv = c.loop-arc.invariant in
    record {
      inside = omega (arith, c.loop-arc-test.true);
      so_far = one_weighed _ _ _ _ _ _ inv.so_far c.loop-arc-test.true c.arc-item.is c.in_ok-push_weighed.ensures;
    }

pub returns : goal.returns
returns c =
    let inv = c.loop-arc.invariant in
    all_weighed _ _ _ _ inv.so_far (omega (arith, inv.inside, c.loop-arc-test.false))
