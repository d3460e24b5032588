use Rattle.std.proofs.Common.{refl, arith}
use Rattle.stage_tables.proofs.WeighedMoves.{no_moves, one_move, all_moves}
use Rattle.stage_tables.proofs.weighing.push_moves.Goals as goal

pub loop-class-init : goal.loop-class-init
loop-class-init c = record {
  inside = omega arith;
  so_far = no_moves c.args.target c.args.weight c.args.classes.now c.args.moves.now.items;
}

pub loop-class-preserved : goal.loop-class-preserved
loop-class-preserved c =
    let inv = c.loop-class.invariant in
    record {
      inside = omega (arith, c.loop-class-test.true);
      so_far = rw c.in_ok-push.ensures.items (one_move _ _ _ _ _ _ _ inv.so_far c.loop-class-test.true c.class-item.is
          refl refl);
    }

pub returns : goal.returns
returns c =
    let inv = c.loop-class.invariant in
    all_moves _ _ _ _ _ _ inv.so_far (omega (arith, inv.inside, c.loop-class-test.false))
