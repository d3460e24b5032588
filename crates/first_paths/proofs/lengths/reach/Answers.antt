use Rattle.std.proofs.{Common.{◌≡◌, refl, arith}}
use Rattle.arc_table.specs.declared.incoming_move.IncomingMove.{IncomingMove}
use Rattle.weight_law.specs.declared.unit_weight.UnitWeight.{UnitWeight}
use Rattle.first_paths.proofs.Reaching.{reaches_more}
use Rattle.first_paths.proofs.lengths.reach.Goals as goal

pub look-requires : goal.look-requires
look-requires c =
    let d : IncomingMove UnitWeight = record { source = 0; weight = record {} } in
    omega (
      arith,
      c.requires c.loop-incoming.incoming-index d c.loop-incoming-test.true,
      c.loop-incoming.invariant.reached.same,
    )

pub loop-incoming-preserved : goal.loop-incoming-preserved
loop-incoming-preserved c =
    let d : IncomingMove UnitWeight = record { source = 0; weight = record {} } in
    record {
      inside = omega (arith, c.loop-incoming-test.true);
      reached = reaches_more (λ (move : IncomingMove UnitWeight) q. move.source ≡ q) c.args.moves.now
          c.loop-incoming.incoming-index d _ c.loop-incoming-test.true refl c.args.n _ _ _ _ _ _
          c.loop-incoming.invariant.reached c.in_ok-look.ensures;
    }
