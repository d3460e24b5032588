use Rattle.std.proofs.Common.{◌≡◌, length, arith}
use Rattle.stage_tables.proofs.PiecesParted.{no_piece_parted, next_piece_parted, all_pieces_parted}
use Rattle.stage_tables.proofs.exploring.Exploring.parts_by_cost.Goals as goal

pub loop-piece-init : goal.loop-piece-init
loop-piece-init c = record {
  inside = omega arith;
  so_far = no_piece_parted c.args.self.now c.args.constraint c.args.kind.now c.args.pieces.now
      c.new-parts.result.items c.new-parts.ensures.items;
}

pub loop-piece-preserved : goal.loop-piece-preserved
loop-piece-preserved c =
    let inv = c.loop-piece.invariant in
    record {
      inside = omega (arith, c.loop-piece-test.true);
      so_far = next_piece_parted c.args.self.now c.args.constraint c.args.kind.now c.args.pieces.now
          c.loop-piece.parts.items c.push_parts.new.parts.items c.loop-piece.piece-index c.piece-item.result
          inv.so_far c.loop-piece-test.true c.piece-item.is c.in_ok-push_parts.ensures;
    }

pub returns : goal.returns
returns c =
    let inv = c.loop-piece.invariant in
    let last : c.loop-piece.piece-index ≡ length c.args.pieces.now = omega
    (arith, inv.inside, c.loop-piece-test.false) in
    all_pieces_parted _ _ _ _ _ _ inv.so_far last
