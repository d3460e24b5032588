use Rattle.std.proofs.{Common.{◌≡◌, not, length, ap, sym, ◌∙◌, arith}, lemmas.List.{get_or-map, length-map}}
use Rattle.kind_moves.specs.{declared.piece.Piece.Piece, Pieces.piece_classes}
use Rattle.stage_tables.proofs.Taking.{none_pushed, one_pushed, all_pushed, pieces_hold, piece_from}
use Rattle.stage_tables.proofs.exploring.Exploring.push_taken.Goals as goal

pub loop-piece-init : goal.loop-piece-init
loop-piece-init c = record {
  inside = omega arith;
  so_far = none_pushed _ _ _ _ _ _ c.requires.found;
}

pub new_move-requires-clause-found : goal.new_move-requires-clause-found
new_move-requires-clause-found c = c.loop-piece.invariant.so_far.found

pub new_move-requires-clause-over : goal.new_move-requires-clause-over
new_move-requires-clause-over c = (
  c.requires.over.0,
  c.loop-piece.invariant.so_far.stays c.requires.over.0 c.args.kind.now c.args.state c.requires.over.1,
)

pub new_move-requires-clause-piece : goal.new_move-requires-clause-piece
new_move-requires-clause-piece c = piece_from _ _ _ _ c.requires.pieces _ _ c.loop-piece-test.true c.piece-item.is

pub loop-piece-preserved : goal.loop-piece-preserved
loop-piece-preserved c =
    let inv = c.loop-piece.invariant in
    let done = c.in_ok-made.ensures in
    let pieces = c.args.pieces.now in
    let piece = c.piece-item.result in
    let long = length-map pieces (λ (p : Piece). p.class) in
    record {
      inside = omega (arith, c.loop-piece-test.true);
      so_far = rw (c.push.ensures.items, c.is_err.ensures.negation ∙ ap not c.if-is_err.false)
          (one_pushed _ _ _ _ _ _ _ _ _ _ _ _ inv.so_far (omega (arith, long, c.loop-piece-test.true))
          (ap (λ (p : Piece). p.class) c.piece-item.is ∙ sym (get_or-map _ _ _ _ _ c.loop-piece-test.true)) done.found
          done.stays done.targets done.class done.taken);
    }

pub returns-clause-found : goal.returns-clause-found
returns-clause-found c = c.loop-piece.invariant.so_far.found

pub returns-clause-stays : goal.returns-clause-stays
returns-clause-stays c = c.loop-piece.invariant.so_far.stays

pub returns-clause-adds : goal.returns-clause-adds
returns-clause-adds c =
    let inv = c.loop-piece.invariant in
    let pieces = c.args.pieces.now in
    let long = length-map pieces (λ (p : Piece). p.class) in
    let last : c.loop-piece.piece-index
    ≡ length (piece_classes pieces) = omega (arith, long, inv.inside, c.loop-piece-test.false) in
    all_pushed _ _ _ _ _ _ _ _ _ inv.so_far last (pieces_hold _ _ _ _ c.requires.pieces)
