use Rattle.std.proofs.{Common.{sym, ◌∙◌, arith}, lemmas.List.length-map}
use Rattle.cert_check.specs.declared.kept_piece.KeptPiece.{KeptPiece}
use Rattle.cert_check.proofs.NodeSteps.{best_below, piece_at, right_where_no_best, first_move, never_none}
use Rattle.cert_check.proofs.node_check.check_pieces.Goals as goal

pub returns-then-best-pieces-clause-ok : goal.returns-then-best-pieces-clause-ok
returns-then-best-pieces-clause-ok c =
    let size = length-map c.args.pieces.now (λ (p : KeptPiece). p.class) in
    right_where_no_best c.requires.is c.loop-next.invariant (omega (arith, c.loop-next-test.false, size))
    (λ column h. (c.requires.kept.columns column).1 h) (c.if-best-pieces.true ∙ sym size)

pub move_fault-requires-clause-filled : goal.move_fault-requires-clause-filled
move_fault-requires-clause-filled c =
    let below = best_below _ c.loop-next.invariant c.if-best-pieces.false in
    (piece_at c.requires.kept _ _ below c.index-pieces-best.is).filled

pub move_fault-requires-clause-kept : goal.move_fault-requires-clause-kept
move_fault-requires-clause-kept c =
    let below = best_below _ c.loop-next.invariant c.if-best-pieces.false in
    (piece_at c.requires.kept _ _ below c.index-pieces-best.is).keeps

pub move_fault-requires-clause-piece : goal.move_fault-requires-clause-piece
move_fault-requires-clause-piece c =
    let below = best_below _ c.loop-next.invariant c.if-best-pieces.false in
    (piece_at c.requires.kept _ _ below c.index-pieces-best.is).told

pub returns-in-Some-clause-err : goal.returns-in-Some-clause-err
returns-in-Some-clause-err c =
    let size = length-map c.args.pieces.now (λ (p : KeptPiece). p.class) in
    let below = best_below _ c.loop-next.invariant c.if-best-pieces.false in
    let here = piece_at c.requires.kept _ _ below c.index-pieces-best.is in
    first_move c.requires.is c.loop-next.invariant (omega (arith, c.loop-next-test.false, size))
    (λ column h. (c.requires.kept.columns column).1 h) _ _ here.within here.class here.filled c.requires.potential
    c.in-Some.ensures

pub returns-in-None-clause-ok : goal.returns-in-None-clause-ok
returns-in-None-clause-ok c =
    let below = best_below _ c.loop-next.invariant c.if-best-pieces.false in
    let here = piece_at c.requires.kept _ _ below c.index-pieces-best.is in
    never_none c.loop-next.invariant _ here.within here.class here.filled c.in-None.ensures
