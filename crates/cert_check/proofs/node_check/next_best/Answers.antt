use Rattle.std.proofs.{Common.{sym, ap₂, ◌∙◌}, lemmas.List.{get_or_default, length-map}}
use Rattle.std.specs.Ordering.{is_gt}
use Rattle.tier_core.specs.{Orders.column_cmp, FirstColumn.first_column}
use Rattle.cert_check.specs.declared.kept_piece.KeptPiece.{KeptPiece}
use Rattle.cert_check.proofs.ColumnPlaces.{after_is, not_after_is}
use Rattle.cert_check.proofs.NodeSteps.{best_below, piece_at, least_same, least_first, least_next, least_later}
use Rattle.cert_check.proofs.node_check.next_best.Goals as goal

pub move_fault-requires-clause-filled : goal.move_fault-requires-clause-filled
move_fault-requires-clause-filled c = (piece_at c.requires.kept _ _ c.requires.within c.index-pieces-next.is).filled

pub move_fault-requires-clause-kept : goal.move_fault-requires-clause-kept
move_fault-requires-clause-kept c = (piece_at c.requires.kept _ _ c.requires.within c.index-pieces-next.is).keeps

pub returns-in-None : goal.returns-in-None
returns-in-None c =
    let here = piece_at c.requires.kept _ _ c.requires.within c.index-pieces-next.is in
    least_same c.requires.so_far here.within _ here.class c.in-None.ensures

pub returns-then-best-pieces : goal.returns-then-best-pieces
returns-then-best-pieces c =
    let here = piece_at c.requires.kept _ _ c.requires.within c.index-pieces-next.is in
    least_first c.requires.so_far here.within _ here.class (λ column h. (c.in-Some.ensures column h).0)
    (c.if-best-pieces.true ∙ sym (length-map c.args.pieces.now (λ (p : KeptPiece). p.class)))

pub returns-then-is_later : goal.returns-then-is_later
returns-then-is_later c =
    let below = best_below _ c.requires.so_far c.if-best-pieces.false in
    let here = piece_at c.requires.kept _ _ c.requires.within c.index-pieces-next.is in
    let first = piece_at c.requires.kept _ _ below c.index-pieces-best.is in
    least_next c.requires.so_far here.within _ here.class _ first.class first.within
    (λ column h. (c.in-Some.ensures column h).0) (after_is _ _ (ap₂
    (λ (p q : KeptPiece). is_gt (column_cmp (first_column p.class) (first_column q.class))) c.index-pieces-best.is
    (c.index-pieces-next.is ∙ get_or_default _ _ _ _ c.requires.within) ∙ sym c.is_later.ensures ∙ c.if-is_later.true))

pub returns : goal.returns
returns c =
    let below = best_below _ c.requires.so_far c.if-best-pieces.false in
    let here = piece_at c.requires.kept _ _ c.requires.within c.index-pieces-next.is in
    let first = piece_at c.requires.kept _ _ below c.index-pieces-best.is in
    least_later c.requires.so_far here.within _ here.class _ first.class first.within (not_after_is _ _ (ap₂
    (λ (p q : KeptPiece). is_gt (column_cmp (first_column p.class) (first_column q.class))) c.index-pieces-best.is
    (c.index-pieces-next.is ∙ get_or_default _ _ _ _ c.requires.within) ∙ sym c.is_later.ensures ∙ c.if-is_later.false))
