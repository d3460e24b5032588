use Rattle.std.proofs.Common.{◌≡◌, List, subst, arith}
use Rattle.kind_moves.specs.{declared.piece.Piece.Piece, Frames.FitsFrame}
use Rattle.stage_tables.specs.PartedPieces.{ArePartedPieces}
use Rattle.stage_tables.proofs.PiecesParted.{first_pieces, pieces_wide, next_constraint, all_constraints}
use Rattle.stage_tables.proofs.PiecesParted.{moves_unranked}
use Rattle.stage_tables.proofs.exploring.Exploring.pieces.Goals as goal

pub all_moves-requires-clause-fits : goal.all_moves-requires-clause-fits
all_moves-requires-clause-fits c =
    let none = c.if-self-eq0.true in
    rw none at c.requires.fits

pub returns-then-self-eq0 : goal.returns-then-self-eq0
returns-then-self-eq0 c =
    let made = c.in_ok-all.ensures in
    moves_unranked c.args.self.now c.args.kind.now c.args.class.now c.in_ok-all.all.items c.if-self-eq0.true
    made.pieces made.columns made.each

pub loop-constraint-init : goal.loop-constraint-init
loop-constraint-init c =
    let made = c.in_ok-pieces.ensures in
    first_pieces _ _ _ _ made.pieces made.columns made.each

pub returns : goal.returns
returns c = all_constraints _ _ _ _ _ c.loop-constraint.invariant (omega (arith, c.loop-constraint-test.false))

pub parts_by_cost-requires-clause-wide : goal.parts_by_cost-requires-clause-wide
parts_by_cost-requires-clause-wide c = rw c.deref.ensures.value (pieces_wide _ _ _ _ _ c.loop-constraint.invariant)

pub loop-constraint-preserved : goal.loop-constraint-preserved
loop-constraint-preserved c =
    next_constraint c.args.self.now c.args.kind.now c.args.class.now c.loop-constraint.pieces.items
    c.in_ok-pieces-2.pieces.items c.loop-constraint.constraint c.loop-constraint.invariant
    (subst (λ (xs : List Piece). ArePartedPieces c.args.self.now c.loop-constraint.constraint c.args.kind.now xs
    c.in_ok-pieces-2.pieces.items) c.deref.ensures.value c.in_ok-pieces-2.ensures)
