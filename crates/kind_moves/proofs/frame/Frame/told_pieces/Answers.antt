use Rattle.std.proofs.{Common.{[], ◌∷◌, ◌++◌, All, ap, ap₂, sym, ◌∙◌, subst}, lemmas.List.{map-append, take_more}}
use Rattle.std.proofs.lemmas.List.Elements.{All-push}
use Rattle.kind_moves.specs.{declared.piece.Piece.Piece, Pieces.{piece_classes, IsPiece}}
use Rattle.kind_moves.proofs.frame.Frame.told_pieces.Goals as goal

pub loop-class-preserved : goal.loop-class-preserved
loop-class-preserved c =
    let before = c.loop-class.pieces.items in
    let piece = c.piece-piece.result in
    let i = c.loop-class.class-index in
    record {
      classes = ap piece_classes c.in_ok-push.ensures.items ∙ map-append (λ (p : Piece). p.class) before (piece ∷ [])
          ∙ ap₂ (λ xs x. xs ++ x ∷ []) c.loop-class.invariant.classes (c.piece-piece.ensures.class ∙ c.class-item.is)
          ∙ sym (take_more c.args.classes.now i c.class-item.result c.loop-class-test.true);
      each = subst (All (IsPiece c.args.self.now c.args.stage c.args.constraint c.args.kind.now))
          (sym c.in_ok-push.ensures.items)
          (All-push (IsPiece c.args.self.now c.args.stage c.args.constraint c.args.kind.now) before piece
          c.loop-class.invariant.each c.piece-piece.ensures.piece);
    }
