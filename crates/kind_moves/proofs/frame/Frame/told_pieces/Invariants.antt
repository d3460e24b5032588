use Rattle.std.proofs.Common.{◌≡◌, take, All}
use Rattle.kind_moves.specs.Pieces.{piece_classes, IsPiece}
use Rattle.kind_moves.proofs.frame.Frame.told_pieces.Given as goal

-- the pieces of the classes so far
abbrev pub invariant-loop-class : goal.invariant-loop-class
invariant-loop-class l = record {
  classes : piece_classes l.pieces.items ≡ take l.class-index l.classes;
  each : All (IsPiece l.self l.stage l.constraint l.kind) l.pieces.items;
}
