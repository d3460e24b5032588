use Rattle.std.proofs.Common.{◌≤◌, length}
use Rattle.kind_moves.specs.Pieces.{piece_classes}
use Rattle.stage_tables.proofs.Taking.{PushedSoFar}
use Rattle.stage_tables.proofs.exploring.Exploring.push_taken.Given as goal

abbrev pub invariant-loop-piece : goal.invariant-loop-piece
invariant-loop-piece l = record {
  inside : l.piece-index ≤ length l.pieces;
  so_far : PushedSoFar l.self l.initial.listed l.listed l.kind l.arc (piece_classes l.pieces) l.initial.moves.items
      l.moves.items l.piece-index;
}
