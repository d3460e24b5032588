use Rattle.std.proofs.Common.{◌≤◌, take, length}
use Rattle.stage_tables.specs.PartedPieces.{ArePartedPieces}
use Rattle.stage_tables.proofs.exploring.Exploring.parts_by_cost.Given as goal

abbrev pub invariant-loop-piece : goal.invariant-loop-piece
invariant-loop-piece l = record {
  inside : l.piece-index ≤ length l.pieces;
  so_far : ArePartedPieces l.self l.constraint l.kind (take l.piece-index l.pieces) l.parts.items;
}
