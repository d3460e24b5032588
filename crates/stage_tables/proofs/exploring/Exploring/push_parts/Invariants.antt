use Rattle.std.proofs.Common.{◌≤◌, length}
use Rattle.stage_tables.proofs.PiecesParted.{PushedParts}
use Rattle.stage_tables.proofs.exploring.Exploring.push_parts.Given as goal

abbrev pub invariant-loop-part : goal.invariant-loop-part
invariant-loop-part l = record {
  inside : l.part-index ≤ length l.part-items;
  so_far : PushedParts l.self l.constraint l.kind l.piece l.part-items l.initial.parts.items l.parts.items
      l.part-index;
}
