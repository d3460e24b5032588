use Rattle.std.proofs.Common.{◌≤◌, length}
use Rattle.stage_tables.proofs.Taking.{PushedSoFar}
use Rattle.stage_tables.proofs.exploring.Exploring.push_tested.Given as goal

abbrev pub invariant-loop-part : goal.invariant-loop-part
invariant-loop-part l = record {
  inside : l.part-index ≤ length l.parts;
  so_far : PushedSoFar l.self l.initial.listed l.listed l.kind l.arc l.parts l.initial.moves.items l.moves.items
      l.part-index;
}
