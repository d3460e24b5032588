use Rattle.std.proofs.Common.{◌≤◌, length}
use Rattle.stage_tables.proofs.Taking.{TakenSoFar}
use Rattle.stage_tables.proofs.exploring.Exploring.new_moves.Given as goal

abbrev pub invariant-loop-arc : goal.invariant-loop-arc
invariant-loop-arc l = record {
  inside : l.arc-index ≤ length l.arc-items;
  so_far : TakenSoFar l.self l.initial.listed l.listed l.kind l.arc-items l.moves.items l.arc-index;
}
