use Rattle.std.proofs.Common.{◌≤◌, take, length}
use Rattle.stage_tables.specs.Weighing.{AddsMoves}
use Rattle.stage_tables.proofs.weighing.push_moves.Given as goal

abbrev pub invariant-loop-class : goal.invariant-loop-class
invariant-loop-class l = record {
  inside : l.class-index ≤ length l.classes;
  so_far : AddsMoves l.target l.weight (take l.class-index l.classes) l.fn.moves.items l.moves.items;
}
