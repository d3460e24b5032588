use Rattle.std.proofs.Common.{◌≤◌, take, length}
use Rattle.symbol_class.specs.{Held.once_if, Parts.differs}
use Rattle.stage_tables.specs.Weighing.{AreWeighedMoves}
use Rattle.stage_tables.proofs.weighing.weighed_moves.Given as goal

abbrev pub invariant-loop-arc : goal.invariant-loop-arc
invariant-loop-arc l = record {
  inside : l.arc-index ≤ length l.arcs;
  so_far : AreWeighedMoves (λ column. once_if (differs l.test column)) (take l.arc-index l.arcs) l.moves.items;
}
