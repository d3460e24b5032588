use Rattle.std.proofs.Common.{◌≤◌, take, length}
use Rattle.std.specs.List.{AllZip}
use Rattle.stage_tables.specs.Ranking.{IsRankedMove}
use Rattle.stage_tables.proofs.ranking.ranked_moves.Given as goal

abbrev pub invariant-loop-arc : goal.invariant-loop-arc
invariant-loop-arc l = record {
  inside : l.arc-index ≤ length l.arcs;
  zipped : AllZip (IsRankedMove l.frame l.kind) (take l.arc-index l.arcs) l.moves.items;
}
