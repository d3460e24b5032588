use Rattle.std.proofs.Common.{◌≡◌, ◌≤◌, length}
use Rattle.prune_best.specs.{Names.AreNumbered, Kept.{AreTightMoves, NamesTargets}}
use Rattle.prune_best.proofs.moves.tight_moves.Given as goal

abbrev pub invariant-loop-arc : goal.invariant-loop-arc
invariant-loop-arc g l = record {
  inside : l.arc-index ≤ length l.arcs;
  same : length l.numbers.items ≡ length l.initial.numbers.items;
  numbered : AreNumbered l.names.items l.numbers.items;
  kept : AreTightMoves l.least l.names.items l.here l.arcs l.moves.items l.arc-index;
  named : NamesTargets l.least l.initial.names.items l.names.items l.moves.items;
}
