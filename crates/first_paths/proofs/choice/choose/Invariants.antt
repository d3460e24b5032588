use Rattle.std.proofs.Common.{◌≤◌, length}
use Rattle.first_paths.proofs.Choosing.{IsBestBelow}
use Rattle.first_paths.proofs.choice.choose.Given as goal

abbrev pub invariant-loop-arc : goal.invariant-loop-arc
invariant-loop-arc l = record {
  inside : l.arc-index ≤ length l.arcs;
  best : IsBestBelow l.left l.n l.arcs l.arc-index l.best;
}
