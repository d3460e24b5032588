use Rattle.std.proofs.Common.{◌≡◌, ◌≤◌, length, drop}
use Rattle.distances.specs.Best.{best_of}
use Rattle.distances.proofs.look.best.Given as goal

abbrev pub invariant-loop-arc : goal.invariant-loop-arc
invariant-loop-arc g l = (l.arc-index ≤ length l.arcs) ×
    (best_of l.least l.best (drop l.arc-index l.arcs) ≡ best_of l.least l.fn.known l.arcs)
