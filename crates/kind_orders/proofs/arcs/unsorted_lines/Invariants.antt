use Rattle.std.proofs.Common.{◌≡◌, map, take}
use Rattle.kind_orders.specs.AutomatonLines.{line_of}
use Rattle.kind_orders.proofs.arcs.unsorted_lines.Given as goal

abbrev pub invariant-loop-arc : goal.invariant-loop-arc
invariant-loop-arc l = l.lines.items ≡ map (line_of l.nodes) (take l.arc-index l.moves)
