use Rattle.std.proofs.Common.{◌≡◌, ◌++◌, map, take}
use Rattle.kind_orders.specs.JoinedLines.{arc_to}
use Rattle.kind_orders.proofs.joined_arcs.push_arcs.Given as goal

abbrev pub invariant-loop-class : goal.invariant-loop-class
invariant-loop-class l = l.arcs.items ≡ l.initial.arcs.items ++ map (arc_to l.target) (take l.class-index l.classes)
