use Rattle.std.proofs.Common.{◌≡◌, take}
use Rattle.kind_orders.specs.AutomatonLines.{state_nodes}
use Rattle.kind_orders.proofs.automaton.node_numbers.Given as goal

abbrev pub invariant-loop-kind : goal.invariant-loop-kind
invariant-loop-kind l = l.nodes.items ≡ state_nodes l.ranks (take l.kind-index l.states)
