use Rattle.std.proofs.Common.{◌≡◌, map}
use Rattle.std.specs.{Prelude.{All, IsPermutation}, BinaryHeap.heap_items}
use Rattle.distances.specs.Settled.{ends_below}
use Rattle.distances.proofs.settle.ends.Given as goal

abbrev pub invariant-loop-state : goal.invariant-loop-state
invariant-loop-state g l = record {
  each : IsPermutation (ends_below l.table.states.items l.state) (map (λ waiting. waiting.state) (heap_items l.heap));
  zero : All (λ waiting. waiting.weight ≡ g.W.Weight.meaning.zero) (heap_items l.heap);
}
