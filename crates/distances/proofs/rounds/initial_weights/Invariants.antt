use Rattle.std.proofs.Common.{◌≡◌, map, take}
use Rattle.distances.specs.Best.{nothing_yet}
use Rattle.distances.proofs.rounds.initial_weights.Given as goal

abbrev pub invariant-loop-state : goal.invariant-loop-state
invariant-loop-state g l = l.least.items
    ≡ map (nothing_yet g.W.Weight.meaning) (take l.state (map (λ state. state.accepting) l.table.states.items))
