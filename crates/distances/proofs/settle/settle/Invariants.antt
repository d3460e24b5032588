use Rattle.distances.specs.Settled.{KeepsWitnesses}
use Rattle.distances.proofs.settle.settle.Given as goal

abbrev pub invariant-loop-turn : goal.invariant-loop-turn
invariant-loop-turn g l = KeepsWitnesses l.table.states.items l.fn.least.items l.least.items
