use Rattle.std.proofs.Common.{◌≡◌, ℕ, ◌+◌, ◌-◌, length, false}
use Rattle.distances.specs.Rounds.{AreWitnessed, IsCovered, IsCoveredFrom, AreClosedFrom}
use Rattle.distances.proofs.rounds.round.Given as goal

abbrev pub invariant-loop-done : goal.invariant-loop-done
invariant-loop-done g l = record {
  each_state : length l.least ≡ length l.table.states.items;
  witnessed : AreWitnessed l.table.states.items l.least;
  covered : (k : ℕ) → IsCovered l.table.states.items l.initial.least k → IsCovered l.table.states.items l.least k;
  more : (k : ℕ) → IsCovered l.table.states.items l.initial.least k
      → IsCoveredFrom l.table.states.items l.least (length l.table.states.items - l.done) (k + 1);
  closed : l.changed ≡ false → AreClosedFrom l.table.states.items l.least (length l.table.states.items - l.done);
}
