use Rattle.std.proofs.Common.{◌≡◌, length}
use Rattle.distances.specs.Rounds.{AreWitnessed, IsCovered}
use Rattle.distances.proofs.rounds.fixed_point.Given as goal

abbrev pub invariant-loop-rounds : goal.invariant-loop-rounds
invariant-loop-rounds g l = record {
  each_state : length l.least.items ≡ length l.table.states.items;
  witnessed : AreWitnessed l.table.states.items l.least.items;
  covered : IsCovered l.table.states.items l.least.items l._rounds;
}
