use Rattle.std.proofs.Common.{◌≡◌, ◌<◌, ◌≤◌, ◌++◌, length, map, drop}
use Rattle.tier_core.specs.Classes.{sets_of}
use Rattle.symbol_class.proofs.JoinSteps.{joined_from}
use Rattle.symbol_class.proofs.joining.joined_neighbours.Given as goal

-- what is joined, and what the rest will be joined to, is what all are joined to
abbrev pub invariant-loop-next : goal.invariant-loop-next
invariant-loop-next l = record {
  within : l.next-index ≤ length l.rest;
  wide : l.tier < length (sets_of l.current);
  so_far : map sets_of l.joined.items ++ joined_from l.tier (sets_of l.current)
      (map sets_of (drop l.next-index l.rest)) ≡ joined_from l.tier (sets_of l.initial.current) (map sets_of l.rest);
}
