use Rattle.std.proofs.Common.{◌≡◌, ◌+◌, ◌≤◌, length, filter, take, map}
use Rattle.std.specs.List.{range_with_len}
use Rattle.tier_core.specs.Sides.{is_stretch}
use Rattle.grammar_reader.proofs.shape_of.phases.Given as goal

abbrev pub invariant-loop-constraint : goal.invariant-loop-constraint
invariant-loop-constraint l = record {
  count : l.count ≡ length (filter is_stretch (take l.constraint-index l.constraints));
  few : l.count ≤ l.constraint-index;
  phases : l.phases.items ≡ map (λ r. length (filter is_stretch (take r l.constraints)))
      (range_with_len 0 (l.constraint-index + 1));
}
