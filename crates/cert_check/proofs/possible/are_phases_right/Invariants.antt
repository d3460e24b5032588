use Rattle.std.proofs.Common.{◌≤◌, ◌↔◌, length, filter, drop, map}
use Rattle.std.specs.List.{range_with_len}
use Rattle.tier_core.specs.{Kinds.{phases, phase_at}, Sides.is_stretch}
use Rattle.violation.specs.Phases.{AreClosedOr}
use Rattle.cert_check.specs.Possible.{all_open_in}
use Rattle.cert_check.proofs.possible.are_phases_right.Given as goal

-- what is left decides
abbrev pub invariant-loop-constraint : goal.invariant-loop-constraint
invariant-loop-constraint l = record {
  few : l.number ≤ l.constraint-index;
  rest : AreClosedOr (all_open_in l.mask) (filter is_stretch (drop l.constraint-index l.constraints))
      (map (phase_at l.kind) (range_with_len l.number
      (length (filter is_stretch (drop l.constraint-index l.constraints)))))
      ↔ AreClosedOr (all_open_in l.mask) (filter is_stretch l.constraints)
      (phases (length (filter is_stretch l.constraints)) l.kind);
}
