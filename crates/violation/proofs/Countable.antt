-- A constraint over tiers may be counted on what is well formed over these tiers.
use Rattle.std.specs.Prelude.{ℕ, List}
use Rattle.tier_core.specs.{declared.constraint.Constraint.Constraint, declared.sym.Sym.Sym, Timelines.IsWellFormed}
use Rattle.violation.specs.Conditions.{IsOverTiers, IsCountable}

pub countable_over : {width : ℕ} {c : Constraint} {T : List (List Sym)} → IsOverTiers width c → IsWellFormed width T
    → IsCountable c.left c.right T
countable_over {width} over well_formed = record {
  width = width;
  well_formed = well_formed;
  left_below = over.left_below;
  right_below = over.right_below;
  some_left = over.some_left;
}
