-- Columns that a checker need not tell apart: what the definitions of moves and of their costs ask of a
-- column has one answer for both.
use Rattle.std.specs.Prelude.{ℕ, ◌≡◌, ◌↔◌, Bool, true, List, length}
use Rattle.std.specs.List.{AllByRecursion}
use Rattle.tier_core.specs.declared.sym.Sym.{Sym}
use Rattle.tier_core.specs.declared.constraint.Constraint.{Constraint}
use Rattle.tier_core.specs.Kinds.{Phase}
use Rattle.tier_core.specs.Scan.{opens}
use Rattle.tier_core.specs.Sides.{is_stretch}
use Rattle.tier_core.specs.Timelines.{symbol, column_at, has_edge}
use Rattle.violation.specs.Moves.{input_of, costs, next_phase}
use Rattle.violation.specs.Problems.{Problem}

-- A constraint tells two columns not apart: whatever tiers are open before them and whatever its phase
-- is, it costs the same, and a stretch implication has the same next phase.
pub record AreAlikeFor (x : Constraint) (c d : List Sym) : Type 0 where
  pub cost : (opened : ℕ → Bool) (phase : Phase)
      → costs x.family x.left x.right opened phase c ≡ costs x.family x.left x.right opened phase d
  pub next : is_stretch x ≡ true → (phase : Phase)
      → next_phase x.left x.right phase c ≡ next_phase x.left x.right phase d

-- Two columns are alike at a place of the form: both have an edge or neither, also on the input tiers;
-- both have the form's column there as their input part, or neither; each free tier is open after both
-- or after neither; and no constraint tells them apart.
pub record AreAlike (problem : Problem) (place : ℕ) (c d : List Sym) : Type 0 where
  pub one_width : length c ≡ length d
  pub edge : has_edge c ≡ has_edge d
  pub input_edge : has_edge (input_of problem.tiers c) ≡ has_edge (input_of problem.tiers d)
  pub input_part : (input_of problem.tiers c ≡ column_at problem.form place) ↔
      (input_of problem.tiers d ≡ column_at problem.form place)
  pub free : AllByRecursion (λ t. opens (symbol c t) ≡ opens (symbol d t)) problem.tiers.free
  pub constraints : AllByRecursion (λ x. AreAlikeFor x c d) problem.constraints
