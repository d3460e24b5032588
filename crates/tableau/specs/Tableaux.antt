-- Tableaux of a form under ranked constraints: candidates, their violation vectors, and where each is
-- worse than the optimal candidates.
use Rattle.std.specs.Prelude.{◌≡◌, ℕ, ◌<◌, ◌↔◌, List, ◌∷◌, length, map, take, slice_index, All, IsNone, IfSome}
use Rattle.std.specs.String.{string_bytes}
use Rattle.tier_core.specs.declared.sym.Sym.{Sym}
use Rattle.tier_core.specs.declared.constraint.Constraint.{Constraint}
use Rattle.tier_core.specs.Orders.{IsFirst}
use Rattle.tier_core.specs.Tiers.{Tiers}
use Rattle.violation.specs.Candidates.{vec, IsLeastVector, IsOptimal, counts_on}
use Rattle.tableau.specs.declared.table.Tableau.{Tableau}
use Rattle.tableau.specs.declared.table.TableauRow.{TableauRow}
use Rattle.violation.specs.Problems.{Problem}

-- The constraint with this number, from 0, is the first whose count differs from the least, and its
-- count is greater.
pub record IsFirstWorse (least counts : List ℕ) (worse : ℕ) : Type 0 where
  pub there : worse < length least
  pub before : take worse counts ≡ take worse least
  pub greater : slice_index least worse < slice_index counts worse

-- A row has the violation vector of its timeline. It has no first worse constraint exactly if the
-- timeline is optimal.
pub record IsTableauRow (problem : Problem) (least : List ℕ) (row : TableauRow) : Type 0 where
  pub counts : row.counts.items ≡ counts_on problem row.timeline
  pub optimal : IsNone row.worse ↔ IsOptimal problem row.timeline
  pub worse : IfSome row.worse (IsFirstWorse least row.counts.items)

-- the names of constraints
abbrev pub names_seen : List Constraint → List (List ℕ)
names_seen constraints = map (λ c. string_bytes c.name) constraints

-- The tableau of a problem under constraints that are called so, in ranked order, and of these timelines:
-- the names, and a row for the first optimal candidate and then for each of the timelines.
pub record IsTableauOf (called : List (List ℕ)) (problem : Problem) (timelines : List (List (List Sym)))
    (tableau : Tableau) : Type 0 where
  pub form : tableau.form ≡ problem.form
  pub names : map string_bytes tableau.names.items ≡ called
  pub example : List (List Sym)
  pub is_first : IsFirst (IsOptimal problem) example
  pub rows : map (λ row. row.timeline) tableau.rows.items ≡ example ∷ timelines
  pub least : List ℕ
  pub is_least : IsLeastVector problem least
  pub each : All (IsTableauRow problem least) tableau.rows.items
