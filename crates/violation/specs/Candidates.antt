-- Candidates of a form, their violation vectors, and which candidates are optimal.
-- That the candidates of a form are a regular set of timelines goes back to Ellison, Phonological
-- Derivation in Optimality Theory (COLING 1994); the input part is this project's own.
use Rattle.std.specs.Prelude.{ℕ, ◌-◌, ◌≡◌, IsTrue, List, length, map, take, slice_index_or}
use Rattle.std.specs.Ordering.{nat_cmp, is_le}
use Rattle.std.specs.Cmp.Lexicographic.{slice_cmp}
use Rattle.std.specs.declared.cmp.Ordering.{Ordering}
use Rattle.tier_core.specs.declared.sym.Sym.{Sym}
use Rattle.tier_core.specs.declared.constraint.Constraint.{Constraint}
use Rattle.tier_core.specs.Tiers.{Tiers}
use Rattle.tier_core.specs.Timelines.{IsWellFormed, IsReduced, project, squeeze}
use Rattle.violation.specs.Counts.{violations_of, violations_so_far}
use Rattle.violation.specs.Problems.{Problem, last_stage}

-- the violation vector of a timeline: its violations of each constraint in ranked order, the
-- highest first
abbrev pub vec : List Constraint → List (List Sym) → List ℕ
vec constraints T = map (λ c. violations_of c T) constraints

-- the violations of each constraint so far, after n columns
abbrev pub vec_so_far : List Constraint → List (List Sym) → ℕ → List ℕ
vec_so_far constraints T n = map (λ c. violations_so_far c T n) constraints

-- what each constraint of a problem counts on a timeline, the highest first, and so far after n
-- columns
abbrev pub counts_on : Problem → List (List Sym) → List ℕ
counts_on problem T = vec problem.constraints T

abbrev pub counts_so_far : Problem → List (List Sym) → ℕ → List ℕ
counts_so_far problem T n = vec_so_far problem.constraints T n

-- what stage r counts on a timeline: the violations of constraint r, which is counted from 1
abbrev pub count_at : Problem → ℕ → List (List Sym) → ℕ
count_at problem r T = slice_index_or (counts_on problem T) (r - 1) 0

-- and so far, after n columns
abbrev pub count_so_far_at : Problem → ℕ → List (List Sym) → ℕ → ℕ
count_so_far_at problem r T n = slice_index_or (counts_so_far problem T n) (r - 1) 0

-- Vectors are compared lexicographically, so that constraints are strictly ranked.
abbrev pub vec_cmp : List ℕ → List ℕ → Ordering
vec_cmp v w = slice_cmp nat_cmp v w

abbrev pub IsAtMost : List ℕ → List ℕ → Type 0
IsAtMost v w = IsTrue (is_le (vec_cmp v w))

-- u is a form: it is well formed and reduced over the input tiers
pub record IsForm (tiers : Tiers) (u : List (List Sym)) : Type 0 where
  pub well_formed : IsWellFormed (length tiers.input) u
  pub reduced : IsReduced u

-- T is a candidate of the form u: it is well formed and reduced over the tiers of the grammar, and
-- its projection to the input tiers, squeezed, is u.
pub record IsCandidate (problem : Problem) (T : List (List Sym)) : Type 0 where
  pub well_formed : IsWellFormed problem.tiers.width T
  pub reduced : IsReduced T
  pub input : squeeze (project problem.tiers.input T) ≡ problem.form

-- T is r-optimal: it is a candidate, and its first r counts are at most those of every candidate
pub record IsOptimalFor (problem : Problem) (r : ℕ) (T : List (List Sym)) : Type 0 where
  pub candidate : IsCandidate problem T
  pub least : (U : List (List Sym)) → IsCandidate problem U
      → IsAtMost (take r (counts_on problem T)) (take r (counts_on problem U))

-- T is optimal: it is r-optimal for r the number of constraints
abbrev pub IsOptimal : Problem → List (List Sym) → Type 0
IsOptimal problem T = IsOptimalFor problem (last_stage problem) T

-- v is the least vector of u, which the optimal candidates share
pub record IsLeastVector (problem : Problem) (v : List ℕ) : Type 0 where
  pub some : (T : List (List Sym)) × (IsOptimal problem T × (counts_on problem T ≡ v))
  pub shared : (T : List (List Sym)) → IsOptimal problem T → counts_on problem T ≡ v
