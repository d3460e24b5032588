-- Stages: the kinds of prefixes that are left when the candidates have been pruned by the
-- constraints one by one, and what remains to be counted from each (this project).
use Rattle.std.specs.Prelude.{ℕ, zero, suc, ◌+◌, ◌-◌, ◌≡◌, ◌≤◌, ◌↔◌, List, length, take, slice_index_or, Contains}
use Rattle.std.specs.List.{AllByRecursion}
use Rattle.std.specs.List.Sorted.{IsStrictlySortedBy}
use Rattle.tier_core.specs.declared.sym.Sym.{Sym}
use Rattle.tier_core.specs.declared.constraint.Constraint.{Constraint}
use Rattle.tier_core.specs.Tiers.{Tiers}
use Rattle.tier_core.specs.Kinds.{PrefixKind, kind_order}
use Rattle.violation.specs.Candidates.{vec, vec_so_far, IsForm, IsOptimalFor, count_at, count_so_far_at}
use Rattle.violation.specs.Conditions.{AreSplit, IsOverTiers}
use Rattle.violation.specs.Prefixes.{kind_of}
use Rattle.violation.specs.Problems.{Problem, last_stage}

-- what every stage of a grammar and a form meets: stage r looks at the first r constraints
pub record IsStage (problem : Problem) (r : ℕ) : Type 0 where
  pub split : AreSplit problem.tiers
  pub form : IsForm problem.tiers problem.form
  pub over : AllByRecursion (IsOverTiers problem.tiers.width) problem.constraints
  pub within : r ≤ last_stage problem

-- T is r-optimal, and its first n columns have the kind k under the first s constraints
pub record Passes (problem : Problem) (r s : ℕ) (k : PrefixKind) (T : List (List Sym)) (n : ℕ) : Type 0 where
  pub optimal : IsOptimalFor problem r T
  pub within : n ≤ length T
  pub of_kind : kind_of problem s (take n T) ≡ k

-- Some r-optimal candidate has a prefix that has the kind k under the first s constraints.
pub record IsPassed (problem : Problem) (r s : ℕ) (k : PrefixKind) : Type 0 where
  pub candidate : List (List Sym)
  pub columns : ℕ
  pub passes : Passes problem r s k candidate columns

-- k is a kind of stage r: under the first r constraints, of a prefix of an (r-1)-optimal candidate.
-- For r = 0 it is under no constraint, and `0 - 1` is 0: each candidate is 0-optimal.
abbrev pub IsKindOfStage : Problem → ℕ → PrefixKind → Type 0
IsKindOfStage problem r k = IsPassed problem (r - 1) r k

-- The kinds of stage r are the one list, strictly ascending in kind order, that has exactly these.
pub record AreKindsOfStage (problem : Problem) (r : ℕ) (ks : List PrefixKind) : Type 0 where
  pub ascending : IsStrictlySortedBy kind_order ks
  pub members : (k : PrefixKind) → Contains ks k ↔ IsKindOfStage problem r k

-- m is the least of what constraint r, counted from 1, counts on T beyond what it counts so far in
-- the first n columns, over the (r-1)-optimal T whose first n columns have the kind k
pub record IsLeastRest (problem : Problem) (r : ℕ) (k : PrefixKind) (m : ℕ) : Type 0 where
  pub some : (T : List (List Sym)) × ((n : ℕ) × (Passes problem (r - 1) r k T n
      × (count_at problem r T ≡ count_so_far_at problem r T n + m)))
  pub least : (T : List (List Sym)) (n : ℕ) → Passes problem (r - 1) r k T n
      → count_so_far_at problem r T n + m ≤ count_at problem r T

-- m is what remains at stage r from the kind k: 0 at stage 0, and later the least rest
abbrev pub IsRemaining : Problem → ℕ → PrefixKind → ℕ → Type 0
IsRemaining problem zero k m = m ≡ 0
IsRemaining problem (suc i) k m = IsLeastRest problem (suc i) k m
