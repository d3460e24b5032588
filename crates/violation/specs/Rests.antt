-- What remains to be counted of all constraints at once, from the kinds of all candidates (this
-- project).
use Rattle.std.specs.Prelude.{ℕ, ◌-◌, ◌≡◌, ◌≢◌, ◌≤◌, ◌<◌, ◌↔◌, List, length, map, Contains, All, AllPairs}
use Rattle.std.specs.List.Sorted.{IsStrictlySortedBy}
use Rattle.tier_core.specs.declared.sym.Sym.{Sym}
use Rattle.tier_core.specs.declared.constraint.Constraint.{Constraint}
use Rattle.tier_core.specs.Tiers.{Tiers}
use Rattle.tier_core.specs.Kinds.{PrefixKind, kind_order}
use Rattle.violation.specs.Candidates.{IsAtMost}
use Rattle.violation.specs.Counts.{violations_of, violations_so_far}
use Rattle.violation.specs.Stages.{Passes, IsPassed}
use Rattle.violation.specs.Problems.{Problem, last_stage}

-- what each constraint counts on T beside what it counts so far, in the first n columns
abbrev pub counts_rest : Problem → List (List Sym) → ℕ → List ℕ
counts_rest problem T n = map (λ c. violations_of c T - violations_so_far c T n) problem.constraints

-- T is a candidate, and its first n columns have the kind k under all constraints
abbrev pub PassesWhole : Problem → PrefixKind → List (List Sym) → ℕ → Type 0
PassesWhole problem k T n = Passes problem 0 (last_stage problem) k T n

-- k is the kind under all constraints of a prefix of some candidate
abbrev pub IsWholeKind : Problem → PrefixKind → Type 0
IsWholeKind problem k = IsPassed problem 0 (last_stage problem) k

-- These kinds are the one list, strictly ascending in kind order, that has exactly these.
pub record AreWholeKinds (problem : Problem) (ks : List PrefixKind) : Type 0 where
  pub ascending : IsStrictlySortedBy kind_order ks
  pub members : (k : PrefixKind) → Contains ks k ↔ IsWholeKind problem k

-- v is the least vector that remains from the kind k: the least rest of a candidate T behind its
-- first n columns, over all T and n where these columns have the kind k
pub record IsLeastRestVector (problem : Problem) (k : PrefixKind) (v : List ℕ) : Type 0 where
  pub some : (T : List (List Sym)) × ((n : ℕ) × (PassesWhole problem k T n × (counts_rest problem T n ≡ v)))
  pub least : (T : List (List Sym)) (n : ℕ) → PassesWhole problem k T n → IsAtMost v (counts_rest problem T n)

-- there are more such kinds than the budget
pub record AreWholeKindsOver (problem : Problem) (budget : ℕ) : Type 0 where
  pub kinds : List PrefixKind
  pub distinct : AllPairs (λ k l. k ≢ l) kinds
  pub each : All (IsWholeKind problem) kinds
  pub more : budget < length kinds

-- there are no more such kinds than the budget
abbrev pub AreWholeKindsWithin : Problem → ℕ → Type 0
AreWholeKindsWithin problem budget =
    (kinds : List PrefixKind) → AllPairs (λ k l. k ≢ l) kinds → All (IsWholeKind problem) kinds → length kinds ≤ budget
