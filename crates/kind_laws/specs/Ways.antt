-- Ways: how candidates go on from a prefix, and the kinds that they pass.
use Rattle.std.specs.Prelude.{◌≢◌, ℕ, List, [], ◌∷◌, ◌++◌, Contains, AllPairs}
use Rattle.tier_core.specs.declared.sym.Sym.{Sym}
use Rattle.tier_core.specs.Kinds.{PrefixKind}
use Rattle.violation.specs.Candidates.{IsOptimalFor}
use Rattle.violation.specs.Moves.{next_kind}
use Rattle.violation.specs.Prefixes.{kind_of}
use Rattle.violation.specs.Problems.{Problem}
use Rattle.violation.specs.Stages.{IsPassed}

-- the kinds that the columns pass from a kind under the first s constraints, which is the first of them
abbrev pub kinds_passed : Problem → ℕ → PrefixKind → List (List Sym) → List PrefixKind
kinds_passed problem s k [] = k ∷ []
kinds_passed problem s k (column ∷ columns) = k ∷ kinds_passed problem s (next_kind problem s k column) columns

-- The columns go on from the prefix p to an r-optimal candidate, and pass no kind twice under the first
-- s constraints.
pub record IsDirectWay (problem : Problem) (r s : ℕ) (p way : List (List Sym)) : Type 0 where
  pub optimal : IsOptimalFor problem r (p ++ way)
  pub once : AllPairs (λ k l. k ≢ l) (kinds_passed problem s (kind_of problem s p) way)

-- A list has each kind under the first s constraints of a prefix of an r-optimal candidate.
abbrev pub HasEachPassed : Problem → ℕ → ℕ → List PrefixKind → Type 0
HasEachPassed problem r s ks = (k : PrefixKind) → IsPassed problem r s k → Contains ks k
