-- Walks: runs of moves of kinds along a list of columns (this project).
use Rattle.std.specs.Prelude.{ℕ, List, [], ◌∷◌, ◌++◌, map, take}
use Rattle.weight_law.specs.Ranked.{add_each}
use Rattle.tier_core.specs.declared.sym.Sym.{Sym}
use Rattle.tier_core.specs.declared.constraint.Constraint.{Constraint}
use Rattle.tier_core.specs.Tiers.{Tiers}
use Rattle.tier_core.specs.Kinds.{PrefixKind}
use Rattle.violation.specs.Candidates.{IsCandidate}
use Rattle.violation.specs.Moves.{FitsKind, next_kind, move_costs}
use Rattle.violation.specs.Problems.{Problem}

-- there is a move at each of the columns in turn, from a kind under the first r constraints
abbrev pub HasMoves : Problem → ℕ → PrefixKind → List (List Sym) → Type 0
HasMoves problem r k [] = Unit {0}
HasMoves problem r k (column ∷ columns) =
    FitsKind problem k column × HasMoves problem r (next_kind problem r k column) columns

-- the kind that the columns lead to
abbrev pub walk_end : Problem → ℕ → PrefixKind → List (List Sym) → PrefixKind
walk_end problem r k [] = k
walk_end problem r k (column ∷ columns) = walk_end problem r (next_kind problem r k column) columns

-- p is a prefix of a candidate of u
abbrev pub BeginsCandidate : Problem → List (List Sym) → Type 0
BeginsCandidate problem p = (q : List (List Sym)) × IsCandidate problem (p ++ q)

-- what the moves along the columns cost in all, from a kind under the first r constraints: one
-- number for each of these
abbrev pub walk_costs : Problem → ℕ → PrefixKind → List (List Sym) → List ℕ
walk_costs problem r k [] = map (λ c. 0) (take r problem.constraints)
walk_costs problem r k (column ∷ columns) =
    add_each (move_costs problem r k column) (walk_costs problem r (next_kind problem r k column) columns)
