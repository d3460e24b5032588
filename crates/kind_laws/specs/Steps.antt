-- Tight steps: what remains to be counted falls by exactly what a column costs.
use Rattle.std.specs.Prelude.{ℕ, ◌+◌, ◌≡◌, List, [], ◌∷◌, ◌++◌}
use Rattle.tier_core.specs.declared.sym.Sym.{Sym}
use Rattle.violation.specs.Moves.{cost_of}
use Rattle.violation.specs.Prefixes.{kind_of}
use Rattle.violation.specs.Problems.{Problem}
use Rattle.violation.specs.Stages.{IsRemaining}

-- From the prefix p by one column, what remains at stage r falls by exactly what the column costs
-- there.
pub record IsTightStep (problem : Problem) (r : ℕ) (p : List (List Sym))
    (column : List Sym) : Type 0 where
  pub before : ℕ
  pub after : ℕ
  pub leaves : IsRemaining problem r (kind_of problem r p) before
  pub arrives : IsRemaining problem r (kind_of problem r (p ++ column ∷ [])) after
  pub falls : before ≡ cost_of problem r (kind_of problem r p) column + after

-- each step of T is tight at stage r
abbrev pub HasTightSteps : Problem → ℕ → List (List Sym) → Type 0
HasTightSteps problem r T = (p : List (List Sym)) (column : List Sym) (q : List (List Sym))
    → T ≡ p ++ column ∷ q → IsTightStep problem r p column
