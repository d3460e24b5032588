-- Which phases a kind has: closed exactly when some left tier is not open.
use Rattle.std.specs.Prelude.{◌≡◌, Bool, true, false, not, List, [], ◌∷◌}
use Rattle.std.specs.List.{list_all}
use Rattle.tier_core.specs.declared.sym.Sym.{Sym}
use Rattle.tier_core.specs.declared.constraint.Constraint.{Constraint}
use Rattle.tier_core.specs.Kinds.{Phase, closed, unmet, met, PrefixKind}
use Rattle.tier_core.specs.Tiers.{Tiers}
use Rattle.violation.specs.Moves.{is_tier_open}
use Rattle.violation.specs.Problems.{Problem}

abbrev pub is_closed : Phase → Bool
is_closed closed = true
is_closed unmet = false
is_closed met = false

-- whether the tiers of a constraint's left types are all open at a kind
abbrev pub is_left_open : Problem → PrefixKind → Constraint → Bool
is_left_open problem k c = list_all (λ e. is_tier_open problem k e.tier) c.left

-- constraints have as many phases, and each is closed exactly when some left tier is not open
abbrev pub AreClosedOr : (Constraint → Bool) → List Constraint → List Phase → Type 0
AreClosedOr is_open [] [] = Unit {0}
AreClosedOr is_open [] (phase ∷ phases) = ⊥
AreClosedOr is_open (c ∷ cs) [] = ⊥
AreClosedOr is_open (c ∷ cs) (phase ∷ phases) = (is_closed phase ≡ not (is_open c)) × AreClosedOr is_open cs phases
