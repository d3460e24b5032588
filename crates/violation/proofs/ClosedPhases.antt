-- The phases of a prefix are closed exactly where a left tier is.
use Rattle.std.proofs.Common.{◌≡◌, ℕ, ◌<◌, Bool, true, false, not, cond, List, [], ◌∷◌, map, length, refl, ap, sym}
use Rattle.std.proofs.Common.{◌∙◌, arith}
use Rattle.std.specs.List.{AllByRecursion, list_all}
use Rattle.tier_core.specs.{declared.constraint.Constraint.Constraint, declared.event.Event.Event}
use Rattle.tier_core.specs.{declared.sym.Sym.Sym, Kinds.{closed, unmet, met}, Timelines.tier_word}
use Rattle.tier_core.proofs.CountLemmas.{all_weaker}
use Rattle.violation.specs.{Candidates.IsForm, Conditions.{AreSplit, IsOverTiers}, Moves.is_tier_open}
use Rattle.violation.specs.{Phases.{is_closed, is_left_open, AreClosedOr}, Prefixes.{is_open, phase, kind_of}}
use Rattle.violation.specs.Problems.{Problem}
use Rattle.violation.proofs.{CountSteps.all_agree, PrefixLemmas.{IsBegun, tier_open_is}}

-- before the first column each phase is closed
pub closed_first : (left right : List Event) → 0 < length left → phase left right [] ≡ closed
closed_first [] right l = absurd (omega arith)
closed_first (e ∷ es) right l = refl

-- a phase is closed exactly where its left side is not open
pub closed_unless_open : (a b : Bool) → is_closed (cond a (cond b met unmet) closed) ≡ not a
closed_unless_open true true = refl
closed_unless_open true false = refl
closed_unless_open false b = refl

module _ (problem : Problem) (split : AreSplit problem.tiers) (form : IsForm problem.tiers problem.form) (r : ℕ)
    (p : List (List Sym)) (begun : IsBegun problem p) where
  left_open : (c : Constraint) → IsOverTiers problem.tiers.width c
      → list_all (λ e. is_open (tier_word p e.tier)) c.left ≡ is_left_open problem (kind_of problem r p) c
  left_open c o =
      sym (all_agree (λ e. is_tier_open problem (kind_of problem r p) e.tier) (λ e. is_open (tier_word p e.tier)) c.left
      (all_weaker (λ e. e.tier < problem.tiers.width) _ c.left
      (λ e l. tier_open_is problem split form r p begun e.tier l) o.left_below))

  pub phases_closed : (cs : List Constraint) → AllByRecursion (IsOverTiers problem.tiers.width) cs
      → AreClosedOr (is_left_open problem (kind_of problem r p)) cs (map (λ c. phase c.left c.right p) cs)
  phases_closed [] o = tt
  phases_closed (c ∷ cs) o = (
    closed_unless_open (list_all (λ e. is_open (tier_word p e.tier)) c.left) _
        ∙ ap not (left_open c o.0),
    phases_closed cs o.1,
  )
