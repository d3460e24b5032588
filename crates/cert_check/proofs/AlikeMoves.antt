-- On columns that are alike, moves lead to one kind and cost the same; so what is kept on the one is kept
-- on the other.
use Rattle.std.proofs.Common.{◌≡◌, ℕ, zero, suc, ◌+◌, ◌-◌, Bool, true, false, cond, List, [], ◌∷◌, map, take}
use Rattle.std.proofs.Common.{filter, get_or, refl, ap, ap₂, ◌∙◌}
use Rattle.std.specs.List.{AllByRecursion}
use Rattle.tier_core.specs.{declared.sym.Sym.Sym, declared.constraint.Constraint.Constraint}
use Rattle.tier_core.specs.{Kinds.{Phase, PrefixKind}, Scan.opens, Sides.is_stretch, Timelines.{symbol, has_edge}}
use Rattle.violation.specs.Moves.{input_of, next_phase, next_phases, next_kind, costs_each}
use Rattle.violation.specs.{Moves.{first_phase, cost_of}, Prefixes.stretches, Problems.Problem}
use Rattle.violation.proofs.TierLemmas.{map_agree}
use Rattle.cert_check.specs.Alike.{AreAlikeFor, AreAlike}

-- ---- phases

-- what is asked of the next phases
abbrev pub IsNextAlike : List Sym → List Sym → Constraint → Type 0
IsNextAlike c d x = (phase : Phase) → next_phase x.left x.right phase c ≡ next_phase x.left x.right phase d

pub stretches_alike : (cs : List Constraint) (n : ℕ) (c d : List Sym) → AllByRecursion (λ x. AreAlikeFor x c d) cs
    → AllByRecursion (IsNextAlike c d) (filter is_stretch (take n cs))
stretches_alike cs zero c d a = tt
stretches_alike [] (suc n) c d a = tt
stretches_alike (x ∷ cs) (suc n) c d a = own _ refl (stretches_alike cs n c d a.1)
  where
    own : (b : Bool) → is_stretch x ≡ b → AllByRecursion (IsNextAlike c d) (filter is_stretch (take n cs))
        → AllByRecursion (IsNextAlike c d)
        (cond b (x ∷ filter is_stretch (take n cs)) (filter is_stretch (take n cs)))
    own true e r = (a.0.next e, r)
    own false e r = r

pub all_next_alike : (cs : List Constraint) (c d : List Sym) → AllByRecursion (IsNextAlike c d) cs → (ps : List Phase)
    → next_phases cs ps c ≡ next_phases cs ps d
all_next_alike [] c d a ps = refl
all_next_alike (x ∷ cs) c d a [] = refl
all_next_alike (x ∷ cs) c d a (p ∷ ps) = ap₂ (λ q qs. q ∷ qs) (a.0 p) (all_next_alike cs c d a.1 ps)

-- ---- costs

pub all_costs_alike : (cs : List Constraint) (o : ℕ → Bool) (c d : List Sym)
    → AllByRecursion (λ x. AreAlikeFor x c d) cs
    → (ps : List Phase) → costs_each cs o ps c ≡ costs_each cs o ps d
all_costs_alike [] o c d a ps = refl
all_costs_alike (x ∷ cs) o c d a ps =
    ap₂ (λ (b : Bool) (ns : List ℕ). cond b 1 0 ∷ ns) (a.0.cost o (first_phase ps)) (all_costs_alike cs o c d a.1 _)

pub first_alike : (P : Constraint → Type 0) (xs : List Constraint) (n : ℕ) → AllByRecursion P xs
    → AllByRecursion P (take n xs)
first_alike P xs zero h = tt
first_alike P [] (suc n) h = tt
first_alike P (x ∷ xs) (suc n) h = (h.0, first_alike P xs n h.1)

module _ (problem : Problem) (place : ℕ) (c d : List Sym) (a : AreAlike problem place c d) where
  pub moved_alike : (r : ℕ) (k : PrefixKind) → next_kind problem r k c ≡ next_kind problem r k d
  moved_alike r k =
      let first = stretches_alike _ r c d a.constraints in
      let of : Bool → List Bool → List Phase
      → PrefixKind = λ e bs ps. record { place = k.place + cond e 1 0; opened = bs; phases = ps } in
      ap (λ e. of e (map (λ t. opens (symbol c t)) problem.tiers.free) (next_phases (stretches problem r) k.phases c))
      a.input_edge ∙ ap₂ (of (has_edge (input_of problem.tiers d))) (map_agree _ _ _ a.free)
      (all_next_alike _ c d first _)

  pub cost_alike : (r : ℕ) (k : PrefixKind) → cost_of problem r k c ≡ cost_of problem r k d
  cost_alike r k = ap (λ ns. get_or ns (r - 1) 0) (all_costs_alike _ _ c d (first_alike _ _ r a.constraints) _)
