-- What a move costs under one of its constraints.
use Rattle.std.proofs.Common.{◌≡◌, ℕ, zero, suc, ◌^◌, ◌<◌, Bool, true, false, cond, List, [], ◌∷◌, filter, take}
use Rattle.std.proofs.{Common.{drop, length, get_or, refl, ap, sym, ◌∙◌, subst, arith, ⊎_elim}, lemmas.Bool.cases_lt}
use Rattle.std.proofs.lemmas.List.{get_or_past}
use Rattle.std.proofs.lemmas.List.FromFn.{length-map-range_with_len, get_or-map-range_with_len}
use Rattle.tier_core.specs.{declared.kind.Kind.Kind, declared.sym.Sym.Sym, declared.constraint.Constraint.Constraint}
use Rattle.tier_core.specs.{Kinds.{Phase, closed, phase_at, phases}, Tiers.has_tier, Sides.is_stretch}
use Rattle.tier_core.proofs.MaskBits.{none_from}
use Rattle.violation.specs.Moves.{costs, costs_each, first_phase, is_unmet_phase}
use Rattle.violation.proofs.KindBits.{unmet_at}

drop_none : (n : ℕ) → drop n (let ps : List Phase = [] in ps) ≡ []
drop_none zero = refl
drop_none (suc n) = refl

drop_one : (n : ℕ) (ps : List Phase) → drop n (drop 1 ps) ≡ drop (suc n) ps
drop_one n [] = drop_none n
drop_one n (p ∷ ps) = refl

-- the first of the phases from one on
first_from : (ps : List Phase) (n : ℕ) → first_phase (drop n ps) ≡ get_or ps n closed
first_from [] zero = refl
first_from [] (suc n) = refl
first_from (p ∷ ps) zero = refl
first_from (p ∷ ps) (suc n) = first_from ps n

-- the phase of a constraint among some: that of the stretch implications before it, as many as there are
cost_from : (cs : List Constraint) (o : ℕ → Bool) (ps : List Phase) (column : List Sym) (i : ℕ) (d : Constraint)
    → i < length cs
    → get_or (costs_each cs o ps column) i 0
    ≡ cond (costs (get_or cs i d).family (get_or cs i d).left (get_or cs i d).right o
    (first_phase (drop (length (filter is_stretch (take i cs))) ps)) column) 1 0
cost_from [] o ps column i d l = absurd (omega arith)
cost_from (c ∷ cs) o ps column zero d l = refl
cost_from (c ∷ cs) o ps column (suc i) d l = by (is_stretch c) (λ qs. cost_from cs o qs column i d (omega arith))
  where
    x : Constraint
    x = get_or cs i d

    fs : List Constraint
    fs = filter is_stretch (take i cs)

    Rest : List Phase → List Phase → Type 0
    Rest qs rs = get_or (costs_each cs o qs column) i 0 ≡ cond
        (costs x.family x.left x.right o (first_phase rs) column) 1 0

    by : (b : Bool) → ((qs : List Phase) → Rest qs (drop (length fs) qs))
        → Rest (cond b (drop 1 ps) ps) (drop (length (cond b (c ∷ fs) fs)) ps)
    by true h = subst (Rest (drop 1 ps)) (drop_one (length fs) ps) (h (drop 1 ps))
    by false h = h ps

-- the bit of `unmet` tells whether the phase is unmet, also past the last
pub unmet_told : (kind : Kind) (m n : ℕ) → kind.unmet < 2 ^ m
    → has_tier kind.unmet n ≡ is_unmet_phase (first_phase (drop n (phases m kind)))
unmet_told kind m n few =
    ⊎_elim
    (λ l. unmet_at kind n ∙ sym (ap is_unmet_phase (get_or-map-range_with_len (phase_at kind) 0 m n n closed l
    (omega arith))))
    (λ l. none_from kind.unmet m n few l ∙ sym (ap is_unmet_phase
    (get_or_past (phases m kind) n closed (omega (arith, length-map-range_with_len (phase_at kind) 0 m)))))
    (cases_lt n m)
    ∙ sym (ap is_unmet_phase (first_from (phases m kind) n))

-- what a move costs under the constraint at a place
pub cost_at : (cs : List Constraint) (o : ℕ → Bool) (ps : List Phase) (column : List Sym) (i n : ℕ) (d c : Constraint)
    → i < length cs → c ≡ get_or cs i d → n ≡ length (filter is_stretch (take i cs))
    → cond (costs c.family c.left c.right o (first_phase (drop n ps)) column) 1 0
    ≡ get_or (costs_each cs o ps column) i 0
cost_at cs o ps column i n d c l e f =
    ap (λ m. cond (costs c.family c.left c.right o (first_phase (drop m ps)) column) 1 0) f
    ∙ ap (λ (x : Constraint). cond (costs x.family x.left x.right o
    (first_phase (drop (length (filter is_stretch (take i cs))) ps)) column) 1 0) e
    ∙ sym (cost_from cs o ps column i d l)
