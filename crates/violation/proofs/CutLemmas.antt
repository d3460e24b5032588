-- Kinds that are cut to fewer constraints go as the whole ones do.
use Rattle.std.proofs.Common.{◌≡◌, ◌↔◌, ℕ, zero, suc, ◌≤◌, Bool, true, false, cond, List, [], ◌∷◌, map, take}
use Rattle.std.proofs.{Common.{length, filter, refl, ap, ◌∙◌, arith}, lemmas.List.take-map}
use Rattle.tier_core.specs.{declared.sym.Sym.Sym, declared.constraint.Constraint.Constraint}
use Rattle.tier_core.specs.{Kinds.{Phase, PrefixKind}, Tiers.Tiers, Sides.is_stretch}
use Rattle.violation.specs.Moves.{FitsKind, next_phase, next_phases, next_kind, cut_kind}
use Rattle.violation.specs.{Prefixes.{kind_of, stretches, phase}, Problems.Problem}

-- kinds that differ in their phases alone
with_phases : (k : PrefixKind) (ps qs : List Phase) → ps ≡ qs
    → (let l : PrefixKind = record { place = k.place; opened = k.opened; phases = ps } in l)
    ≡ record { place = k.place; opened = k.opened; phases = qs }
with_phases k ps qs e = ap (λ (x : List Phase). let l : PrefixKind = record
    { place = k.place; opened = k.opened; phases = x } in l) e

-- the stretch implications among more constraints begin with those among fewer
take_stretches : (r s : ℕ) (cs : List Constraint) → r ≤ s
    → take (length (filter is_stretch (take r cs))) (filter is_stretch (take s cs)) ≡ filter is_stretch (take r cs)
take_stretches zero s cs l = refl
take_stretches (suc r) zero cs l = absurd (omega arith)
take_stretches (suc r) (suc s) [] l = refl
take_stretches (suc r) (suc s) (c ∷ cs) l = step (is_stretch c) (take_stretches r s cs (omega arith))
  where
    step : (b : Bool) → take (length (filter is_stretch (take r cs))) (filter is_stretch (take s cs))
        ≡ filter is_stretch (take r cs)
        → take (length (cond b (c ∷ filter is_stretch (take r cs)) (filter is_stretch (take r cs))))
        (cond b (c ∷ filter is_stretch (take s cs)) (filter is_stretch (take s cs)))
        ≡ cond b (c ∷ filter is_stretch (take r cs)) (filter is_stretch (take r cs))
    step true e = ap (λ xs. c ∷ xs) e
    step false e = e

-- the first of the next phases are the next of the first phases
take_next : (n : ℕ) (cs : List Constraint) (phases : List Phase) (column : List Sym)
    → take n (next_phases cs phases column) ≡ next_phases (take n cs) (take n phases) column
take_next zero cs phases column = refl
take_next (suc n) [] phases column = refl
take_next (suc n) (c ∷ cs) [] column = refl
take_next (suc n) (c ∷ cs) (phase ∷ phases) column = ap (λ ps. next_phase c.left c.right phase column ∷ ps)
    (take_next n cs phases column)

module _ (problem : Problem) (r s : ℕ) (fewer : r ≤ s) where
  pub cut_kind-next_kind : (k : PrefixKind) (column : List Sym)
      → cut_kind problem r (next_kind problem s k column) ≡ next_kind problem r (cut_kind problem r k) column
  cut_kind-next_kind k column =
      let n : ℕ = length (stretches problem r) in
      with_phases (next_kind problem r k column) (take n (next_phases (stretches problem s) k.phases column))
      (next_phases (stretches problem r) (take n k.phases) column)
      (take_next n (stretches problem s) k.phases column
      ∙ ap (λ cs. next_phases cs (take n k.phases) column) (take_stretches r s problem.constraints fewer))

  pub cut_kind-kind_of : (p : List (List Sym)) → cut_kind problem r (kind_of problem s p) ≡ kind_of problem r p
  cut_kind-kind_of p =
      let n : ℕ = length (stretches problem r) in
      with_phases (kind_of problem r p) (take n (map (λ c. phase c.left c.right p) (stretches problem s)))
      (map (λ c. phase c.left c.right p) (stretches problem r))
      (take-map (λ c. phase c.left c.right p) n (stretches problem s)
      ∙ ap (map (λ c. phase c.left c.right p)) (take_stretches r s problem.constraints fewer))

-- a column fits a kind where it fits the cut one
pub fits-cut : (problem : Problem) (r : ℕ) (k : PrefixKind) (column : List Sym)
    → FitsKind problem (cut_kind problem r k) column ↔ FitsKind problem k column
fits-cut problem r k column = (
  λ f. record { width = f.width; symbols = f.symbols; edge = f.edge; input = f.input },
  λ f. record { width = f.width; symbols = f.symbols; edge = f.edge; input = f.input },
)
