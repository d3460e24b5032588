-- Edges of a column, tier by tier.
use Rattle.std.proofs.Common.{◌≡◌, ℕ, zero, suc, ◌<◌, true, false, List, [], ◌∷◌, map, length, refl, arith, ⊎_elim}
use Rattle.std.proofs.lemmas.Bool.{false≢true, both_ways, or_cases, or_from, false_from_ne_true}
use Rattle.std.proofs.lemmas.List.Folds.{list_any_at}
use Rattle.std.specs.List.{AllByRecursion}
use Rattle.tier_core.specs.{declared.sym.Sym.Sym, declared.sym.Sym.TheVariants.Outside}
use Rattle.tier_core.specs.Timelines.{symbol, is_edge, has_edge}

pub none_edge : (xs : List Sym) → ((t : ℕ) → t < length xs → is_edge (symbol xs t) ≡ false) → has_edge xs ≡ false
none_edge [] h = refl
none_edge (x ∷ xs) h = or_from (is_edge x) (has_edge xs) (h zero (omega arith))
    (none_edge xs (λ t l. h (suc t) (omega arith)))

pub each_edgeless : (xs : List Sym) → has_edge xs ≡ false → (t : ℕ) → t < length xs → is_edge (symbol xs t) ≡ false
each_edgeless xs none t l = false_from_ne_true (is_edge (symbol xs t))
    (λ e. both_ways (has_edge xs) none (list_any_at is_edge xs t Outside l e))

-- an edge on one of some tiers
pub edge_on : (tiers : List ℕ) (column : List Sym) → AllByRecursion (λ t. t < length column) tiers
    → has_edge (map (symbol column) tiers) ≡ true → has_edge column ≡ true
edge_on [] column below e = absurd (false≢true e)
edge_on (t ∷ ts) column below e =
    ⊎_elim (λ here. list_any_at is_edge column t Outside below.0 here) (λ there. edge_on ts column below.1 there)
    (or_cases (is_edge (symbol column t)) (has_edge (map (symbol column) ts)) e)
