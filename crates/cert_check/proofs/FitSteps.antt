-- Classes that are narrowed to the columns that fit a kind, tier by tier.
use Rattle.std.proofs.Common.{◌≡◌, ℕ, ◌+◌, ◌<◌, ◌↔◌, Bool, true, false, not, ◌&&◌, ◌||◌, IsTrue, List, length}
use Rattle.std.proofs.{Common.{get_or, refl, ap, sym, ◌∙◌, arith, below_more}, lemmas.Bool.{and_parts, and_from}}
use Rattle.tier_core.specs.{declared.sym.Sym.Sym, declared.tier.TierKind.TierKind, Sets.is_in, Tiers.is_input}
use Rattle.tier_core.specs.Timelines.{symbol, has_edge}
use Rattle.tier_core.proofs.KnownSets.{in_edgeless}
use Rattle.violation.proofs.{CandidateLemmas.part_from, InputParts.part_step}

-- one tier more
pub tier_more : (next rest inside : Bool) (test : ℕ → Bool) (tier : ℕ) → next ≡ (rest && inside) → inside ≡ test tier
    → (IsTrue rest ↔ ((t : ℕ) → t < tier → test t ≡ true))
    → IsTrue next ↔ ((t : ℕ) → t < tier + 1 → test t ≡ true)
tier_more next rest inside test tier e is so_far = (
  λ h. let parts = and_parts _ _ (sym e ∙ h) in
      below_more _ _ (so_far.0 parts.0) (sym is ∙ parts.1),
  λ h. e ∙ and_from _ _ (so_far.1 (λ t l. h t (omega arith))) (is ∙ h tier (omega arith)),
)

-- ---- the input part

still_step : (a x h : Bool) → ((a && not x) && not h) ≡ (a && not (x || h))
still_step true true h = refl
still_step true false h = refl
still_step false x h = refl

-- an input tier more on which no edge stands
pub still_more : (next rest : Bool) (kinds : List TierKind) (column : List Sym) (k : ℕ) (d : TierKind) (none : Bool)
    → k < length kinds → is_input (get_or kinds k d) ≡ true → next ≡ (rest && is_in 3 (symbol column k))
    → (rest && not (has_edge (part_from kinds column k))) ≡ none
    → (next && not (has_edge (part_from kinds column (k + 1)))) ≡ none
still_more next rest kinds column k d none l h e so_far =
    ap (λ b. b && not (has_edge (part_from kinds column (k + 1)))) (e ∙ ap (λ b. rest && b) (in_edgeless _)) ∙
    still_step _ _ _ ∙ ap (λ xs. rest && not (has_edge xs)) (sym (part_step _ _ k d _ l h)) ∙ so_far

pub still_same : (rest : Bool) (kinds : List TierKind) (column : List Sym) (k : ℕ) (d : TierKind) (none : Bool)
    → k < length kinds → is_input (get_or kinds k d) ≡ false
    → (rest && not (has_edge (part_from kinds column k))) ≡ none
    → (rest && not (has_edge (part_from kinds column (k + 1)))) ≡ none
still_same rest kinds column k d none l h so_far =
    ap (λ xs. rest && not (has_edge xs)) (sym (part_step _ _ k d _ l h)) ∙ so_far
