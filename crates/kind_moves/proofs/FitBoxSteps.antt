-- Classes that are narrowed to the columns that fit a kind, tier by tier.
use Rattle.std.proofs.Common.{◌≡◌, ℕ, ◌+◌, ◌<◌, ◌↔◌, Bool, true, ◌&&◌, IsTrue, sym, ◌∙◌, arith, below_more}
use Rattle.std.proofs.lemmas.Bool.{and_parts, and_from}

-- one tier more
pub tier_more : (next rest inside whole : Bool) (test : ℕ → Bool) (tier : ℕ) → next ≡ (rest && inside)
    → inside ≡ test tier
    → (IsTrue rest ↔ (IsTrue whole × ((t : ℕ) → t < tier → test t ≡ true)))
    → IsTrue next ↔ (IsTrue whole × ((t : ℕ) → t < tier + 1 → test t ≡ true))
tier_more next rest inside whole test tier e is so_far = (
  λ h. let parts = and_parts rest inside (sym e ∙ h) in let before = so_far.0 parts.0 in (
    before.0,
    below_more
        (λ t. test t ≡ true) tier before.1 (sym is ∙ parts.1),
  ),
  λ h. e ∙ and_from rest inside (so_far.1 (h.0, λ t l. h.1 t (omega arith))) (is ∙ h.1 tier (omega arith)),
)
