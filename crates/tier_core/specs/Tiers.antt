-- Tiers by their kinds, and masks of tiers.
use Rattle.std.specs.Int.{bit_at}
use Rattle.std.specs.Prelude.{ℕ, ◌==◌, Bool, true, false, not, zero, suc, if◌then◌else◌, List, [], ◌∷◌, ◌++◌, length, slice_index_or}
use Rattle.tier_core.specs.declared.tier.TierKind.{TierKind}
use Rattle.tier_core.specs.declared.tier.TierKind.TheVariants.{Input, Overt, Hidden}

abbrev pub is_input : TierKind → Bool
is_input Input = true
is_input Overt = false
is_input Hidden = false

abbrev pub is_overt : TierKind → Bool
is_overt Input = false
is_overt Overt = true
is_overt Hidden = false

-- overt and hidden tiers are free
abbrev pub is_free : TierKind → Bool
is_free kind = not (is_input kind)

-- the numbers of the elements that pass, if the first has number n
abbrev pub numbers_from : {X : Type 0} → (X → Bool) → ℕ → List X → List ℕ
numbers_from test n [] = []
numbers_from test n (x ∷ xs) = (if test x then n ∷ [] else []) ++ numbers_from test (suc n) xs

-- The tiers of a grammar: how many there are, and which are input, overt and free, each in tier
-- order.
pub record Tiers : Type 0 where
  pub width : ℕ
  pub input : List ℕ
  pub overt : List ℕ
  pub free : List ℕ

abbrev pub tiers_by_kinds : List TierKind → Tiers
tiers_by_kinds kinds = record {
  width = length kinds;
  input = numbers_from is_input 0 kinds;
  overt = numbers_from is_overt 0 kinds;
  free = numbers_from is_free 0 kinds;
}

-- the kind of a tier
abbrev pub kind_at : List TierKind → ℕ → TierKind
kind_at kinds t = slice_index_or kinds t Input

-- whether the bit of a tier is set in a mask
abbrev pub has_tier : ℕ → ℕ → Bool
has_tier mask t = bit_at mask t == 1

-- the tiers below n whose bits are set, in their order
abbrev pub tiers_below : ℕ → ℕ → List ℕ
tiers_below mask zero = []
tiers_below mask (suc n) = tiers_below mask n ++ (if has_tier mask n then n ∷ [] else [])

-- the tiers of a mask, of which there are at most 12
unfoldable pub tiers_of : ℕ → List ℕ
tiers_of mask = tiers_below mask 12
