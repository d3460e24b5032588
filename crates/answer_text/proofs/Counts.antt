-- How many tiers a mask has, by its bits.
use Rattle.std.proofs.Common.{◌≡◌, ℕ, zero, suc, ◌+◌, ◌*◌, ◌/◌, ◌%◌, ◌^◌, ◌<◌, ◌≤◌, ◌==◌, cond, [], ◌∷◌, ◌++◌}
use Rattle.std.proofs.{Common.{length, refl, ap, sym, ◌∙◌, subst, arith, length-append}, lemmas.Nat.pow_pos}
use Rattle.std.proofs.lemmas.Nat.Bits.{bit_at_cat_low}
use Rattle.std.specs.{Int.RustNames.count_ones, Int.bit_at}
use Rattle.tier_core.specs.{Tiers.{has_tier, tiers_below, tiers_of}, Shapes.masked_count}
use lib.Count.{ones_cat, ones-le}
use lib.Pow.{pow_mono, shr_lt}

-- masks with the same bits below n have the same tiers below n
tiers_same : (a b n : ℕ) → ((t : ℕ) → t < n → has_tier a t ≡ has_tier b t) → tiers_below a n ≡ tiers_below b n
tiers_same a b zero same = refl
tiers_same a b (suc n) same =
    ap (λ xs. xs ++ cond (has_tier a n) (n ∷ []) []) (tiers_same a b n (λ t h. same t (omega arith)))
    ∙ ap (λ t. tiers_below b n ++ cond t (n ∷ []) []) (same n (omega arith))

-- the lowest bits, and what is above them
cut : (d mask : ℕ) → 0 < d → mask ≡ (mask / d) * d + mask % d
cut d mask h = grind arith

mod_below : (d mask : ℕ) → 0 < d → mask % d < d
mod_below d mask h = omega arith

half_below : (n mask : ℕ) → mask < 2 ^ suc n → mask / 2 ^ n < 2
half_below n mask h = shr_lt 1 n (subst (λ k. mask < 2 ^ k) (omega arith) h)

below_power : (m n mask : ℕ) → m ≤ n → mask < 2 ^ m → mask < 2 ^ n
below_power m n mask h l = omega (arith, pow_mono {i = m} {j = n} h)

-- a number below 2 is its own bit
one_bit : (q n : ℕ) → q < 2 → count_ones q ≡ length (cond (q % 2 == 1) (n ∷ []) [])
unfolding count_ones
one_bit zero n h = refl
one_bit (suc zero) n h = refl
one_bit (suc (suc q)) n h = absurd (omega arith)

-- the bits of a mask are as many as its tiers
pub ones_below : (n mask : ℕ) → mask < 2 ^ n → count_ones mask ≡ length (tiers_below mask n)
ones_below zero mask h = let none : mask
    ≡ 0 = omega arith in subst (λ m. count_ones m ≡ 0) (sym none) (one_bit 0 0 (omega arith))
ones_below (suc n) mask h =
    let low : mask % 2 ^ n < 2 ^ n = mod_below (2 ^ n) mask (pow_pos n) in
    let whole : mask ≡ (mask / 2 ^ n) * 2 ^ n + mask % 2 ^ n = cut (2 ^ n) mask (pow_pos n) in
    let same = tiers_same (mask % 2 ^ n) mask n
    (λ t l. ap (λ b. b == 1) (sym (bit_at_cat_low (mask / 2 ^ n) n (mask % 2 ^ n) t l)
    ∙ ap (λ m. bit_at m t) (sym whole))) in
    omega (
      arith,
      ap count_ones whole ∙ ones_cat n (mask / 2 ^ n) (mask % 2 ^ n) low,
      one_bit (mask / 2 ^ n) n (half_below n mask h),
      ones_below n (mask % 2 ^ n) low ∙ ap length same,
      length-append (tiers_below mask n) (cond (has_tier mask n) (n ∷ []) []),
    )

-- the bits of the mask of a width are as many as its tiers, and no more than the width
pub ones_of : (width mask : ℕ) → width ≤ 12 → mask < 2 ^ width → count_ones mask ≡ masked_count mask
unfolding tiers_of
ones_of width mask few within = ones_below 12 mask (below_power width 12 mask few within)

pub ones_within : (width mask : ℕ) → mask < 2 ^ width → count_ones mask ≤ width
ones_within width mask within = ones-le width mask within
