-- The lowest bits of masks.
use Rattle.std.proofs.Common.{◌≡◌, ℕ, ◌-◌, ◌==◌, ◌<◌, ◌^◌, ap, sym, ◌∙◌, arith, bit_and}
use Rattle.std.proofs.lemmas.Nat.Bits.{bit_at_and, bit_at_ones, bit_at-zero, bit_at-lt, same_from_bits}
use Rattle.std.specs.Int.{bit_at}
use Rattle.tier_core.specs.Tiers.{has_tier}

pub low_bit : (mask n i : ℕ) → i < n → has_tier (bit_and mask (2 ^ n - 1)) i ≡ has_tier mask i
low_bit mask n i l =
    let both = bit_at_and mask (2 ^ n - 1) i in
    let same : bit_at (bit_and mask (2 ^ n - 1)) i
    ≡ bit_at mask i = omega (arith, both, bit_at_ones n i l, bit_at-lt mask i) in
    ap (λ b. b == 1) same

pub low_apart : (a b x : ℕ) → bit_and a b ≡ 0 → bit_and (bit_and a x) (bit_and b x) ≡ 0
low_apart a b x e = same_from_bits (bit_and (bit_and a x) (bit_and b x)) 0 (λ i.
    let none = sym (bit_at_and a b i) ∙ ap (λ n. bit_at n i) e ∙ bit_at-zero i in
    omega (arith, bit_at_and (bit_and a x) (bit_and b x) i, bit_at_and a x i, bit_at_and b x i, none, bit_at-zero i))
