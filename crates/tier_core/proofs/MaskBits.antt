-- Masks by their bits: none from the bound on, none at all, none in common, and masks of lists of flags.
use Rattle.std.proofs.Common.{◌≡◌, ◌⊎◌, ℕ, zero, suc, ◌+◌, ◌*◌, ◌/◌, ◌%◌, ◌^◌, ◌==◌, ◌<◌, ◌≤◌, ◌&&◌, ◌||◌, not}
use Rattle.std.proofs.Common.{nat_eq, Bool, true, false, cond, min, max, List, [], ◌∷◌, map, length, get_or, refl}
use Rattle.std.proofs.Common.{ap, sym, ◌∙◌, arith, ⊎_elim, bit_and, eq-eqb, ne_eqb}
use Rattle.std.proofs.{Math.Nat.{pow-suc, mul-add, mul_assoc}, lemmas.Bool.{false≢true, cases_lt, eqb-false}}
use Rattle.std.proofs.lemmas.List.FromFn.{fill_by_all, length-map-range_with_len, get_or-map-range_with_len}
use Rattle.std.proofs.{lemmas.List.Folds.list_any_at, lemmas.Nat.Bits.{bit_at_above, bit_at_lowest, bit_at-suc}}
use Rattle.std.proofs.lemmas.Nat.Bits.{bit_at_and, bit_at-zero, bit_at-lt, same_from_bits, same_from_bits_below}
use Rattle.std.specs.{Int.bit_at, List.{range_with_len, list_any}}
use Rattle.tier_core.specs.{Kinds.open_tiers, Tiers.has_tier}
use Rattle.tier_core.proofs.KindLemmas.{bit_value}

-- no bit at all
pub no_bit : (t : ℕ) → has_tier 0 t ≡ false
no_bit t = ap (λ n. n == 1) (bit_at-zero t)

-- no bit from the bound of a mask on
pub none_from : (mask k t : ℕ) → mask < 2 ^ k → k ≤ t → has_tier mask t ≡ false
none_from mask k t l h = ap (λ b. b == 1) (bit_at_above mask k t l h)

none_bit : (mask i : ℕ) → has_tier mask i ≡ false → bit_at mask i ≡ 0
none_bit mask i h = let other = eqb-false (bit_at mask i) 1 h in omega (arith, bit_at-lt mask i)

none_any : (is : List ℕ) → list_any (λ flag. flag) (map (has_tier 0) is) ≡ false
none_any [] = refl
none_any (i ∷ is) = ap (λ b. b || list_any (λ flag. flag) (map (has_tier 0) is)) (ap (λ n. n == 1) (bit_at-zero i))
    ∙ none_any is

-- a mask is 0 exactly if it has no flag
pub no_flag : (n mask : ℕ) → mask < 2 ^ n → nat_eq mask 0 ≡ not (list_any (λ flag. flag) (open_tiers n mask))
no_flag n mask l = by (list_any (λ flag. flag) (open_tiers n mask)) refl
  where
    unset : list_any (λ flag. flag) (open_tiers n mask) ≡ false → (i : ℕ) → i < n → (b : Bool) → has_tier mask i ≡ b
        → has_tier mask i ≡ false
    unset e i h false t = t
    unset e i h true t = absurd (false≢true (sym e ∙ list_any_at (λ flag. flag) (open_tiers n mask) i false
        (omega (arith, length-map-range_with_len (has_tier mask) 0 n))
        (get_or-map-range_with_len (has_tier mask) 0 n i i false h (omega arith) ∙ t)))

    none : list_any (λ flag. flag) (open_tiers n mask) ≡ false → mask ≡ 0
    none e = same_from_bits mask 0 (λ i. ⊎_elim
        (λ h. none_bit mask i (unset e i h (has_tier mask i) refl) ∙ sym (bit_at-zero i))
        (λ h. none_bit mask i (none_from mask n i l h) ∙ sym (bit_at-zero i)) (cases_lt i n))

    by : (b : Bool) → list_any (λ flag. flag) (open_tiers n mask) ≡ b
        → nat_eq mask 0 ≡ not (list_any (λ flag. flag) (open_tiers n mask))
    by false e = eq-eqb mask 0 (none e) ∙ sym (ap not e)
    by true e = ne_eqb mask 0 (λ z. false≢true (sym (none_any (range_with_len 0 n))
        ∙ ap (λ m. list_any (λ flag. flag) (open_tiers n m)) (sym z) ∙ e)) ∙ sym (ap not e)

-- masks that have no bit in common
pub apart_by : (a b : ℕ) → ((i : ℕ) → has_tier a i ≡ true → has_tier b i ≡ false) → bit_and a b ≡ 0
apart_by a b h = same_from_bits (bit_and a b) 0
    (λ i. bit_at_and a b i ∙ none i (has_tier a i) refl ∙ sym (bit_at-zero i))
  where
    none : (i : ℕ) (c : Bool) → has_tier a i ≡ c → min (bit_at a i) (bit_at b i) ≡ 0
    none i false e = omega (arith, none_bit a i e)
    none i true e = omega (arith, none_bit b i (h i e))

pub apart_from : (a b : ℕ) → ((i : ℕ) → (has_tier a i && has_tier b i) ≡ false) → bit_and a b ≡ 0
apart_from a b h = apart_by a b (λ i e. sym (ap (λ x. x && has_tier b i) e) ∙ h i)

-- masks with the same tiers below what bounds them are the same
pub same_mask : (a b n : ℕ) → a < 2 ^ n → b < 2 ^ n → ((i : ℕ) → i < n → has_tier a i ≡ has_tier b i) → a ≡ b
same_mask a b n la lb h = same_from_bits_below n a b la lb (λ i l.
    bit_value (bit_at a i) (bit_at-lt a i) ∙ ap (λ c. cond c 1 0) (h i l)
    ∙ sym (bit_value (bit_at b i) (bit_at-lt b i)))

-- the greater of two bits is one if either is
pub most_one : (p q : ℕ) → p < 2 → q < 2 → (max p q == 1) ≡ ((p == 1) || (q == 1))
most_one zero zero lp lq = refl
most_one zero (suc zero) lp lq = refl
most_one zero (suc (suc q)) lp lq = absurd (omega arith)
most_one (suc zero) zero lp lq = refl
most_one (suc zero) (suc zero) lp lq = refl
most_one (suc zero) (suc (suc q)) lp lq = absurd (omega arith)
most_one (suc (suc p)) q lp lq = absurd (omega arith)

-- ---- masks of flags

-- a mask has the flags of a list
pub record AreBits (flags : List Bool) (mask : ℕ) : Type 0 where
  pub within : mask < 2 ^ length flags
  pub each : (i : ℕ) → i < length flags → has_tier mask i ≡ get_or flags i false

pub halves : (b : Bool) (n : ℕ) → ((cond b 1 0 + 2 * n) % 2 ≡ cond b 1 0) × ((cond b 1 0 + 2 * n) / 2 ≡ n)
halves true n = (omega arith, omega arith)
halves false n = (omega arith, omega arith)

pub lowest_flag : (b : Bool) → (cond b 1 0 == 1) ≡ b
lowest_flag true = refl
lowest_flag false = refl

pub at_most_one : (b : Bool) → cond b 1 0 ≤ 1
at_most_one true = omega arith
at_most_one false = omega arith

bits_more : (b : Bool) (flags : List Bool) (mask : ℕ) → AreBits flags mask
    → AreBits (b ∷ flags) (cond b 1 0 + 2 * mask)
bits_more b flags mask a = record {
  within = let twice : 2 ^ suc (length flags) ≡ 2 ^ length flags * 2 = pow-suc 2 (length flags) in omega
      (arith, twice, a.within, at_most_one b);
  each = at;
}
  where
    at : (i : ℕ) → i < length (b ∷ flags) → has_tier (cond b 1 0 + 2 * mask) i ≡ get_or (b ∷ flags) i false
    at zero l = ap (λ n. n == 1) (bit_at_lowest (cond b 1 0 + 2 * mask) ∙ (halves b mask).0) ∙ lowest_flag b
    at (suc i) l = ap (λ n. n == 1) (bit_at-suc (cond b 1 0 + 2 * mask) i ∙ ap (λ n. bit_at n i) (halves b mask).1)
        ∙ a.each i (omega arith)

-- each list of flags has a mask
pub bits_of : (flags : List Bool) → (mask : ℕ) × AreBits flags mask
bits_of [] = (0, record { within = omega arith; each = λ i l. absurd (omega arith) })
bits_of (b ∷ flags) = let rest : (mask : ℕ) × AreBits flags mask = bits_of flags in
    (cond b 1 0 + 2 * rest.0, bits_more b flags rest.0 rest.1)

-- and the mask tells them
pub open_bits : (flags : List Bool) (mask : ℕ) → AreBits flags mask → open_tiers (length flags) mask ≡ flags
open_bits flags mask a = sym (fill_by_all (has_tier mask) flags (length flags) false refl (λ i l. sym (a.each i l)))

-- ---- a mask that is made from its lowest bit on

-- what is read so far, and the rest with one bit taken from it
pub mask_shift : (m b x : ℕ) (t : Bool) → m + b * (cond t 1 0 + 2 * x) ≡ m + cond t b 0 + b * 2 * x
mask_shift m b x true = let p = mul-add b 1 (2 * x) in let q = mul_assoc b 2 x in omega arith
mask_shift m b x false = let p = mul-add b 0 (2 * x) in let q = mul_assoc b 2 x in omega arith

pub bit_below : (m b : ℕ) (t : Bool) (r : ℕ) → r ≡ cond t b 0 → m < b → m + r < b * 2
bit_below m b true r e l = omega arith
bit_below m b false r e l = omega arith

pub odd_or_even : (n : ℕ) → (n % 2 ≡ 1) ⊎ (n % 2 ≡ 0)
odd_or_even n = grind arith
