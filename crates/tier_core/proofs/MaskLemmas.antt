-- The tiers of a mask.
use Rattle.std.proofs.Common.{◌≡◌, ◌↔◌, IsTrue, sym, ℕ, zero, suc, ◌≤◌, length, ◌+◌, ◌*◌, ◌%◌, ◌==◌, bit_or, w16}
use Rattle.std.proofs.Common.{◌^◌, ◌<◌, true, false, cond, List, [], ◌∷◌, ◌++◌, map, ap, ◌∙◌, ⊎_elim, arith}
use Rattle.std.proofs.{Common.add-one, lemmas.Bool.{false≢true, cases_lt, eqb-true}}
use Rattle.std.proofs.{lemmas.List.{map-append, append-nil, length-append}, Math.Nat.pow-le-pow_right}
use Rattle.std.proofs.lemmas.Nat.{or_lt, one_shl, pow_below}
use Rattle.std.proofs.lemmas.Nat.Bits.{bit_at-trailing_zeros, bit_at_above, bit_at_set_same, bit_at_set_other}
use Rattle.std.specs.Int.{Width, bit_at, trailing_zeros}
use Rattle.tier_core.specs.{declared.sym.Sym.Sym, Timelines.symbol, declared.tier.TierKind.TierKind}
use Rattle.tier_core.specs.Tiers.{has_tier, tiers_below, tiers_of, kind_at}
use mir.Val.{bits}

-- a tier of a mask is below the width that bounds it
pub tier_within : (keep width tier : ℕ) → keep < 2 ^ width → has_tier keep tier ≡ true → tier < width
tier_within keep width tier l h =
    ⊎_elim (λ g. g) (λ g. let none : bit_at keep tier ≡ 0 = bit_at_above keep width tier l g in
    let one : bit_at keep tier ≡ 1 = eqb-true (bit_at keep tier) 1 h in absurd (omega arith)) (cases_lt tier width)

pub kept_more : (column : List Sym) (keep tier : ℕ) → has_tier keep tier ≡ true
    → map (symbol column) (tiers_below keep (tier + 1)) ≡ map (symbol column) (tiers_below keep tier)
    ++ symbol column tier ∷ []
kept_more column keep tier h =
    ap (λ n. map (symbol column) (tiers_below keep n)) (add-one tier)
    ∙ ap (λ b. map (symbol column) (tiers_below keep tier ++ cond b (tier ∷ []) [])) h
    ∙ map-append (symbol column) (tiers_below keep tier) (tier ∷ [])

pub kept_same : (column : List Sym) (keep tier : ℕ) → has_tier keep tier ≡ false
    → map (symbol column) (tiers_below keep (tier + 1)) ≡ map (symbol column) (tiers_below keep tier)
kept_same column keep tier h =
    ap (λ n. map (symbol column) (tiers_below keep n)) (add-one tier)
    ∙ ap (λ b. map (symbol column) (tiers_below keep tier ++ cond b (tier ∷ []) [])) h
    ∙ ap (map (symbol column)) (append-nil (tiers_below keep tier))

pub tiers_at_end : (keep n : ℕ) → n ≡ 12 → tiers_below keep n ≡ tiers_of keep
unfolding tiers_of
tiers_at_end keep n e = ap (tiers_below keep) e

-- a tier is put into a mask of the tiers before it
pub set_few : (w : Width) (mask k : ℕ) → k < bits w → mask < 2 ^ k
    → bit_or mask (1 * 2 ^ k % 2 ^ bits w) < 2 ^ (k + 1)
set_few w mask k h l =
    let next : 2 ^ k < 2 ^ (k + 1) = pow_below k (k + 1) (omega arith) in
    or_lt (k + 1) mask (1 * 2 ^ k % 2 ^ bits w) (omega arith) (omega (arith, one_shl k (bits w) h))

pub set_same : (w : Width) (mask k : ℕ) → k < bits w → has_tier (bit_or mask (1 * 2 ^ k % 2 ^ bits w)) k ≡ true
set_same w mask k h = ap (λ b. b == 1) (bit_at_set_same w mask k h)

pub set_other : (w : Width) (mask k t : ℕ) → k < bits w → t < k
    → has_tier (bit_or mask (1 * 2 ^ k % 2 ^ bits w)) t ≡ has_tier mask t
set_other w mask k t h l = ap (λ b. b == 1) (bit_at_set_other w mask k h t (λ e. absurd (omega arith)))

-- a mask has no tier from its bound on
pub no_tier_above : (mask k : ℕ) → mask < 2 ^ k → has_tier mask k ≡ false
no_tier_above mask k l = ap (λ b. b == 1) (bit_at_above mask k k l (omega arith))

-- the bits of a mask below n are those of the tiers of a kind
pub record IsMaskBelow (kinds : List TierKind) (kind : TierKind) (mask n : ℕ) : Type 0 where
  pub within : mask < 2 ^ n
  pub bits : (t : ℕ) → t < n → IsTrue (has_tier mask t) ↔ (kind_at kinds t ≡ kind)

-- one tier more, of the kind or not
pub mask_with : (kinds : List TierKind) (kind : TierKind) (mask n : ℕ) → n < 16 → kind_at kinds n ≡ kind
    → IsMaskBelow kinds kind mask n → IsMaskBelow kinds kind (bit_or mask (1 * 2 ^ n % 2 ^ 16)) (n + 1)
mask_with kinds kind mask n h e m = record {
  within = set_few w16 mask n h m.within;
  bits = λ t l. ⊎_elim
      (λ below. let same = set_other w16 mask n t h below in
      (λ x. (m.bits t below).0 (sym same ∙ x), λ y. same ∙ (m.bits t below).1 y))
      (λ above. let here : t ≡ n = omega arith in (
        λ x. ap (kind_at kinds) here ∙ e,
        λ y. ap (has_tier (bit_or mask (1 * 2 ^ n % 2 ^ 16))) here
            ∙ set_same w16 mask n h,
      ))
      (cases_lt t n);
}

pub mask_without : (kinds : List TierKind) (kind : TierKind) (mask n : ℕ) → (kind_at kinds n ≡ kind → ⊥)
    → IsMaskBelow kinds kind mask n → IsMaskBelow kinds kind mask (n + 1)
mask_without kinds kind mask n other m = record {
  within = let next : 2 ^ n < 2 ^ (n + 1) = pow_below n (n + 1) (omega arith) in omega (arith, m.within);
  bits = λ t l. ⊎_elim (λ below. m.bits t below)
      (λ above. let here : t ≡ n = omega arith in (
        λ x. absurd (false≢true (sym (no_tier_above mask n m.within) ∙ (sym (ap (has_tier mask) here) ∙ x))),
        λ y. absurd (other (sym (ap (kind_at kinds) here) ∙ y)),
      ))
      (cases_lt t n);
}

-- a tier whose bit is set is listed
pub listed_below : (mask t n : ℕ) → has_tier mask t ≡ true → t < n → 0 < length (tiers_below mask n)
listed_below mask t zero h l = absurd (omega arith)
listed_below mask t (suc n) h l =
    let last : List ℕ = cond (has_tier mask n) (n ∷ []) [] in
    let long : length (tiers_below mask n ++ last)
    ≡ length (tiers_below mask n) + length last = length-append (tiers_below mask n) last in
    ⊎_elim
    (λ below. let more = listed_below mask t n h below in omega (arith, long, more))
    (λ above. let here : t ≡ n = omega arith in
    let one : length last ≡ 1 = ap (λ b. length (cond b (n ∷ []) [])) (sym (ap (has_tier mask) here) ∙ h) in
    omega (arith, long, one))
    (cases_lt t n)

-- a mask that is not 0 names a tier
pub some_tier : (mask width : ℕ) → 0 < mask → width ≤ 12 → mask < 2 ^ width → 1 ≤ length (tiers_of mask)
unfolding tiers_of
some_tier mask width some few within =
    let twelve : 2 ^ width ≤ 2 ^ 12 = pow-le-pow_right {n = 2} (omega arith) few in
    let lowest = bit_at-trailing_zeros w16 mask some (omega (arith, twelve)) in
    let set : has_tier mask (trailing_zeros w16 mask) ≡ true = ap (λ b. b == 1) lowest.1 in
    listed_below mask (trailing_zeros w16 mask) 12 set
    (tier_within mask 12 (trailing_zeros w16 mask) (omega (arith, twelve)) set)
