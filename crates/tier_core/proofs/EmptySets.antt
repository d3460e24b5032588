-- A word has a tier with the empty set where a bit is left of those that stand for its tiers.
use Rattle.std.proofs.Common.{◌≡◌, ◌≢◌, ℕ, ◌-◌, ◌*◌, ◌/◌, ◌%◌, ◌^◌, ◌<◌, ◌≤◌, ◌==◌, true, not, ◌||◌, min, max, refl}
use Rattle.std.proofs.Common.{bit_and, bit_or, w64, ap, sym, ◌∙◌, subst, arith, ⊎_elim}
use Rattle.std.proofs.lemmas.Bool.{agree_below_at, cases_lt, eqb-true, eq-eqb, or_cases, not-true, true≢false}
use Rattle.std.proofs.{lemmas.Nat.{shr-shr, or_lt, and_le_l}, lemmas.Nat.Bits.{ones_shl, bit_at_and, bit_at_or}}
use Rattle.std.proofs.lemmas.Nat.Bits.{bit_at_not, bit_at-zero, bit_at_mask_inside, bit_at_mask_below}
use Rattle.std.proofs.lemmas.Nat.Bits.{bit_at-trailing_zeros, bit_at-lt}
use Rattle.std.specs.Int.{bit_at, bit_not, trailing_zeros}
use Rattle.tier_core.specs.ClassWords.{set_in}

-- the lowest bit of each tier's set is that of some symbol
abbrev pub symbols_in : ℕ → ℕ
symbols_in w = bit_or (bit_or (bit_or (bit_or w (w / 2)) (w / 4)) (w / 8)) (w / 16)

-- those of twelve tiers
abbrev pub lowest : ℕ
lowest = 595056260442243600

-- those of the first n tiers that have no symbol
abbrev pub empty_in : ℕ → ℕ → ℕ
empty_in w n = bit_and (bit_and ((2 ^ 64 - 1) * 2 ^ (64 - 5 * n) % 2 ^ 64) lowest) (bit_not w64 (symbols_in w))

shifted : (w j p : ℕ) → bit_at (w / 2 ^ j) p ≡ w / 2 ^ p / 2 ^ j % 2
shifted w j p = ap (λ x. x % 2) (shr-shr w j p ∙ ap (λ k. w / 2 ^ k) (omega arith) ∙ sym (shr-shr w p j))

some_bit : (w p : ℕ) → bit_at (symbols_in w) p
    ≡ max (max (max (max (bit_at w p) (bit_at (w / 2) p)) (bit_at (w / 4) p)) (bit_at (w / 8) p)) (bit_at (w / 16) p)
some_bit w p =
    bit_at_or (bit_or (bit_or (bit_or w (w / 2)) (w / 4)) (w / 8)) (w / 16) p
    ∙ ap (λ x. max x (bit_at (w / 16) p)) (bit_at_or (bit_or (bit_or w (w / 2)) (w / 4)) (w / 8) p
    ∙ ap (λ x. max x (bit_at (w / 8) p)) (bit_at_or (bit_or w (w / 2)) (w / 4) p
    ∙ ap (λ x. max x (bit_at (w / 4) p)) (bit_at_or w (w / 2) p)))

none_from : (w p : ℕ) → w / 2 ^ p % 32 ≡ 0 → bit_at (symbols_in w) p ≡ 0
none_from w p e = some_bit w p ∙ omega (arith, shifted w 1 p, shifted w 2 p, shifted w 3 p, shifted w 4 p)

none_at : (w p : ℕ) → bit_at (symbols_in w) p ≡ 0 → w / 2 ^ p % 32 ≡ 0
none_at w p e = omega (arith, some_bit w p, shifted w 1 p, shifted w 2 p, shifted w 3 p, shifted w 4 p)

lowest_at : (t : ℕ) → t < 12 → bit_at lowest (59 - 5 * t) ≡ 1
lowest_at t l = eqb-true (bit_at lowest (59 - 5 * t)) 1
    (agree_below_at (λ t. bit_at lowest (59 - 5 * t) == 1) (λ _. true) 12 t refl l)

lowest_place : (p : ℕ) → p < 64 → bit_at lowest p ≡ 1 → p % 5 ≡ 4
lowest_place p l e =
    ⊎_elim (λ off. absurd (true≢false (sym (eq-eqb (bit_at lowest p) 1 e) ∙ not-true (bit_at lowest p == 1) off)))
    (λ is. eqb-true (p % 5) 4 is)
    (or_cases (not (bit_at lowest p == 1)) (p % 5 == 4)
    (agree_below_at (λ p. not (bit_at lowest p == 1) || (p % 5 == 4)) (λ _. true) 64 p refl l))

module _ (w n : ℕ) (fits : w < 2 ^ 64) (few : n ≤ 12) where
  symbols_fit : symbols_in w < 2 ^ 64
  symbols_fit = or_lt 64 _ _ (or_lt 64 _ _ (or_lt 64 _ _ (or_lt 64 _ _ fits (omega arith)) (omega arith))
      (omega arith)) (omega arith)

  at : (p : ℕ) → p < 64 → bit_at (empty_in w n) p
      ≡ min (min (bit_at (2 ^ 64 - 2 ^ (64 - 5 * n)) p) (bit_at lowest p)) (1 - bit_at (symbols_in w) p)
  at p l =
      bit_at_and (bit_and ((2 ^ 64 - 1) * 2 ^ (64 - 5 * n) % 2 ^ 64) lowest) (bit_not w64 (symbols_in w)) p
      ∙ ap (min (bit_at (bit_and ((2 ^ 64 - 1) * 2 ^ (64 - 5 * n) % 2 ^ 64) lowest) p))
      (bit_at_not w64 (symbols_in w) p symbols_fit l)
      ∙ ap (λ x. min x (1 - bit_at (symbols_in w) p)) (bit_at_and ((2 ^ 64 - 1) * 2 ^ (64 - 5 * n) % 2 ^ 64) lowest p
      ∙ ap (λ x. min (bit_at x p) (bit_at lowest p)) (ones_shl 64 (64 - 5 * n) (omega arith)))

  pub empty_from : (t : ℕ) → t < n → set_in w t ≡ 0 → empty_in w n ≢ 0
  empty_from t l e none =
      let p = 59 - 5 * t in
      let off : bit_at (empty_in w n) p ≡ 0 = ap (λ x. bit_at x p) none ∙ bit_at-zero p in
      absurd (omega (
        arith,
        at p (omega arith),
        bit_at_mask_inside (64 - 5 * n) 64 p (omega arith) (omega arith),
        lowest_at t (omega arith),
        none_from w p e,
      ))

  empty_place : (p : ℕ) → p < 64 → bit_at (empty_in w n) p ≡ 1 → (t : ℕ) × (t < n) × (set_in w t ≡ 0)
  empty_place p l e =
      let high : 64 - 5 * n ≤ p = ⊎_elim
      (λ low. absurd (omega (arith, at p l, bit_at_mask_below (64 - 5 * n) 64 p low))) (λ h. h)
      (cases_lt p (64 - 5 * n)) in
      let five : p % 5 ≡ 4 = lowest_place p l (omega (arith, at p l, bit_at-lt lowest p)) in
      let none : w / 2 ^ p % 32 ≡ 0 = none_at w p (omega (arith, at p l, bit_at-lt (symbols_in w) p)) in
      let same : p ≡ 59 - 5 * ((59 - p) / 5) = omega arith in
      ((59 - p) / 5, omega arith, subst (λ q. w / 2 ^ q % 32 ≡ 0) same none)

  pub some_empty : empty_in w n ≢ 0 → (t : ℕ) × (t < n) × (set_in w t ≡ 0)
  some_empty some =
      let left = empty_in w n in
      let first = bit_at-trailing_zeros w64 left (omega arith)
      (omega (
        arith,
        and_le_l (bit_and ((2 ^ 64 - 1) * 2 ^ (64 - 5 * n) % 2 ^ 64) lowest)
            (bit_not w64 (symbols_in w)),
        and_le_l ((2 ^ 64 - 1) * 2 ^ (64 - 5 * n) % 2 ^ 64) lowest,
      )) in
      empty_place (trailing_zeros w64 left) first.0 first.1
