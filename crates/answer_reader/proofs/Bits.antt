-- Masks of bytes, and kinds by such masks.
use Rattle.std.proofs.Common.{◌≡◌, ◌≢◌, ℕ, zero, suc, ◌+◌, ◌*◌, ◌^◌, ◌==◌, ◌<◌, ◌≤◌, Bool, false, cond, List, []}
use Rattle.std.proofs.Common.{◌∷◌, map, length, get_or, drop, refl, ap, sym, ◌∙◌, arith, ⊎_elim, bit_and, ne_eqb}
use Rattle.std.proofs.{Common.add-one, lemmas.Bool.{cases_lt, eqb-true}, lemmas.List.{get_or-map, drop_more}}
use Rattle.std.proofs.{lemmas.List.FromFn.fill_by_all, Math.Nat.pow-suc, lemmas.Nat.Bits.{bit_at_lowest, bit_at-suc}}
use Rattle.std.specs.{Int.bit_at, List.range_with_len}
use Rattle.tier_core.specs.{Kinds.{phase_by_bits, open_tiers}, Tiers.has_tier}
use Rattle.tier_core.proofs.MaskBits.{none_from, halves, lowest_flag, at_most_one, apart_by, mask_shift}
use Rattle.answer_reader.specs.{Masks.mark_mask, Nodes.phase_of_byte}

pub mask_within : (mark : ℕ) (bytes : List ℕ) → mark_mask mark bytes < 2 ^ length bytes
mask_within mark [] = omega arith
mask_within mark (b ∷ bytes) =
    let twice = pow-suc 2 (length bytes) in
    let rest = mask_within mark bytes in
    let one = at_most_one (b == mark) in omega arith

pub mask_at : (mark : ℕ) (bytes : List ℕ) (i : ℕ) → i < length bytes → has_tier (mark_mask mark bytes) i
    ≡ (get_or bytes i 0 == mark)
mask_at mark [] i l = absurd (omega arith)
mask_at mark (b ∷ bytes) zero l = ap (λ n. n == 1) (bit_at_lowest _ ∙ (halves _ _).0) ∙ lowest_flag _
mask_at mark (b ∷ bytes) (suc i) l = ap (λ n. n == 1) (bit_at-suc _ i ∙ ap (λ n. bit_at n i) (halves _ _).1)
    ∙ mask_at mark bytes i (omega arith)

-- a mask tells the bytes that are its mark
pub mask_told : (mark : ℕ) (bytes : List ℕ) → open_tiers (length bytes) (mark_mask mark bytes)
    ≡ map (λ b. b == mark) bytes
mask_told mark bytes = sym (fill_by_all _ _ _ false (same_length bytes) (λ i l. get_or-map _ _ i 0 _ l ∙ sym
    (mask_at _ _ i l)))
  where
    same_length : (bs : List ℕ) → length (map (λ b. b == mark) bs) ≡ length bs
    same_length [] = refl
    same_length (b ∷ bs) = ap suc (same_length bs)

pub phases_told : (bytes : List ℕ)
    → map (λ i. phase_by_bits (has_tier (mark_mask 117 bytes) i) (has_tier (mark_mask 109 bytes) i))
    (range_with_len 0 (length bytes)) ≡ map phase_of_byte bytes
phases_told bytes = sym (fill_by_all _ _ _ (phase_of_byte 0) (same_length bytes) (λ i l. get_or-map _ _ i 0 _ l ∙ sym
    (ap (λ u. phase_by_bits u (has_tier (mark_mask 109 bytes) i)) (mask_at _ _ i l) ∙ ap
    (phase_by_bits (get_or bytes i 0 == 117)) (mask_at _ _ i l))))
  where
    same_length : (bs : List ℕ) → length (map phase_of_byte bs) ≡ length bs
    same_length [] = refl
    same_length (b ∷ bs) = ap suc (same_length bs)

-- ---- masks of two marks have no bit in common

pub masks_apart : (m n : ℕ) (bytes : List ℕ) → m ≢ n → bit_and (mark_mask m bytes) (mark_mask n bytes) ≡ 0
masks_apart m n bytes other = apart_by _ _ (λ i e. ⊎_elim
    (λ l. let is = eqb-true (get_or bytes i 0) m (sym (mask_at m _ i l) ∙ e) in
    mask_at n _ i l ∙ ne_eqb (get_or bytes i 0) n (λ same. other (sym is ∙ same))) (λ l. no_bit n i l)
    (cases_lt i (length bytes)))
  where
    no_bit : (mark i : ℕ) → length bytes ≤ i → has_tier (mark_mask mark bytes) i ≡ false
    no_bit mark i l = none_from _ _ i (mask_within _ _) l

-- ---- the mask as it is made, from the front on

-- one byte more
pub mask_next : (mark m b k r : ℕ) (bytes : List ℕ) (t : Bool) → k < length bytes → t ≡ (get_or bytes k 0 == mark) → r
    ≡ cond t b 0
    → m + b * mark_mask mark (drop k bytes) ≡ m + r + b * 2 * mark_mask mark (drop (k + 1) bytes)
mask_next mark m b k r bytes t l is e = ap (λ bs. m + b * mark_mask mark bs) (drop_more bytes k 0 l)
    ∙ ap (λ u. m + b * (cond u 1 0 + 2 * mark_mask mark (drop (k + 1) bytes))) (sym is) ∙ mask_shift m b _ t
    ∙ ap (λ x. m + x + b * 2 * mark_mask mark (drop (k + 1) bytes)) (sym e)

pub bit_more : (b k : ℕ) → b ≤ 2 ^ k → b * 2 ≤ 2 ^ (k + 1)
bit_more b k l = let p = ap (λ i. 2 ^ i) (add-one k) ∙ pow-suc 2 k in omega arith
