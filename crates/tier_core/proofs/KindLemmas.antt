-- Kinds are compared by the lowest bit in which their masks differ.
use Rattle.std.proofs.Common.{◌≡◌, ℕ, zero, suc, ◌+◌, ◌<◌, ◌^◌, ◌==◌, ◌&&◌, Bool, true, false, cond, map, min}
use Rattle.std.proofs.Common.{bit_and, bit_or, bit_xor, w32, refl, ap, sym, ◌∙◌, subst, ⊎_elim, ◌⊎◌, inl, inr}
use Rattle.std.proofs.{Common.arith, lemmas.Bool.{false≢true, cases_lt}, lemmas.Nat.{or_lt, xor_lt}}
use Rattle.std.proofs.lemmas.Nat.Bits.{bit_at_xor, bit_at_or, bit_at_and, bit_at-lt, bit_at-zero}
use Rattle.std.proofs.lemmas.Nat.Bits.{bit_at-trailing_zeros}
use Rattle.std.specs.{List.range_with_len, Int.{bit_at, trailing_zeros}, Ordering.{nat_cmp, ordering_then}}
use Rattle.std.specs.{Cmp.nat_cmp_is, Cmp.Lexicographic.slice_cmp, declared.cmp.Ordering.Ordering}
use Rattle.std.specs.declared.cmp.Ordering.TheVariants.{Less, Equal, Greater}
use Rattle.tier_core.specs.{declared.kind.Kind.Kind, Tiers.has_tier, Kinds.{AreStretchesBelow, open_order}}
use Rattle.tier_core.specs.Kinds.{phase_order, phase_rank, open_rank, open_tiers, phases, phase_at, phase_by_bits}
use Rattle.tier_core.proofs.{MaskLemmas.tier_within, KindTies.{same_cmp, same_open}}

-- ---- lists that are made place by place

then_first : (o rest : Ordering) → (o ≡ Equal → ⊥) → ordering_then o rest ≡ o
then_first Less rest h = refl
then_first Equal rest h = absurd (h refl)
then_first Greater rest h = refl

other_cmp : (m n : ℕ) → (m ≡ n → ⊥) → nat_cmp m n ≡ Equal → ⊥
other_cmp m n h e = ⊎_elim (λ l. let less : Less ≡ nat_cmp m n = nat_cmp_is m n Less l in cc)
    (λ l. let more : n < m = omega (arith, h) in let greater : Greater
    ≡ nat_cmp m n = nat_cmp_is m n Greater more in cc) (cases_lt m n)

-- where no place differs, the lists are equal
pub cmp_same : {X : Type 0} (rank : X → ℕ) (p q : ℕ → X) (j n : ℕ) → ((i : ℕ) → p i ≡ q i)
    → slice_cmp nat_cmp (map rank (map p (range_with_len j n))) (map rank (map q (range_with_len j n))) ≡ Equal
cmp_same rank p q j zero h = refl
cmp_same rank p q j (suc n) h =
    ap (λ o. ordering_then o (slice_cmp nat_cmp (map rank (map p (range_with_len (j + 1) n)))
    (map rank (map q (range_with_len (j + 1) n))))) (same_cmp (rank (p j)) (rank (q j)) (ap rank (h j)))
    ∙ cmp_same rank p q (j + 1) n h

-- the first place that differs decides
pub cmp_first : {X : Type 0} (rank : X → ℕ) (p q : ℕ → X) (j n d : ℕ) → d < n → ((i : ℕ) → i < j + d → p i ≡ q i)
    → (rank (p (j + d)) ≡ rank (q (j + d)) → ⊥)
    → slice_cmp nat_cmp (map rank (map p (range_with_len j n))) (map rank (map q (range_with_len j n)))
    ≡ nat_cmp (rank (p (j + d))) (rank (q (j + d)))
cmp_first rank p q j zero d l h other = absurd (omega arith)
cmp_first rank p q j (suc n) zero l h other =
    let here : j + zero ≡ j = omega arith in
    let rest = slice_cmp nat_cmp (map rank (map p (range_with_len (j + 1) n)))
    (map rank (map q (range_with_len (j + 1) n))) in
    ap (λ k. ordering_then (nat_cmp (rank (p k)) (rank (q k))) rest) (sym here)
    ∙ then_first (nat_cmp (rank (p (j + zero))) (rank (q (j + zero)))) rest
    (other_cmp (rank (p (j + zero))) (rank (q (j + zero))) other)
cmp_first rank p q j (suc n) (suc d) l h other =
    let there : j + suc d ≡ j + 1 + d = omega arith in
    let rest = slice_cmp nat_cmp (map rank (map p (range_with_len (j + 1) n)))
    (map rank (map q (range_with_len (j + 1) n))) in
    ap (λ o. ordering_then o rest) (same_cmp (rank (p j)) (rank (q j)) (ap rank (h j (omega arith))))
    ∙ cmp_first rank p q (j + 1) n d (omega arith) (λ i g. h i (omega arith))
    (subst (λ k. rank (p k) ≡ rank (q k) → ⊥) there other)
    ∙ ap (λ k. nat_cmp (rank (p k)) (rank (q k))) (sym there)

-- the first place that differs decides, where places are numbered from 0
pub cmp_at : {X : Type 0} (rank : X → ℕ) (p q : ℕ → X) (n d : ℕ) → d < n → ((i : ℕ) → i < d → p i ≡ q i)
    → (rank (p d) ≡ rank (q d) → ⊥)
    → slice_cmp nat_cmp (map rank (map p (range_with_len 0 n))) (map rank (map q (range_with_len 0 n)))
    ≡ nat_cmp (rank (p d)) (rank (q d))
cmp_at rank p q n d l h other =
    let same : 0 + d ≡ d = omega arith in
    cmp_first rank p q 0 n d l (λ i g. h i (omega arith)) (subst (λ k. rank (p k) ≡ rank (q k) → ⊥) (sym same) other)
    ∙ ap (λ k. nat_cmp (rank (p k)) (rank (q k))) same

-- ---- bits that differ

pub bit_value : (n : ℕ) → n < 2 → n ≡ cond (n == 1) 1 0
bit_value zero l = refl
bit_value (suc zero) l = refl
bit_value (suc (suc n)) l = absurd (omega arith)

value_at : (a i : ℕ) → bit_at a i ≡ cond (has_tier a i) 1 0
value_at a i = bit_value (bit_at a i) (bit_at-lt a i)

pub same_bit : (a b i : ℕ) → bit_at (bit_xor a b) i ≡ 0 → has_tier a i ≡ has_tier b i
same_bit a b i h =
    let few_a = bit_at-lt a i in
    let few_b = bit_at-lt b i in
    let same : bit_at a i ≡ bit_at b i = omega (arith, bit_at_xor a b i) in
    ap (λ n. n == 1) same

pub other_bit : (a b i : ℕ) → bit_at (bit_xor a b) i ≡ 1 → has_tier a i ≡ has_tier b i → ⊥
other_bit a b i h e =
    let same : bit_at a i ≡ bit_at b i = value_at a i ∙ ap (λ c. cond c 1 0) e ∙ sym (value_at b i) in
    let few_b = bit_at-lt b i in
    absurd (omega (arith, bit_at_xor a b i))

-- no bit is set in both of two masks
pub not_both : (a b i : ℕ) → bit_and a b ≡ 0 → (has_tier a i && has_tier b i) ≡ false
not_both a b i h =
    let none : min (bit_at a i) (bit_at b i) ≡ 0 = sym (bit_at_and a b i) ∙ ap (λ n. bit_at n i) h ∙ bit_at-zero i in
    of_values (has_tier a i) (has_tier b i) (omega (arith, value_at a i, value_at b i))
  where
    of_values : (x y : Bool) → min (cond x 1 0) (cond y 1 0) ≡ 0 → (x && y) ≡ false
    of_values true true e = absurd (omega arith)
    of_values true false e = refl
    of_values false y e = refl

-- a bit in which masks differ is below what bounds them
pub apart_within : (a b width i : ℕ) → a < 2 ^ width → b < 2 ^ width → (has_tier a i ≡ has_tier b i → ⊥) → i < width
apart_within a b width i la lb other = by (has_tier a i) (has_tier b i) refl refl
  where
    by : (x y : Bool) → has_tier a i ≡ x → has_tier b i ≡ y → i < width
    by true y e f = tier_within a width i la e
    by false true e f = tier_within b width i lb f
    by false false e f = absurd (other (e ∙ sym f))

-- ---- open tiers

-- the place of the lowest bit
abbrev pub lowest : ℕ → ℕ
lowest apart = trailing_zeros w32 apart

pub lowest_within : (apart : ℕ) → (apart ≡ 0 → ⊥) → apart < 2 ^ 32 → lowest apart < 32
lowest_within apart some few = (bit_at-trailing_zeros w32 apart (omega (arith, some)) few).0

pub opened_same : (a b free : ℕ) → bit_xor a b ≡ 0 → Equal ≡ open_order (open_tiers free a) (open_tiers free b)
opened_same a b free e = sym (cmp_same open_rank (has_tier a) (has_tier b) 0 free
    (λ i. same_bit a b i (ap (λ n. bit_at n i) e ∙ bit_at-zero i)))

-- the mask in which the lowest bit that differs is set comes after the other
pub opened_first : (a b free : ℕ) → (bit_xor a b ≡ 0 → ⊥) → bit_xor a b < 2 ^ 32 → a < 2 ^ free → b < 2 ^ free
    → cond (has_tier a (lowest (bit_xor a b))) Greater Less ≡ open_order (open_tiers free a) (open_tiers free b)
opened_first a b free some few la lb =
    let d = lowest (bit_xor a b) in
    let low = bit_at-trailing_zeros w32 (bit_xor a b) (omega (arith, some)) few in
    let other : has_tier a d ≡ has_tier b d → ⊥ = other_bit a b d low.1 in
    by (has_tier a d) (has_tier b d) other
    ∙ sym (cmp_at open_rank (has_tier a) (has_tier b) free d (apart_within a b free d la lb other)
    (λ i l. same_bit a b i (low.2 i l)) (λ e. other (same_open (has_tier a d) (has_tier b d) e)))
  where
    by : (x y : Bool) → (x ≡ y → ⊥) → cond x Greater Less ≡ nat_cmp (open_rank x) (open_rank y)
    by true true h = absurd (h refl)
    by true false h = refl
    by false true h = refl
    by false false h = absurd (h refl)

-- ---- phases

abbrev pub apart_phases : Kind → Kind → ℕ
apart_phases k l = bit_or (bit_xor k.unmet l.unmet) (bit_xor k.met l.met)

pub apart_few : (k l : Kind) → k.unmet < 2 ^ 32 → l.unmet < 2 ^ 32 → k.met < 2 ^ 32 → l.met < 2 ^ 32
    → apart_phases k l < 2 ^ 32
apart_few k l ku lu km lm = or_lt 32 (bit_xor k.unmet l.unmet) (bit_xor k.met l.met) (xor_lt 32 k.unmet l.unmet ku lu)
    (xor_lt 32 k.met l.met km lm)

-- where bits are not both set, phases of one rank have the same bits
same_bits : (u m v n : Bool) → (u && m) ≡ false → (v && n) ≡ false
    → phase_rank (phase_by_bits u m) ≡ phase_rank (phase_by_bits v n) → (u ≡ v) × (m ≡ n)
same_bits true true v n h g e = absurd (false≢true (sym h))
same_bits u m true true h g e = absurd (false≢true (sym g))
same_bits true false true false h g e = (refl, refl)
same_bits true false false true h g e = absurd (omega arith)
same_bits true false false false h g e = absurd (omega arith)
same_bits false true true false h g e = absurd (omega arith)
same_bits false true false true h g e = (refl, refl)
same_bits false true false false h g e = absurd (omega arith)
same_bits false false true false h g e = absurd (omega arith)
same_bits false false false true h g e = absurd (omega arith)
same_bits false false false false h g e = (refl, refl)

-- a bit that is set in neither mask, or in one
or_none : (x y i : ℕ) → bit_at (bit_or x y) i ≡ 0 → (bit_at x i ≡ 0) × (bit_at y i ≡ 0)
or_none x y i h = (omega (arith, bit_at_or x y i), omega (arith, bit_at_or x y i))

or_some : (x y i : ℕ) → bit_at (bit_or x y) i ≡ 1 → (bit_at x i ≡ 1) ⊎ (bit_at y i ≡ 1)
or_some x y i h =
    let few_x = bit_at-lt x i in
    let few_y = bit_at-lt y i in
    ⊎_elim (λ l. inl (omega (arith, bit_at_or x y i))) (λ l. inr (omega (arith, bit_at_or x y i)))
    (cases_lt 0 (bit_at x i))

same_phase : (k l : Kind) (i : ℕ) → bit_at (apart_phases k l) i ≡ 0 → phase_at k i ≡ phase_at l i
same_phase k l i h =
    let none = or_none (bit_xor k.unmet l.unmet) (bit_xor k.met l.met) i h in
    ap (λ u. phase_by_bits u (has_tier k.met i)) (same_bit k.unmet l.unmet i none.0)
    ∙ ap (phase_by_bits (has_tier l.unmet i)) (same_bit k.met l.met i none.1)

pub phases_same : (k l : Kind) (stretches : ℕ) → apart_phases k l ≡ 0
    → Equal ≡ phase_order (phases stretches k) (phases stretches l)
phases_same k l stretches e = sym (cmp_same phase_rank (phase_at k) (phase_at l) 0 stretches
    (λ i. same_phase k l i (ap (λ n. bit_at n i) e ∙ bit_at-zero i)))

-- the phases at the lowest bit that differs decide
pub phases_first : (k l : Kind) (stretches : ℕ) → (apart_phases k l ≡ 0 → ⊥) → apart_phases k l < 2 ^ 32
    → AreStretchesBelow stretches k → AreStretchesBelow stretches l
    → nat_cmp (phase_rank (phase_at k (lowest (apart_phases k l))))
    (phase_rank (phase_at l (lowest (apart_phases k l)))) ≡ phase_order (phases stretches k) (phases stretches l)
phases_first k l stretches some few below_k below_l =
    let d = lowest (apart_phases k l) in
    let low = bit_at-trailing_zeros w32 (apart_phases k l) (omega (arith, some)) few in
    let one = or_some (bit_xor k.unmet l.unmet) (bit_xor k.met l.met) d low.1 in
    let within : d < stretches = ⊎_elim (λ h. apart_within k.unmet l.unmet stretches d below_k.unmet below_l.unmet
    (other_bit k.unmet l.unmet d h))
    (λ h. apart_within k.met l.met stretches d below_k.met below_l.met (other_bit k.met l.met d h)) one in
    sym (cmp_at phase_rank (phase_at k) (phase_at l) stretches d within (λ i g. same_phase k l i (low.2 i g))
    (λ e. let same = same_bits (has_tier k.unmet d) (has_tier k.met d) (has_tier l.unmet d) (has_tier l.met d)
    (not_both k.unmet k.met d k.apart) (not_both l.unmet l.met d l.apart) e in
    ⊎_elim (λ h. other_bit k.unmet l.unmet d h same.0) (λ h. other_bit k.met l.met d h same.1) one))
