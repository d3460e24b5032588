-- Numbers of kinds.
use Rattle.std.proofs.Common.{◌≡◌, ℕ, zero, suc, ◌+◌, ◌-◌, ◌*◌, ◌/◌, ◌%◌, ◌^◌, ◌==◌, ◌<◌, ◌≤◌, Bool, true, false}
use Rattle.std.proofs.Common.{cond, List, [], ◌∷◌, map, length, refl, ap, sym, ◌∙◌, arith, ⊎_elim}
use Rattle.std.proofs.lemmas.Nat.{mod-pow-add, pow_pos, div-mul-add, div-add-mod', le-div}
use Rattle.std.proofs.{lemmas.Nat.Bits.{bit_at-lt, bit_at_cat_low, bit_at_cat_high}, lemmas.Bool.cases_lt}
use Rattle.std.specs.{Int.bit_at, Cmp.nat_cmp_is, Ordering.{nat_cmp, ordering_then}, Cmp.Lexicographic.slice_cmp}
use Rattle.std.specs.{declared.cmp.Ordering.Ordering, declared.cmp.Ordering.TheVariants.{Less, Equal}}
use Rattle.tier_core.specs.{Tiers.has_tier, Kinds.{Phase, PrefixKind, open_rank, kind_order}}
use Rattle.ranked_gen.specs.Numbers.{number_of_flags, flags_of, number_of_kind, kind_of_number}

-- one more bit
abbrev pub bit_of : Bool → ℕ
bit_of b = cond b 1 0

pub bit_of_has : (n f : ℕ) → bit_of (has_tier n f) ≡ bit_at n f
bit_of_has n f = go (bit_at n f) (bit_at-lt n f)
  where
    go : (b : ℕ) → b < 2 → bit_of (b == 1) ≡ b
    go zero h = refl
    go (suc zero) h = refl
    go (suc (suc b)) h = absurd (omega arith)

pub flag_value : (b : Bool) (p : ℕ) → cond b p 0 ≡ bit_of b * p
flag_value true p = omega arith
flag_value false p = omega arith

pub length-flags_of : (f n : ℕ) → length (flags_of f n) ≡ f
length-flags_of zero n = refl
length-flags_of (suc f) n = ap suc (length-flags_of f n)

pub number-lt : (flags : List Bool) → number_of_flags flags < 2 ^ length flags
number-lt [] = omega arith
number-lt (flag ∷ flags) = go flag (number-lt flags)
  where
    go : (b : Bool) → number_of_flags flags < 2 ^ length flags
        → cond b (2 ^ length flags) 0 + number_of_flags flags < 2 ^ suc (length flags)
    go true h = omega arith
    go false h = omega arith

-- n % 2^(f+1) by its highest bit
pub mod_step : (n f : ℕ) → n % 2 ^ suc f ≡ bit_of (has_tier n f) * 2 ^ f + n % 2 ^ f
mod_step n f = ap (λ k. n % 2 ^ k) (omega arith) ∙ mod-pow-add n 1 f
    ∙ ap (λ b. b * 2 ^ f + n % 2 ^ f) (sym (bit_of_has n f))

pub number-flags_of : (f n : ℕ) → number_of_flags (flags_of f n) ≡ n % 2 ^ f
number-flags_of zero n = omega arith
number-flags_of (suc f) n =
    ap (λ k. cond (has_tier n f) (2 ^ k) 0 + number_of_flags (flags_of f n)) (length-flags_of f n)
    ∙ ap (λ x. cond (has_tier n f) (2 ^ f) 0 + x) (number-flags_of f n)
    ∙ ap (λ x. x + n % 2 ^ f) (flag_value (has_tier n f) (2 ^ f))
    ∙ sym (mod_step n f)

-- the lowest bits do not depend on what is above them
pub flags_of-low : (k f a b : ℕ) → f ≤ k → flags_of f (a * 2 ^ k + b) ≡ flags_of f b
flags_of-low k zero a b l = refl
flags_of-low k (suc f) a b l = cc (
  ap (λ x. x == 1) (bit_at_cat_low a k b f (omega arith)),
  flags_of-low k f a b (omega arith),
)

has_bit_above : (flag : Bool) (k b : ℕ) → b < 2 ^ k → has_tier (bit_of flag * 2 ^ k + b) k ≡ flag
has_bit_above flag k b l = let none : k - k
    ≡ 0 = omega arith in ap (λ x. x == 1)
    (bit_at_cat_high (bit_of flag) k b k l (omega arith) ∙ ap (bit_at (bit_of flag)) none) ∙ low flag
  where
    low : (b : Bool) → (bit_at (bit_of b) 0 == 1) ≡ b
    low true = refl
    low false = refl

-- the flags of a number of flags, with anything above them
pub flags_of-number : (flags : List Bool) (a : ℕ)
    → flags_of (length flags) (a * 2 ^ length flags + number_of_flags flags) ≡ flags
flags_of-number flags a = flags_of-low (length flags) (length flags) a (number_of_flags flags) (omega arith)
    ∙ same flags
  where
    same : (flags : List Bool) → flags_of (length flags) (number_of_flags flags) ≡ flags
    same [] = refl
    same (flag ∷ flags) =
        let value : number_of_flags (flag ∷ flags)
        ≡ bit_of flag * 2 ^ length flags + number_of_flags flags = ap (λ x. x + number_of_flags flags)
        (flag_value flag (2 ^ length flags)) in
        let head : has_tier (number_of_flags (flag ∷ flags)) (length flags)
        ≡ flag = ap (λ n. has_tier n (length flags)) value
        ∙ has_bit_above flag (length flags) (number_of_flags flags) (number-lt flags) in
        let tail : flags_of (length flags) (number_of_flags (flag ∷ flags))
        ≡ flags = ap (flags_of (length flags)) value
        ∙ flags_of-low (length flags) (length flags) (bit_of flag) (number_of_flags flags) (omega arith)
        ∙ same flags in
        cc (head, tail)

abbrev pub kind_from : ℕ → List Bool → List Phase → PrefixKind
kind_from place opened phases = record { place = place; opened = opened; phases = phases }

pub same_kind : {p q : ℕ} {a b : List Bool} {x y : List Phase} → p ≡ q → a ≡ b → x ≡ y
    → kind_from p a x ≡ kind_from q b y
same_kind {p} {q} {a} {b} {x} {y} e f g = ap (λ n. kind_from n a x) e ∙ ap (λ l. kind_from q l x) f
    ∙ ap (kind_from q b) g

-- the number of a kind tells the kind
pub kind_of_number-number : (f : ℕ) (k : PrefixKind) → length k.opened ≡ f → k.phases ≡ []
    → kind_of_number f (number_of_kind f k) ≡ k
kind_of_number-number f k e none =
    let flags : flags_of f (k.place * 2 ^ f + number_of_flags k.opened)
    ≡ k.opened = ap (λ m. flags_of m (k.place * 2 ^ m + number_of_flags k.opened)) (sym e)
    ∙ flags_of-number k.opened k.place in
    let below : number_of_flags k.opened < 2 ^ f = omega (arith, number-lt k.opened, ap (λ m. 2 ^ m) e) in
    let place : (k.place * 2 ^ f + number_of_flags k.opened) / 2 ^ f
    ≡ k.place = div-mul-add k.place (2 ^ f) (number_of_flags k.opened) below in
    same_kind place flags (sym none)

-- flags are ordered as their numbers
pub flags_less : (f m n : ℕ) → m % 2 ^ f < n % 2 ^ f
    → slice_cmp nat_cmp (map open_rank (flags_of f m)) (map open_rank (flags_of f n)) ≡ Less
flags_less zero m n l = absurd (omega arith)
flags_less (suc f) m n l = go (has_tier m f) (has_tier n f) (mod_step m f) (mod_step n f) (flags_less f m n)
  where
    go : (a b : Bool) → m % 2 ^ suc f ≡ bit_of a * 2 ^ f + m % 2 ^ f → n % 2 ^ suc f ≡ bit_of b * 2 ^ f + n % 2 ^ f
        → (m % 2 ^ f < n % 2 ^ f → slice_cmp nat_cmp (map open_rank (flags_of f m)) (map open_rank (flags_of f n))
        ≡ Less)
        → ordering_then (nat_cmp (open_rank a) (open_rank b))
        (slice_cmp nat_cmp (map open_rank (flags_of f m)) (map open_rank (flags_of f n))) ≡ Less
    go false true em en more = refl
    go false false em en more = more (omega (arith, l))
    go true true em en more = more (omega (arith, l))
    go true false em en more = let small : n % 2 ^ f < 2 ^ f = omega (arith, pow_pos f) in absurd (omega (arith, l))

-- kinds are ordered as their numbers
pub kinds_less : (f i j : ℕ) → i < j → kind_order (kind_of_number f i) (kind_of_number f j) ≡ Less
kinds_less f i j l = let rest : Ordering = ordering_then
    (slice_cmp nat_cmp (map open_rank (flags_of f i)) (map open_rank (flags_of f j))) Equal in ⊎_elim
    (λ before. ap (λ o. ordering_then o rest) (sym (nat_cmp_is (i / 2 ^ f) (j / 2 ^ f) Less before)))
    (λ not_before.
    let same : i / 2 ^ f ≡ j / 2 ^ f = omega
    (arith, le-div (i / 2 ^ f) j (2 ^ f) (pow_pos f) (omega (arith, div-add-mod' i (2 ^ f)))) in
    let parts : i / 2 ^ f * 2 ^ f ≡ j / 2 ^ f * 2 ^ f = ap (λ q. q * 2 ^ f) same in
    let flags : i % 2 ^ f < j % 2 ^ f = omega (arith, div-add-mod' i (2 ^ f), div-add-mod' j (2 ^ f)) in
    ap (λ o. ordering_then o rest) (sym (nat_cmp_is (i / 2 ^ f) (j / 2 ^ f) Equal same))
    ∙ ap (λ o. ordering_then o Equal) (flags_less f i j flags))
    (cases_lt (i / 2 ^ f) (j / 2 ^ f))
