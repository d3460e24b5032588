-- The words of classes are ordered as the lists of their sets.
use Rattle.std.proofs.Common.{◌≡◌, ℕ, zero, suc, ◌+◌, ◌-◌, ◌*◌, ◌/◌, ◌%◌, ◌^◌, ◌<◌, ◌≤◌, false, List, [], ◌∷◌, ◌++◌}
use Rattle.std.proofs.Common.{length, get_or, refl, ap, ap₂, sym, ◌∙◌, arith, ⊎_elim, length-append}
use Rattle.std.proofs.{lemmas.Bool.{cases_lt, false≢true}, lemmas.Cmp.ranked, Math.Nat.{div-eq_of_lt, mod-eq_of_lt}}
use Rattle.std.proofs.Math.Pow.{pow_mono, mod-mod-pow}
use Rattle.std.proofs.lemmas.List.{get_or_append_left, get_or-append_right, get_or_past}
use Rattle.std.proofs.{lemmas.List.FromFn.map-range_with_len_more, lemmas.Nat.{shr-shr, field_of}}
use Rattle.std.specs.{Cmp.nat_cmp_is, Cmp.Lexicographic.slice_cmp}
use Rattle.std.specs.{Ordering.{nat_cmp, ordering_then, is_lt, is_gt, MatchOrdering}, declared.cmp.Ordering.Ordering}
use Rattle.std.specs.declared.cmp.Ordering.TheVariants.{Less, Equal, Greater}
use Rattle.tier_core.specs.ClassWords.{width_in, set_in, sets_in, below_in}
use Rattle.tier_core.proofs.{ClassWordLemmas.{length_in, get_in, sets_from}, KindTies.then_equal}

-- ---- numbers by their parts

then_then : (o p r : Ordering) → ordering_then (ordering_then o p) r ≡ ordering_then o (ordering_then p r)
then_then Less p r = refl
then_then Equal p r = refl
then_then Greater p r = refl

by_parts : (a b s t x y : ℕ) → (s < t → a < b) → (t < s → b < a) → (s ≡ t → x < y → a < b) → (s ≡ t → y < x → b < a)
    → (s ≡ t → x ≡ y → a ≡ b) → nat_cmp a b ≡ ordering_then (nat_cmp s t) (nat_cmp x y)
by_parts a b s t x y below above less more same =
    sym (nat_cmp_is a b (ordering_then (nat_cmp s t) (nat_cmp x y))
    (go (nat_cmp s t) (nat_cmp x y) (ranked s t (nat_cmp s t) refl) (ranked x y (nat_cmp x y) refl)))
  where
    go : (o r : Ordering) → MatchOrdering o (s < t) (s ≡ t) (t < s) → MatchOrdering r (x < y) (x ≡ y) (y < x)
        → MatchOrdering (ordering_then o r) (a < b) (a ≡ b) (b < a)
    go Less r h k = below h
    go Greater r h k = above h
    go Equal Less h k = less h k
    go Equal Equal h k = same h k
    go Equal Greater h k = more h k

cmp_32 : (a b : ℕ) → nat_cmp a b ≡ ordering_then (nat_cmp (a / 32) (b / 32)) (nat_cmp (a % 32) (b % 32))
cmp_32 a b = by_parts a b (a / 32) (b / 32) (a % 32) (b % 32) (λ h. omega arith) (λ h. omega arith)
    (λ h k. omega arith) (λ h k. omega arith) (λ h k. omega arith)

cmp_16 : (a b : ℕ) → nat_cmp a b ≡ ordering_then (nat_cmp (a / 16) (b / 16)) (nat_cmp (a % 16) (b % 16))
cmp_16 a b = by_parts a b (a / 16) (b / 16) (a % 16) (b % 16) (λ h. omega arith) (λ h. omega arith)
    (λ h k. omega arith) (λ h k. omega arith) (λ h k. omega arith)

cmp_suc : (m n : ℕ) → nat_cmp (suc m) (suc n) ≡ nat_cmp m n
cmp_suc m n = by_parts (suc m) (suc n) m n 0 0 (λ h. omega arith) (λ h. omega arith) (λ h k. omega arith)
    (λ h k. omega arith) (λ h k. omega arith) ∙ then_equal (nat_cmp m n)

-- ---- lists of numbers

cmp_push : (xs ys : List ℕ) (x y : ℕ) → length xs ≡ length ys
    → slice_cmp nat_cmp (xs ++ x ∷ []) (ys ++ y ∷ []) ≡ ordering_then (slice_cmp nat_cmp xs ys) (nat_cmp x y)
cmp_push [] [] x y e = then_equal (nat_cmp x y)
cmp_push [] (w ∷ ys) x y e = absurd (omega arith)
cmp_push (v ∷ xs) [] x y e = absurd (omega arith)
cmp_push (v ∷ xs) (w ∷ ys) x y e =
    ap (ordering_then (nat_cmp v w)) (cmp_push xs ys x y (omega arith))
    ∙ sym (then_then (nat_cmp v w) (slice_cmp nat_cmp xs ys) (nat_cmp x y))

zeros : ℕ → List ℕ
zeros zero = []
zeros (suc n) = 0 ∷ zeros n

length-zeros : (n : ℕ) → length (zeros n) ≡ n
unfolding zeros
length-zeros zero = refl
length-zeros (suc n) = ap suc (length-zeros n)

get_or-zeros : (n t : ℕ) → get_or (zeros n) t 0 ≡ 0
unfolding zeros
get_or-zeros zero t = get_or_past [] t 0 (omega arith)
get_or-zeros (suc n) zero = refl
get_or-zeros (suc n) (suc t) = get_or-zeros n t

zeros_tie : (n : ℕ) → slice_cmp nat_cmp (zeros n) (zeros n) ≡ Equal
unfolding zeros
zeros_tie zero = refl
zeros_tie (suc n) = zeros_tie n

zeros_first : (n : ℕ) (xs : List ℕ) → length xs ≡ n → is_gt (slice_cmp nat_cmp (zeros n) xs) ≡ false
unfolding zeros
zeros_first zero [] e = refl
zeros_first zero (x ∷ xs) e = absurd (omega arith)
zeros_first (suc n) [] e = absurd (omega arith)
zeros_first (suc n) (x ∷ xs) e = go (nat_cmp 0 x) (ranked 0 x (nat_cmp 0 x) refl) (zeros_first n xs (omega arith))
  where
    go : (o : Ordering) → MatchOrdering o (0 < x) (0 ≡ x) (x < 0) → is_gt (slice_cmp nat_cmp (zeros n) xs) ≡ false
        → is_gt (ordering_then o (slice_cmp nat_cmp (zeros n) xs)) ≡ false
    go Less h rest = refl
    go Equal h rest = rest
    go Greater h rest = absurd (omega arith)

zeros_last : (n : ℕ) (xs : List ℕ) → length xs ≡ n → is_lt (slice_cmp nat_cmp xs (zeros n)) ≡ false
unfolding zeros
zeros_last zero [] e = refl
zeros_last zero (x ∷ xs) e = absurd (omega arith)
zeros_last (suc n) [] e = absurd (omega arith)
zeros_last (suc n) (x ∷ xs) e = go (nat_cmp x 0) (ranked x 0 (nat_cmp x 0) refl) (zeros_last n xs (omega arith))
  where
    go : (o : Ordering) → MatchOrdering o (x < 0) (x ≡ 0) (0 < x) → is_lt (slice_cmp nat_cmp xs (zeros n)) ≡ false
        → is_lt (ordering_then o (slice_cmp nat_cmp xs (zeros n))) ≡ false
    go Less h rest = absurd (omega arith)
    go Equal h rest = rest
    go Greater h rest = refl

-- shorter lists come first, also where both are filled up by zeros
first_empty : (ys : List ℕ) (m n : ℕ) → m ≡ length ys + n
    → ordering_then (slice_cmp nat_cmp (zeros m) (ys ++ zeros n)) (nat_cmp 0 (length ys)) ≡ slice_cmp nat_cmp [] ys
first_empty [] m n e = then_equal (slice_cmp nat_cmp (zeros m) (zeros n))
    ∙ ap (λ k. slice_cmp nat_cmp (zeros m) (zeros k)) (omega arith) ∙ zeros_tie m
first_empty (y ∷ ys) m n e = below (slice_cmp nat_cmp (zeros m) ((y ∷ ys) ++ zeros n)) (nat_cmp 0 (suc (length ys)))
    (zeros_first m ((y ∷ ys) ++ zeros n) (length-append (y ∷ ys) (zeros n) ∙ omega (arith, length-zeros n)))
    (sym (nat_cmp_is 0 (suc (length ys)) Less (omega arith)))
  where
    below : (o r : Ordering) → is_gt o ≡ false → r ≡ Less → ordering_then o r ≡ Less
    below Less r h e = refl
    below Equal r h e = e
    below Greater r h e = absurd (false≢true (sym h))

second_empty : (xs : List ℕ) (m n : ℕ) → length xs + m ≡ n
    → ordering_then (slice_cmp nat_cmp (xs ++ zeros m) (zeros n)) (nat_cmp (length xs) 0) ≡ slice_cmp nat_cmp xs []
second_empty [] m n e = then_equal (slice_cmp nat_cmp (zeros m) (zeros n))
    ∙ ap (λ k. slice_cmp nat_cmp (zeros m) (zeros k)) (omega arith) ∙ zeros_tie m
second_empty (x ∷ xs) m n e = above (slice_cmp nat_cmp ((x ∷ xs) ++ zeros m) (zeros n)) (nat_cmp (suc (length xs)) 0)
    (zeros_last n ((x ∷ xs) ++ zeros m) (length-append (x ∷ xs) (zeros m) ∙ omega (arith, length-zeros m)))
    (sym (nat_cmp_is (suc (length xs)) 0 Greater (omega arith)))
  where
    above : (o r : Ordering) → is_lt o ≡ false → r ≡ Greater → ordering_then o r ≡ Greater
    above Less r h e = absurd (false≢true (sym h))
    above Equal r h e = e
    above Greater r h e = refl

filled_cmp : (xs ys : List ℕ) (m n : ℕ) → length xs + m ≡ length ys + n
    → ordering_then (slice_cmp nat_cmp (xs ++ zeros m) (ys ++ zeros n)) (nat_cmp (length xs) (length ys))
    ≡ slice_cmp nat_cmp xs ys
filled_cmp [] ys m n e = first_empty ys m n (omega arith)
filled_cmp (x ∷ xs) [] m n e = second_empty (x ∷ xs) m n (omega arith)
filled_cmp (x ∷ xs) (y ∷ ys) m n e =
    then_then (nat_cmp x y) (slice_cmp nat_cmp (xs ++ zeros m) (ys ++ zeros n))
    (nat_cmp (suc (length xs)) (suc (length ys)))
    ∙ ap (λ o. ordering_then (nat_cmp x y) (ordering_then (slice_cmp nat_cmp (xs ++ zeros m) (ys ++ zeros n)) o))
    (cmp_suc (length xs) (length ys))
    ∙ ap (ordering_then (nat_cmp x y)) (filled_cmp xs ys m n (omega arith))

-- ---- words

cmp_fields : (a b n : ℕ) → n ≤ 12 → a < 2 ^ 64 → b < 2 ^ 64
    → nat_cmp (a / 2 ^ (64 - 5 * n)) (b / 2 ^ (64 - 5 * n)) ≡ slice_cmp nat_cmp (sets_in a n) (sets_in b n)
cmp_fields a b zero few la lb = ap₂ nat_cmp (div-eq_of_lt la) (div-eq_of_lt lb)
cmp_fields a b (suc n) few la lb =
    cmp_32 (a / 2 ^ (64 - 5 * suc n)) (b / 2 ^ (64 - 5 * suc n))
    ∙ ap₂ (λ s x. ordering_then s x) (ap₂ nat_cmp (front a) (front b) ∙ cmp_fields a b n (omega arith) la lb)
    (ap₂ nat_cmp (last a) (last b))
    ∙ sym (cmp_push (sets_in a n) (sets_in b n) (set_in a n) (set_in b n) (length_in a n ∙ sym (length_in b n)))
    ∙ ap₂ (slice_cmp nat_cmp) (more a) (more b)
  where
    front : (w : ℕ) → w / 2 ^ (64 - 5 * suc n) / 32 ≡ w / 2 ^ (64 - 5 * n)
    front w = shr-shr w (64 - 5 * suc n) 5 ∙ ap (λ j. w / 2 ^ j) (omega arith)

    last : (w : ℕ) → w / 2 ^ (64 - 5 * suc n) % 32 ≡ set_in w n
    last w = ap (λ j. w / 2 ^ j % 32) (omega arith)

    more : (w : ℕ) → sets_in w n ++ set_in w n ∷ [] ≡ sets_in w (suc n)
    more w = let one : n + 1 ≡ suc n = omega arith in sym
        (ap (sets_in w) (sym one) ∙ map-range_with_len_more (set_in w) 0 n n (omega arith))

-- where nothing stands between the sets and their number, the other sets are empty
set_behind : (w n t : ℕ) → n ≤ t → t < 12 → below_in w n ≡ n → set_in w t ≡ 0
set_behind w n t behind inside e =
    let parts : (64 - 5 * n) ≡ (5 * t - 5 * n) + (5 + (59 - 5 * t)) = omega arith in
    let small : 2 ^ 4 ≤ 2 ^ (59 - 5 * t) = pow_mono {i = 4} {j = 59 - 5 * t} (omega arith) in
    let whole : 2 ^ 4 ≤ 2 ^ (5 + (59 - 5 * t)) = pow_mono {i = 4} {j = 5 + (59 - 5 * t)} (omega arith) in
    sym (field_of w 5 (59 - 5 * t))
    ∙ ap (λ x. x / 2 ^ (59 - 5 * t)) (sym (mod-mod-pow w (5 * t - 5 * n) (5 + (59 - 5 * t)))
    ∙ ap (λ j. w % 2 ^ j % 2 ^ (5 + (59 - 5 * t))) (sym parts) ∙ ap (λ x. x % 2 ^ (5 + (59 - 5 * t))) e
    ∙ mod-eq_of_lt (omega arith))
    ∙ div-eq_of_lt (omega arith)

all_sets : (w n : ℕ) → n ≤ 12 → below_in w n ≡ n → sets_in w 12 ≡ sets_in w n ++ zeros (12 - n)
all_sets w n few e =
    sets_from w 12 (sets_in w n ++ zeros (12 - n))
    (length-append (sets_in w n) (zeros (12 - n)) ∙ omega (arith, length_in w n, length-zeros (12 - n)))
    (λ t inside. ⊎_elim (λ l. sym (get_in w n t l)
    ∙ sym (get_or_append_left (sets_in w n) (zeros (12 - n)) 0 t (omega (arith, length_in w n))))
    (λ l. set_behind w n t l inside e ∙ sym
    (get_or-append_right (sets_in w n) (zeros (12 - n)) n t 0 (length_in w n) l ∙ get_or-zeros (12 - n) (t - n)))
    (cases_lt t n))

pub words_cmp : (a b m n : ℕ) → m ≤ 12 → n ≤ 12 → a < 2 ^ 64 → b < 2 ^ 64 → below_in a m ≡ m → below_in b n ≡ n
    → width_in a ≡ m → width_in b ≡ n → nat_cmp a b ≡ slice_cmp nat_cmp (sets_in a m) (sets_in b n)
words_cmp a b m n fm fn la lb ea eb wa wb =
    cmp_16 a b
    ∙ ap₂ (λ s x. ordering_then s x) (cmp_fields a b 12 (omega arith) la lb
    ∙ ap₂ (slice_cmp nat_cmp) (all_sets a m fm ea) (all_sets b n fn eb))
    (ap₂ nat_cmp (wa ∙ sym (length_in a m)) (wb ∙ sym (length_in b n)))
    ∙ filled_cmp (sets_in a m) (sets_in b n) (12 - m) (12 - n) (omega (arith, length_in a m, length_in b n))
