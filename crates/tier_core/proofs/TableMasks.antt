-- The tiers of a mask are those of a table that pass a test, where the bits say so.
use Rattle.std.proofs.Common.{◌≡◌, ◌↔◌, IsTrue, ℕ, zero, suc, ◌+◌, ◌-◌, ◌≤◌, ◌<◌, ◌^◌, ◌==◌, ◌||◌, Bool, true}
use Rattle.std.proofs.Common.{false, not, cond, List, [], ◌∷◌, ◌++◌, length, count_by, filter, take, refl, ap, sym}
use Rattle.std.proofs.{Common.{◌∙◌, arith, add-one, ◌&&◌}, lemmas.Bool.{false≢true, eqb-true, eqb-false}}
use Rattle.std.proofs.lemmas.List.{take_more, take_all, append-nil, append_assoc, length-take, length-append}
use Rattle.std.proofs.{lemmas.List.Sums.length-filter, lemmas.Nat.Bits.bit_at_above}
use Rattle.std.specs.List.{list_any}
use Rattle.tier_core.specs.declared.tier.TierKind.{TierKind}
use Rattle.tier_core.specs.{declared.tier.TierKind.TheVariants.{Input, Overt, Hidden}, Tiers.{is_input, is_overt}}
use Rattle.tier_core.specs.Tiers.{is_free, numbers_from, tiers_by_kinds, kind_at, has_tier, tiers_below, tiers_of}
use Rattle.tier_core.specs.Shapes.{masked_count}
use Rattle.tier_core.proofs.CountLemmas.{count_cons}

-- the bits of a mask are those of the tiers that pass
pub record IsMaskOf (test : TierKind → Bool) (kinds : List TierKind) (mask : ℕ) : Type 0 where
  pub few : length kinds ≤ 12
  pub within : mask < 2 ^ length kinds
  pub bits : (t : ℕ) → t < length kinds → has_tier mask t ≡ test (kind_at kinds t)

-- the numbers of a longer list
numbers_append : (test : TierKind → Bool) (n : ℕ) (xs ys : List TierKind)
    → numbers_from test n (xs ++ ys) ≡ numbers_from test n xs ++ numbers_from test (n + length xs) ys
numbers_append test n [] ys = ap (λ m. numbers_from test m ys) (omega arith)
numbers_append test n (x ∷ xs) ys =
    let first = cond (test x) (n ∷ []) [] in
    ap (λ zs. first ++ zs) (numbers_append test (suc n) xs ys
    ∙ ap (λ m. numbers_from test (suc n) xs ++ numbers_from test m ys) (omega arith))
    ∙ sym (append_assoc first (numbers_from test (suc n) xs) (numbers_from test (n + length (x ∷ xs)) ys))

-- the tiers below n are the numbers of the first n kinds
tiers_so_far : (test : TierKind → Bool) (kinds : List TierKind) (mask n : ℕ) → n ≤ length kinds
    → ((t : ℕ) → t < length kinds → has_tier mask t ≡ test (kind_at kinds t))
    → tiers_below mask n ≡ numbers_from test 0 (take n kinds)
tiers_so_far test kinds mask zero l bits = refl
tiers_so_far test kinds mask (suc n) l bits =
    let long : length (take n kinds) ≡ n = omega (arith, length-take n kinds) in
    let last : List ℕ → List ℕ = λ xs. tiers_below mask n ++ xs in
    ap (λ b. last (cond b (n ∷ []) [])) (bits n (omega arith))
    ∙ ap (λ xs. xs ++ cond (test (kind_at kinds n)) (n ∷ []) []) (tiers_so_far test kinds mask n (omega arith) bits)
    ∙ sym (ap (λ m. numbers_from test 0 (take m kinds)) (sym (add-one n))
    ∙ ap (numbers_from test 0) (take_more kinds n Input (omega arith))
    ∙ numbers_append test 0 (take n kinds) (kind_at kinds n ∷ [])
    ∙ ap (λ m. numbers_from test 0 (take n kinds) ++ numbers_from test m (kind_at kinds n ∷ [])) (omega (arith, long))
    ∙ ap (λ xs. numbers_from test 0 (take n kinds) ++ xs) (append-nil (cond (test (kind_at kinds n)) (n ∷ []) [])))

-- no tier comes from the bound of a mask on
tiers_above : (mask width j : ℕ) → mask < 2 ^ width → tiers_below mask (width + j) ≡ tiers_below mask width
tiers_above mask width zero l = let same : width + zero ≡ width = omega arith in ap (tiers_below mask) same
tiers_above mask width (suc j) l =
    let none : has_tier mask (width + j)
    ≡ false = ap (λ b. b == 1) (bit_at_above mask width (width + j) l (omega arith)) in
    let next : width + suc j ≡ suc (width + j) = omega arith in
    ap (tiers_below mask) next ∙ ap (λ b. tiers_below mask (width + j) ++ cond b ((width + j) ∷ []) []) none
    ∙ append-nil (tiers_below mask (width + j)) ∙ tiers_above mask width j l

-- the tiers of a mask are the numbers of the kinds that pass
pub tiers_of_mask : (test : TierKind → Bool) (kinds : List TierKind) (mask : ℕ) → IsMaskOf test kinds mask
    → tiers_of mask ≡ numbers_from test 0 kinds
unfolding tiers_of
tiers_of_mask test kinds mask m =
    let few : length kinds ≤ 12 = m.few in
    let twelve : 12 ≡ length kinds + (12 - length kinds) = omega arith in
    ap (tiers_below mask) twelve ∙ tiers_above mask (length kinds) (12 - length kinds) m.within
    ∙ tiers_so_far test kinds mask (length kinds) (omega arith) m.bits
    ∙ ap (numbers_from test 0) (take_all (length kinds) kinds (omega arith))

-- a test that one kind alone passes is told by the bits of that kind
same_answer : (b c : Bool) → IsTrue b ↔ IsTrue c → b ≡ c
same_answer true true h = refl
same_answer true false h = absurd (false≢true (h.0 refl))
same_answer false true h = absurd (false≢true (h.1 refl))
same_answer false false h = refl

-- what `TierTable::mask` promises of a kind makes a mask of the test that this kind alone passes
pub mask_of_kind : (test : TierKind → Bool) (kinds : List TierKind) (kind : TierKind) (mask : ℕ)
    → ((k : TierKind) → IsTrue (test k) ↔ (k ≡ kind)) → length kinds ≤ 12 → mask < 2 ^ length kinds
    → ((t : ℕ) → t < length kinds → IsTrue (has_tier mask t) ↔ (kind_at kinds t ≡ kind)) → IsMaskOf test kinds mask
mask_of_kind test kinds kind mask alone few within bits = record {
  few = few;
  within = within;
  bits = λ t l. same_answer (has_tier mask t) (test (kind_at kinds t))
      (λ h. (alone (kind_at kinds t)).1 ((bits t l).0 h), λ h. (bits t l).1 ((alone (kind_at kinds t)).0 h));
}

pub input_alone : (k : TierKind) → IsTrue (is_input k) ↔ (k ≡ Input)
input_alone Input = (λ h. refl, λ h. refl)
input_alone Overt = (λ h. absurd (false≢true h), λ h. cc)
input_alone Hidden = (λ h. absurd (false≢true h), λ h. cc)

pub overt_alone : (k : TierKind) → IsTrue (is_overt k) ↔ (k ≡ Overt)
overt_alone Input = (λ h. absurd (false≢true h), λ h. cc)
overt_alone Overt = (λ h. refl, λ h. refl)
overt_alone Hidden = (λ h. absurd (false≢true h), λ h. cc)

-- the mask of the input tiers
pub input_tiers : (kinds : List TierKind) (mask : ℕ) → length kinds ≤ 12 → mask < 2 ^ length kinds
    → ((t : ℕ) → t < length kinds → IsTrue (has_tier mask t) ↔ (kind_at kinds t ≡ Input))
    → tiers_of mask ≡ (tiers_by_kinds kinds).input
input_tiers kinds mask few within bits = tiers_of_mask is_input kinds mask
    (mask_of_kind is_input kinds Input mask input_alone few within bits)

-- ---- which tiers are listed

same_number : (a b : ℕ) → a ≡ b → (a == b) ≡ true
same_number a b h = by (a == b) refl
  where
    by : (c : Bool) → (a == b) ≡ c → (a == b) ≡ true
    by true e = e
    by false e = absurd (eqb-false a b e h)

other_number : (a b : ℕ) → (a ≡ b → ⊥) → (a == b) ≡ false
other_number a b h = by (a == b) refl
  where
    by : (c : Bool) → (a == b) ≡ c → (a == b) ≡ false
    by true e = absurd (h (eqb-true a b e))
    by false e = e

any_first : (p : ℕ → Bool) (b : Bool) (n : ℕ) (ns : List ℕ)
    → list_any p (cond b (n ∷ []) [] ++ ns) ≡ ((b && p n) || list_any p ns)
any_first p true n ns = refl
any_first p false n ns = refl

-- no number below the first is listed
none_before : (test : TierKind → Bool) (n m : ℕ) (kinds : List TierKind) → m < n
    → list_any (λ u. u == m) (numbers_from test n kinds) ≡ false
none_before test n m [] l = refl
none_before test n m (k ∷ kinds) l =
    any_first (λ u. u == m) (test k) n (numbers_from test (suc n) kinds)
    ∙ ap (λ b. (test k && b) || list_any (λ u. u == m) (numbers_from test (suc n) kinds))
    (other_number n m (λ e. absurd (omega arith)))
    ∙ ap (λ b. (test k && false) || b) (none_before test (suc n) m kinds (omega arith)) ∙ neither (test k)
  where
    neither : (b : Bool) → ((b && false) || false) ≡ false
    neither true = refl
    neither false = refl

-- a number is listed exactly where its kind passes
pub listed : (test : TierKind → Bool) (n t : ℕ) (kinds : List TierKind) → t < length kinds
    → list_any (λ u. u == n + t) (numbers_from test n kinds) ≡ test (kind_at kinds t)
listed test n t [] l = absurd (omega arith)
listed test n zero (k ∷ kinds) l =
    any_first (λ u. u == n + zero) (test k) n (numbers_from test (suc n) kinds)
    ∙ ap (λ b. (test k && b) || list_any (λ u. u == n + zero) (numbers_from test (suc n) kinds))
    (same_number n (n + zero) (omega arith))
    ∙ ap (λ b. (test k && true) || b) (none_before test (suc n) (n + zero) kinds (omega arith)) ∙ itself (test k)
  where
    itself : (b : Bool) → ((b && true) || false) ≡ b
    itself true = refl
    itself false = refl
listed test n (suc t) (k ∷ kinds) l =
    let there : n + suc t ≡ suc n + t = omega arith in
    any_first (λ u. u == n + suc t) (test k) n (numbers_from test (suc n) kinds)
    ∙ ap (λ b. (test k && b) || list_any (λ u. u == n + suc t) (numbers_from test (suc n) kinds))
    (other_number n (n + suc t) (λ e. absurd (omega arith)))
    ∙ none_first (test k) (list_any (λ u. u == n + suc t) (numbers_from test (suc n) kinds))
    ∙ ap (λ m. list_any (λ u. u == m) (numbers_from test (suc n) kinds)) there
    ∙ listed test (suc n) t kinds (omega arith)
  where
    none_first : (b c : Bool) → ((b && false) || c) ≡ c
    none_first true c = refl
    none_first false c = refl

-- as many tiers are numbered as pass
pub numbers_count : {X : Type 0} (test : X → Bool) (n : ℕ) (xs : List X)
    → length (numbers_from test n xs) ≡ count_by test xs
numbers_count test n [] = refl
numbers_count test n (x ∷ xs) = go (test x) (numbers_count test (suc n) xs) ∙ sym (count_cons test x xs)
  where
    go : (b : Bool) → length (numbers_from test (suc n) xs) ≡ count_by test xs
        → length (cond b (n ∷ []) [] ++ numbers_from test (suc n) xs) ≡ cond b 1 0 + count_by test xs
    go true e = omega arith
    go false e = omega arith

pub length-numbers_from : {X : Type 0} (test : X → Bool) (n : ℕ) (xs : List X)
    → length (numbers_from test n xs) ≡ length (filter test xs)
length-numbers_from test n xs = numbers_count test n xs ∙ sym (length-filter test xs)

-- the input tiers and the free ones are as many as the tiers
pub input_and_free : (n : ℕ) (kinds : List TierKind)
    → length (numbers_from is_input n kinds) + length (numbers_from is_free n kinds) ≡ length kinds
input_and_free n [] = refl
input_and_free n (k ∷ kinds) =
    omega (
      arith,
      length-append (cond (is_input k) (n ∷ []) []) (numbers_from is_input (suc n) kinds),
      length-append (cond (is_free k) (n ∷ []) []) (numbers_from is_free (suc n) kinds),
      one (is_input k),
      input_and_free (suc n) kinds,
    )
  where
    one : (b : Bool) → length (cond b (n ∷ []) []) + length (cond (not b) (n ∷ []) []) ≡ 1
    one true = refl
    one false = refl

-- the tiers that are no input tiers are as many as the free ones
pub free_tiers : (kinds : List TierKind) (inputs : ℕ) → tiers_of inputs ≡ (tiers_by_kinds kinds).input
    → length kinds - masked_count inputs ≡ length (tiers_by_kinds kinds).free
free_tiers kinds inputs e =
    let all : length (numbers_from is_input 0 kinds) + length (numbers_from is_free 0 kinds)
    ≡ length kinds = input_and_free 0 kinds in
    let some : masked_count inputs ≡ length (numbers_from is_input 0 kinds) = ap length e in
    omega arith
