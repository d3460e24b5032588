-- The tiers of a table are split into input tiers and free ones.
use Rattle.std.proofs.Common.{◌≡◌, ◌≢◌, ℕ, suc, ◌+◌, ◌<◌, ◌≤◌, Bool, true, false, not, cond, ◌⊎◌, inl, inr, List}
use Rattle.std.proofs.{Common.{[], ◌∷◌, ◌++◌, length, Contains, ⊎_elim, arith}, lemmas.Bool.cases_eq}
use Rattle.std.proofs.lemmas.List.Elements.{All-contains, All-from_recursion}
use Rattle.std.specs.List.{AllByRecursion}
use Rattle.tier_core.specs.{declared.tier.TierKind.TierKind, Tiers.{is_input, is_free, numbers_from, tiers_by_kinds}}
use Rattle.tier_core.proofs.CountLemmas.{all_weaker}
use Rattle.violation.specs.Conditions.{AreSplit, AreDistinct}
use Rattle.violation.proofs.TierLemmas.{contains_cases, contains_later}

-- the numbers stand where the elements do
numbers_within : {X : Type 0} (test : X → Bool) (n : ℕ) (xs : List X)
    → AllByRecursion (λ t. (n ≤ t) × (t < n + length xs)) (numbers_from test n xs)
numbers_within test n [] = tt
numbers_within test n (x ∷ xs) = step (test x)
    (all_weaker _ _ _ (λ t h. (omega (arith, h.0), omega (arith, h.1))) (numbers_within test (suc n) xs))
  where
    step : (b : Bool) → AllByRecursion (λ t. (n ≤ t) × (t < n + length (x ∷ xs))) (numbers_from test (suc n) xs)
        → AllByRecursion (λ t. (n ≤ t) × (t < n + length (x ∷ xs))) (cond b (n ∷ []) [] ++ numbers_from test (suc n) xs)
    step true h = ((omega arith, omega arith), h)
    step false h = h

pub numbers_distinct : {X : Type 0} (test : X → Bool) (n : ℕ) (xs : List X) → AreDistinct (numbers_from test n xs)
numbers_distinct test n [] = tt
numbers_distinct test n (x ∷ xs) =
    step (test x) (all_weaker _ _ _ (λ t h. λ e. let l : suc n ≤ t = h.0 in omega arith)
    (numbers_within test (suc n) xs)) (numbers_distinct test (suc n) xs)
  where
    step : (b : Bool) → AllByRecursion (λ t. n ≢ t) (numbers_from test (suc n) xs)
        → AreDistinct (numbers_from test (suc n) xs)
        → AreDistinct (cond b (n ∷ []) [] ++ numbers_from test (suc n) xs)
    step true later h = (later, h)
    step false later h = h

late : {X : Type 0} (test : X → Bool) (n : ℕ) (xs : List X) (t : ℕ) → Contains (numbers_from test n xs) t → n ≤ t
late test n xs t c = (All-contains (λ t. (n ≤ t) × (t < n + length xs)) (numbers_from test n xs) t
    (All-from_recursion _ (numbers_from test n xs) (numbers_within test n xs)) c).0

-- each number is of an element that passes, or of one that does not
numbers_each : {X : Type 0} (test : X → Bool) (n : ℕ) (xs : List X) (t : ℕ) → n ≤ t → t < n + length xs
    → Contains (numbers_from test n xs) t ⊎ Contains (numbers_from (λ x. not (test x)) n xs) t
numbers_each test n [] t a b = absurd (omega arith)
numbers_each test n (x ∷ xs) t a b = step (test x) (cases_eq n t) (λ m. numbers_each test (suc n) xs t m (omega arith))
  where
    step : (c : Bool) → (n ≡ t) ⊎ (n ≡ t → ⊥)
        → (suc n ≤ t → Contains (numbers_from test (suc n) xs) t ⊎ Contains
        (numbers_from (λ x. not (test x)) (suc n) xs) t)
        → Contains (cond c (n ∷ []) [] ++ numbers_from test (suc n) xs) t ⊎ Contains
        (cond (not c) (n ∷ []) [] ++ numbers_from (λ x. not (test x)) (suc n) xs) t
    step true (inl e) rest = inl (0, omega arith, e)
    step false (inl e) rest = inr (0, omega arith, e)
    step true (inr d) rest = ⊎_elim (λ c. inl (contains_later n _ t c)) (λ c. inr c) (rest (omega arith))
    step false (inr d) rest = ⊎_elim (λ c. inl c) (λ c. inr (contains_later n _ t c)) (rest (omega arith))

numbers_apart : {X : Type 0} (test : X → Bool) (n : ℕ) (xs : List X) (t : ℕ) → Contains (numbers_from test n xs) t
    → Contains (numbers_from (λ x. not (test x)) n xs) t → ⊥
numbers_apart test n [] t c d = omega (arith, c.1)
numbers_apart test n (x ∷ xs) t c d = step (test x) (cases_eq n t) (numbers_apart test (suc n) xs t)
    (late test (suc n) xs t) (late (λ x. not (test x)) (suc n) xs t) c d
  where
    step : (b : Bool) → (n ≡ t) ⊎ (n ≡ t → ⊥)
        → (Contains (numbers_from test (suc n) xs) t → Contains (numbers_from (λ x. not (test x)) (suc n) xs) t → ⊥)
        → (Contains (numbers_from test (suc n) xs) t → suc n ≤ t)
        → (Contains (numbers_from (λ x. not (test x)) (suc n) xs) t → suc n ≤ t)
        → Contains (cond b (n ∷ []) [] ++ numbers_from test (suc n) xs) t
        → Contains (cond (not b) (n ∷ []) [] ++ numbers_from (λ x. not (test x)) (suc n) xs) t → ⊥
    step true (inl e) rest a b c d = let l : suc n ≤ t = b d in omega arith
    step false (inl e) rest a b c d = let l : suc n ≤ t = a c in omega arith
    step true (inr m) rest a b c d = rest (contains_cases n _ t m c) d
    step false (inr m) rest a b c d = rest c (contains_cases n _ t m d)

-- The tiers of a table are input tiers or free ones, and not both.
pub tiers_split : (kinds : List TierKind) → AreSplit (tiers_by_kinds kinds)
tiers_split kinds = record {
  each = λ t l. numbers_each is_input 0 kinds t (omega arith) (omega arith);
  apart = λ t c d. numbers_apart is_input 0 kinds t c d;
  inputs_below = all_weaker _ _ _ (λ t h. let l : t < 0 + length kinds = h.1 in omega arith)
      (numbers_within is_input 0 kinds);
  free_below = all_weaker _ _ _ (λ t h. let l : t < 0 + length kinds = h.1 in omega arith)
      (numbers_within is_free 0 kinds);
  distinct = numbers_distinct is_input 0 kinds;
}
