-- The numbers of the kinds that pass a test.
use Rattle.std.proofs.Common.{◌≡◌, ℕ, zero, suc, ◌+◌, ◌<◌, ◌≤◌, Bool, true, false, cond, List, [], ◌∷◌, ◌++◌}
use Rattle.std.proofs.Common.{length, take, get_or, sym, ap, ◌∙◌, arith}
use Rattle.std.specs.List.{AllByRecursion}
use Rattle.tier_core.specs.{declared.tier.TierKind.TierKind, Tiers.{is_free, numbers_from, tiers_by_kinds, kind_at}}
use Rattle.tier_core.proofs.CountLemmas.{all_weaker}
use Rattle.violation.specs.Conditions.{AreDistinct}
use Rattle.violation.proofs.SplitLemmas.{numbers_distinct}

-- each number is one of an element that passes
numbers_pass : (test : TierKind → Bool) (g : ℕ → Bool) (n : ℕ) (kinds : List TierKind)
    → ((k : ℕ) → k < length kinds → g (n + k) ≡ test (kind_at kinds k))
    → AllByRecursion (λ t. (n ≤ t) × (t < n + length kinds) × (g t ≡ true)) (numbers_from test n kinds)
numbers_pass test g n [] h = tt
numbers_pass test g n (x ∷ xs) h =
    by_test (test x) (let here : n + 0 ≡ n = omega arith in sym (ap g here) ∙ h 0 (omega arith))
    (all_weaker _ _ _ (λ t a. (omega arith, omega arith, a.2))
    (numbers_pass test g (suc n) xs (λ k l. let same : suc n + k ≡ n + suc k = omega arith in ap g same
    ∙ h (suc k) (omega arith))))
  where
    by_test : (b : Bool) → g n ≡ b → AllByRecursion (λ t. (n ≤ t) × (t < n + suc (length xs)) × (g t ≡ true))
        (numbers_from test (suc n) xs)
        → AllByRecursion (λ t. (n ≤ t) × (t < n + suc (length xs)) × (g t ≡ true))
        (cond b (n ∷ []) [] ++ numbers_from test (suc n) xs)
    by_test true e rest = ((omega arith, omega arith, e), rest)
    by_test false e rest = rest

-- the number of an element that passes comes after those of the elements before it
pub number_at : (test : TierKind → Bool) (n k : ℕ) (kinds : List TierKind) → k < length kinds
    → test (kind_at kinds k) ≡ true
    → (length (numbers_from test n (take k kinds)) < length (numbers_from test n kinds)) ×
    (get_or (numbers_from test n kinds) (length (numbers_from test n (take k kinds))) 0 ≡ n + k)
number_at test n k [] l h = absurd (omega arith)
number_at test n zero (x ∷ xs) l h = rw h (omega arith, omega arith)
number_at test n (suc k) (x ∷ xs) l h = by_test (test x) (number_at test (suc n) k xs (omega arith) h)
  where
    by_test : (b : Bool) → (length (numbers_from test (suc n) (take k xs)) < length (numbers_from test (suc n) xs)) ×
        (get_or (numbers_from test (suc n) xs) (length (numbers_from test (suc n) (take k xs))) 0 ≡ suc n + k)
        → (length (cond b (n ∷ []) [] ++ numbers_from test (suc n) (take k xs)) < length
        (cond b (n ∷ []) [] ++ numbers_from test (suc n) xs))
        × (get_or (cond b (n ∷ []) [] ++ numbers_from test (suc n) xs)
        (length (cond b (n ∷ []) [] ++ numbers_from test (suc n) (take k xs))) 0 ≡ n + suc k)
    by_test true a = (omega arith, omega arith)
    by_test false a = (a.0, omega arith)

-- no free tier of a table comes twice
pub free_distinct : (kinds : List TierKind) → AreDistinct (tiers_by_kinds kinds).free
free_distinct kinds = numbers_distinct is_free 0 kinds
