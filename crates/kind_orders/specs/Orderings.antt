-- The numbers below n in some order.
use Rattle.std.specs.Prelude.{ℕ, ◌≡◌, ◌≢◌, ◌<◌, List, length, slice_index, All, AllPairs, Contains}

-- each number below n occurs in the list exactly once, and no other number occurs
pub record IsOrdering (n : ℕ) (order : List ℕ) : Type 0 where
  pub count : length order ≡ n
  pub below : All (λ number. number < n) order
  pub every : (number : ℕ) → number < n → Contains order number
  pub once : AllPairs (λ a b. a ≢ b) order

-- the ranks give each number's place in the order
pub record AreRanks (order ranks : List ℕ) : Type 0 where
  pub forth : (place : ℕ) → place < length order → slice_index ranks (slice_index order place) ≡ place
  pub back : (number : ℕ) → number < length ranks → slice_index order (slice_index ranks number) ≡ number
