-- What the type of shapes guarantees.
use Rattle.std.specs.Prelude.{◌≡◌, ℕ, ◌+◌, ◌<◌, ◌≤◌, List, length, slice_index_or}
use Rattle.tier_core.specs.Tiers.{tiers_of}

-- how many tiers a mask has
abbrev pub masked_count : ℕ → ℕ
masked_count mask = length (tiers_of mask)

-- the numbers begin with 0, never fall, and are at most 24
pub record NeverFalls (phases : List ℕ) : Type 0 where
  pub begins : slice_index_or phases 0 0 ≡ 0
  pub rises : (r : ℕ) → r + 1 < length phases → slice_index_or phases r 0 ≤ slice_index_or phases (r + 1) 0
  pub most : (r : ℕ) → r < length phases → slice_index_or phases r 0 ≤ 24
