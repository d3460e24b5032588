-- A class in one number of 64 bits: five bits for the set of each of twelve tiers, those of the first
-- tier highest, and in the lowest four bits how many tiers there are.
use Rattle.std.specs.Prelude.{ℕ, ◌-◌, ◌*◌, ◌/◌, ◌%◌, ◌^◌, List, map}
use Rattle.std.specs.List.{range_with_len}

-- how many tiers there are
abbrev pub width_in : ℕ → ℕ
width_in word = word % 2 ^ 4

-- the number of the set of a tier
abbrev pub set_in : ℕ → ℕ → ℕ
set_in word tier = word / 2 ^ (59 - 5 * tier) % 2 ^ 5

-- those of the first n tiers
abbrev pub sets_in : ℕ → ℕ → List ℕ
sets_in word n = map (set_in word) (range_with_len 0 n)

-- what stands in the word below the first n tiers
abbrev pub below_in : ℕ → ℕ → ℕ
below_in word n = word % 2 ^ (64 - 5 * n)
