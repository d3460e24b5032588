-- Sets of symbols by their numbers: 1 for Outside, 2 for Inside, 4 for Start, 8 for End and 16 for Both.
use Rattle.std.specs.Int.{bit_at}
use Rattle.std.specs.Prelude.{◌≡◌, ℕ, ◌^◌, ◌==◌, ◌<◌, Bool, List, length, slice_index_or, bit_and, All}
use Rattle.tier_core.specs.declared.sym.Sym.{Sym}
use Rattle.tier_core.specs.Symbols.{rank}

-- whether a symbol is in the set of this number
abbrev pub is_in : ℕ → Sym → Bool
is_in set s = bit_at set (rank s) == 1

-- the number of the set that has one symbol alone
abbrev pub single_set : Sym → ℕ
single_set s = 2 ^ rank s

-- each is the number of a set
abbrev pub AreSets : List ℕ → Type 0
AreSets sets = All (λ set. set < 32) sets

-- sets have on each tier what both of two others have there
abbrev pub MeetAt : List ℕ → List ℕ → List ℕ → Type 0
MeetAt a b both = (t : ℕ) → t < length a
    → slice_index_or both t 0 ≡ bit_and (slice_index_or a t 0) (slice_index_or b t 0)

-- the set of some tier has no symbol
abbrev pub SomeEmpty : List ℕ → Type 0
SomeEmpty sets = (t : ℕ) × (t < length sets) × (slice_index_or sets t 0 ≡ 0)
