-- Numbers of kinds when no constraint is ranked: places and sets of open free tiers, in kind
-- order.
use Rattle.std.specs.Prelude.{ℕ, zero, suc, ◌+◌, ◌*◌, ◌/◌, ◌^◌, Bool, if◌then◌else◌, List, [], ◌∷◌, length}
use Rattle.tier_core.specs.Tiers.{has_tier}
use Rattle.tier_core.specs.Kinds.{PrefixKind}

-- the number of a list of flags, of which the first counts most
abbrev pub number_of_flags : List Bool → ℕ
number_of_flags [] = 0
number_of_flags (flag ∷ flags) = (if flag then 2 ^ length flags else 0) + number_of_flags flags

-- the lowest bits of a number as flags, the highest of them first
abbrev pub flags_of : ℕ → ℕ → List Bool
flags_of zero n = []
flags_of (suc f) n = has_tier n f ∷ flags_of f n

-- the number of a kind with f flags
abbrev pub number_of_kind : ℕ → PrefixKind → ℕ
number_of_kind f k = k.place * 2 ^ f + number_of_flags k.opened

-- the kind of a number
abbrev pub kind_of_number : ℕ → ℕ → PrefixKind
kind_of_number f n = record { place = n / 2 ^ f; opened = flags_of f n; phases = [] }
