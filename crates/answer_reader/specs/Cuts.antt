-- How a line is cut into parts.
use Rattle.std.specs.Prelude.{ℕ, ◌+◌, ◌==◌, Bool, if◌then◌else◌, List, length, take, drop, Option, Some, None, option_map, position}
use Rattle.std.specs.List.{slice_split}
use Rattle.std.specs.Str.{bytes_eq}
use denote.Ref.{Bor}

abbrev pub parts_at : List ℕ → ℕ → List ℕ × List ℕ
parts_at bytes k = (take k bytes, drop (k + 1) bytes)

-- what comes before the first byte with this value, and what comes after it
abbrev pub cut : ℕ → List ℕ → Option (List ℕ × List ℕ)
cut b bytes = option_map (parts_at bytes) (position (λ x. x == b) bytes)

abbrev pub begins : List ℕ → List ℕ → Bool
begins front bytes = bytes_eq (take (length front) bytes) front

-- what follows a prefix
abbrev pub behind : List ℕ → List ℕ → Option (List ℕ)
behind front bytes = if begins front bytes then Some (drop (length front) bytes) else None

-- parts as the code has them
abbrev pub part_seen : Bor (List ℕ) → List ℕ
part_seen part = part.now

abbrev pub parts_seen : Bor (List ℕ) × Bor (List ℕ) → List ℕ × List ℕ
parts_seen parts = (parts.0.now, parts.1.now)
