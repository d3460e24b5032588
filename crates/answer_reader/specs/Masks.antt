-- Masks with a bit for each byte of a text.
use Rattle.std.specs.Prelude.{ℕ, ◌+◌, ◌*◌, ◌==◌, if◌then◌else◌, List, [], ◌∷◌}

-- the bit of a byte is set if it is this mark; the first byte has the lowest bit
abbrev pub mark_mask : ℕ → List ℕ → ℕ
mark_mask mark [] = 0
mark_mask mark (b ∷ bytes) = (if b == mark then 1 else 0) + 2 * mark_mask mark bytes
