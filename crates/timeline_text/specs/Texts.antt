-- The text of a timeline. This notation is our own.
use Rattle.std.specs.Prelude.{◌≡◌, ℕ, ◌≤◌, List, [], ◌∷◌, length, map, codes}
use Rattle.std.specs.List.{join_with_byte}
use Rattle.tier_core.specs.declared.sym.Sym.{Sym}
use Rattle.tier_core.specs.Symbols.{byte_of}
use Rattle.tier_core.specs.Timelines.{IsWellFormed, IsReduced}

-- one byte for each tier of a column, and a space between two columns
abbrev pub text_of : List (List Sym) → List ℕ
text_of [] = codes "empty"
text_of (column ∷ columns) = join_with_byte 32 (map (map byte_of) (column ∷ columns))

-- Bytes are the text of a timeline that is well formed over the width, reduced and within the limit.
pub record IsTextOf (width limit : ℕ) (bytes : List ℕ) (T : List (List Sym)) : Type 0 where
  pub text : bytes ≡ text_of T
  pub form : IsWellFormed width T
  pub reduced : IsReduced T
  pub within : length T ≤ limit
