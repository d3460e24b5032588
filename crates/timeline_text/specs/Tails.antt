-- The text of a timeline, column by column, as it is written.
use Rattle.std.specs.Prelude.{ℕ, List, ◌∷◌, map}
use Rattle.std.specs.List.{flat_map}
use Rattle.tier_core.specs.declared.sym.Sym.{Sym}
use Rattle.tier_core.specs.Symbols.{byte_of}

-- the columns after the first, each after a space
abbrev pub tail_text : List (List Sym) → List ℕ
tail_text columns = flat_map (λ column. 32 ∷ map byte_of column) columns
