-- A set as the code reads it, symbol by symbol.
use Rattle.std.specs.Prelude.{ℕ, ◌+◌, ◌==◌, ◌&&◌, ◌||◌, not, Bool, if◌then◌else◌, List, [], ◌∷◌, Option, Some, None, option_map}
use Rattle.tier_core.specs.declared.sym.Sym.{Sym}
use Rattle.tier_core.specs.Sets.{single_set}
use Rattle.tier_core.specs.Symbols.{sym_of}
use denote.Ref.{Bor}

-- a set and what follows what was read of it
abbrev pub front_seen : ℕ × Bor (List ℕ) → ℕ × List ℕ
front_seen front = (front.0, front.1.now)

-- the symbol at the front joins the set
abbrev pub with_symbol : ℕ → ℕ → ℕ × List ℕ → ℕ × List ℕ
with_symbol bit byte (set, []) = (set, [])
with_symbol bit byte (set, b ∷ bytes) = if b == byte then (set + bit, bytes) else (set, b ∷ bytes)

-- the symbols at the front, in their order
abbrev pub symbols_from : List ℕ → ℕ × List ℕ
symbols_from bytes = with_symbol 16 124
    (with_symbol 8 93 (with_symbol 4 91 (with_symbol 2 43 (with_symbol 1 45 (0, bytes)))))

-- two symbols or more
abbrev pub has_two : ℕ → Bool
has_two set = not ((set == 0) || (set == 1) || (set == 2) || (set == 4) || (set == 8) || (set == 16))

abbrev pub closed_by : ℕ × List ℕ → Option (ℕ × List ℕ)
closed_by (set, []) = None
closed_by (set, b ∷ bytes) = if has_two set && (b == 125) then Some (set, bytes) else None

abbrev pub single_and_rest : List ℕ → Sym → ℕ × List ℕ
single_and_rest bytes s = (single_set s, bytes)

abbrev pub decode_set : List ℕ → Option (ℕ × List ℕ)
decode_set [] = None
decode_set (b ∷ bytes) = if b == 123 then closed_by (symbols_from bytes) else option_map (single_and_rest bytes)
    (sym_of b)
