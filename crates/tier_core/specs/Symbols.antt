-- The five symbols: the byte that each is written as, and their order.
use Rattle.std.specs.Prelude.{ℕ, ◌==◌, Option, List, [], ◌∷◌}
use Rattle.std.specs.List.{find}
use Rattle.tier_core.specs.declared.sym.Sym.{Sym}
use Rattle.tier_core.specs.declared.sym.Sym.TheVariants.{Outside, Inside, Start, End, Both}

-- the bytes `-`, `+`, `[`, `]` and `|`
abbrev pub byte_of : Sym → ℕ
byte_of Outside = 45
byte_of Inside = 43
byte_of Start = 91
byte_of End = 93
byte_of Both = 124

-- the symbols in their order
abbrev pub symbols : List Sym
symbols = Outside ∷ Inside ∷ Start ∷ End ∷ Both ∷ []

-- the symbol that is written as this byte, if there is one
abbrev pub sym_of : ℕ → Option Sym
sym_of b = find (λ s. byte_of s == b) symbols

-- the number of a symbol in their order, from 0
abbrev pub rank : Sym → ℕ
rank Outside = 0
rank Inside = 1
rank Start = 2
rank End = 3
rank Both = 4
