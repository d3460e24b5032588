-- The columns of a form, widened to all tiers.
use Rattle.std.specs.Prelude.{ℕ, ◌==◌, if◌then◌else◌, List, [], ◌∷◌, map}
use Rattle.std.specs.List.{range_with_len}
use Rattle.tier_core.specs.declared.sym.Sym.{Sym}
use Rattle.tier_core.specs.declared.sym.Sym.TheVariants.{Outside}
use Rattle.tier_core.specs.Tiers.{Tiers}

-- the symbol of tier t, if the tiers of a list have the symbols of a column in turn; Outside
-- elsewhere
abbrev pub symbol_on : List ℕ → List Sym → ℕ → Sym
symbol_on [] column t = Outside
symbol_on (x ∷ xs) [] t = Outside
symbol_on (x ∷ xs) (s ∷ ss) t = if x == t then s else symbol_on xs ss t

-- a column of a form, widened to all tiers
abbrev pub wide_column : Tiers → List Sym → List Sym
wide_column tiers column = map (symbol_on tiers.input column) (range_with_len 0 tiers.width)
