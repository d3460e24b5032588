-- A class is filled if it holds some column, that is, if each tier's set has a symbol.
use Rattle.std.specs.Prelude.{Bool}
use Rattle.std.specs.List.{list_all, list_any}
use Rattle.tier_core.specs.declared.class.Class.{Class}
use Rattle.tier_core.specs.Symbols.{symbols}
use Rattle.tier_core.specs.Sets.{is_in}
use Rattle.tier_core.specs.Classes.{sets_of}

abbrev pub is_filled : Class → Bool
is_filled class = list_all (λ set. list_any (is_in set) symbols) (sets_of class)
