-- Classes of columns, by a set of symbols for each tier.
use Rattle.std.specs.Prelude.{ℕ, Bool, true, false, ◌&&◌, IsTrue, List, [], ◌∷◌}
use Rattle.tier_core.specs.declared.sym.Sym.{Sym}
use Rattle.tier_core.specs.declared.class.Class.{Class}
use Rattle.tier_core.specs.ClassWords.{width_in, sets_in}
use Rattle.tier_core.specs.Sets.{is_in}

-- the numbers of the sets in tier order
unfoldable pub sets_of : Class → List ℕ
sets_of class = sets_in class.word (width_in class.word)

-- whether each set has the symbol of its tier
abbrev pub sets_have : List ℕ → List Sym → Bool
sets_have [] [] = true
sets_have [] (s ∷ column) = false
sets_have (set ∷ sets) [] = false
sets_have (set ∷ sets) (s ∷ column) = is_in set s && sets_have sets column

-- whether a class holds a column; it holds none of another width
abbrev pub has : Class → List Sym → Bool
has class column = sets_have (sets_of class) column

-- no column is in both classes
abbrev pub AreDisjoint : Class → Class → Type 0
AreDisjoint c d = (column : List Sym) → IsTrue (has c column) → IsTrue (has d column) → ⊥
