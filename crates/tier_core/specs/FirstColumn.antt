-- The least column of a class: on each tier the least symbol of its set.
use Rattle.std.specs.Prelude.{ℕ, List, map, if◌then◌else◌}
use Rattle.tier_core.specs.declared.sym.Sym.{Sym}
use Rattle.tier_core.specs.declared.sym.Sym.TheVariants.{Outside, Inside, Start, End, Both}
use Rattle.tier_core.specs.declared.class.Class.{Class}
use Rattle.tier_core.specs.Sets.{is_in}
use Rattle.tier_core.specs.Classes.{sets_of}

-- the least symbol of a set that has one
unfoldable pub first_sym : ℕ → Sym
first_sym set =
    if is_in set Outside then Outside
    else (if is_in set Inside then Inside
    else (if is_in set Start then Start
    else (if is_in set End then End
    else Both)))

abbrev pub first_column : Class → List Sym
first_column class = map first_sym (sets_of class)
