-- Classes are compared by the numbers of their sets, from the first tier on.
use Rattle.std.specs.Ordering.{nat_cmp}
use Rattle.std.specs.Cmp.Lexicographic.{slice_cmp}
use Rattle.std.specs.declared.cmp.Ordering.{Ordering}
use Rattle.tier_core.specs.declared.class.Class.{Class}
use Rattle.tier_core.specs.Classes.{sets_of}

abbrev pub class_cmp : Class → Class → Ordering
class_cmp a b = slice_cmp nat_cmp (sets_of a) (sets_of b)
