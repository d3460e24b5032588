-- Pieces of columns on which tests tell no two columns apart.
use Rattle.std.specs.Prelude.{IsTrue, List}
use Rattle.tier_core.specs.declared.sym.Sym.{Sym}
use Rattle.tier_core.specs.declared.class.Class.{Class}
use Rattle.tier_core.specs.Classes.{has}
use Rattle.cert_check.specs.Tests.{AgreeOn}

-- the tests agree on all columns of a piece
abbrev pub IsUniform : List Class → Class → Type 0
IsUniform tests piece = (c d : List Sym) → IsTrue (has piece c) → IsTrue (has piece d) → AgreeOn tests c d
