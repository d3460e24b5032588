-- Parts of the class of a kept move, by the tests of the last constraint.
use Rattle.std.specs.Prelude.{◌≡◌, ◌+◌, List, length, IsTrue}
use Rattle.tier_core.specs.declared.class.Class.{Class}
use Rattle.tier_core.specs.declared.kind.Kind.{Kind}
use Rattle.tier_core.specs.declared.sym.Sym.{Sym}
use Rattle.tier_core.specs.Classes.{sets_of, has}
use Rattle.tier_core.specs.Filled.{is_filled}
use Rattle.kind_moves.specs.declared.last_tests.LastTests.{LastTests}
use Rattle.kind_moves.specs.Frames.{tiers_in}
use Rattle.kind_moves.specs.LastMoves.{AreLastTests}
use Rattle.stage_tables.specs.declared.exploring.Exploring.{Exploring}

-- tests are those of the last constraint at a kind, and `before` is the stage before
abbrev pub AreLastAt : Exploring → Kind → LastTests → Type 0
AreLastAt exploring kind tests = (exploring.before + 1 ≡ exploring.stage)
    × AreLastTests exploring.frame.now exploring.before exploring.stage kind tests

-- some columns of a class: at least one, and perhaps all
pub record AreSomeOf (exploring : Exploring) (class part : Class) : Type 0 where
  pub within : (column : List Sym) → IsTrue (has part column) → IsTrue (has class column)
  pub filled : IsTrue (is_filled part)
  pub wide : length (sets_of part) ≡ (tiers_in exploring.frame.now).width
