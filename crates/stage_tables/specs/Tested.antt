-- The tests of the last constraint, where a kept table is what the stage before has left.
use Rattle.std.specs.Prelude.{◌≡◌, ◌+◌, Option, IfSome}
use Rattle.tier_core.specs.declared.kind.Kind.{Kind}
use Rattle.arc_table.specs.States.{states_of}
use Rattle.kind_moves.specs.declared.last_tests.LastTests.{LastTests}
use Rattle.kind_moves.specs.Frames.{problem_in}
use Rattle.kind_moves.specs.LastMoves.{AreLastTests}
use Rattle.stage_tables.specs.declared.exploring.Exploring.{Exploring}
use Rattle.stage_tables.specs.Kept.{IsKeptTable}

-- if `before` is the stage before, the kept table is what this has left
abbrev pub IsLeftBefore : Exploring → Type 0
IsLeftBefore exploring = exploring.before + 1 ≡ exploring.stage
    → IsKeptTable (problem_in exploring.frame.now) exploring.before (states_of exploring.kept.now)

-- tests, if there are any, are those of the last constraint at a kind, and `before` is the stage before
abbrev pub AreTestsAt : Exploring → Kind → Option LastTests → Type 0
AreTestsAt exploring kind tests = IfSome tests (λ found. (exploring.before + 1 ≡ exploring.stage)
    × AreLastTests exploring.frame.now exploring.before exploring.stage kind found)
