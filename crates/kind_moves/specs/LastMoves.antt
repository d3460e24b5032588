-- What the last constraint of a stage tells apart of the columns that lead to one kind before it.
use Rattle.std.specs.Prelude.{◌≡◌, ◌+◌, ◌≤◌, ◌||◌, ℕ, Bool, List, length}
use Rattle.tier_core.specs.declared.kind.Kind.{Kind}
use Rattle.tier_core.specs.declared.sym.Sym.{Sym}
use Rattle.tier_core.specs.Classes.{sets_of}
use Rattle.tier_core.specs.Kinds.{PrefixKind}
use Rattle.tier_core.specs.Tiers.{has_tier}
use Rattle.symbol_class.specs.Held.{once_if}
use Rattle.symbol_class.specs.Parts.{differs}
use Rattle.violation.specs.Moves.{cut_kind, next_kind}
use Rattle.kind_moves.specs.declared.frame.Frame.{Frame}
use Rattle.kind_moves.specs.declared.last_tests.LastTests.{LastTests}
use Rattle.kind_moves.specs.Frames.{problem_in, tiers_in, stretches_in, kind_at_stage, FitsAt}
use Rattle.kind_moves.specs.Pieces.{cost_under}

-- the kind that a column leads to at a stage
abbrev pub next_at : Frame → ℕ → Kind → List Sym → PrefixKind
next_at frame stage kind column = next_kind (problem_in frame) stage (kind_at_stage frame stage kind) column

-- this kind as the stage before sees it
abbrev pub next_before : Frame → ℕ → ℕ → Kind → List Sym → PrefixKind
next_before frame before stage kind column = cut_kind (problem_in frame) before (next_at frame stage kind column)

-- columns that fit, lead to one kind at the stage before, and pass a test alike lead to one kind
abbrev pub PartsLast : Frame → ℕ → ℕ → Kind → (List Sym → Bool) → Type 0
PartsLast frame before stage kind test = (c d : List Sym) → FitsAt frame stage kind c → FitsAt frame stage kind d
    → next_before frame before stage kind c ≡ next_before frame before stage kind d → test c ≡ test d
    → next_at frame stage kind c ≡ next_at frame stage kind d

-- The tests of the last constraint of a stage, which is a stretch implication: what passes `met` and what
-- does not lead to one kind each, and the phase is met exactly after what passes `begun` or `met`.
pub record AreLastTests (frame : Frame) (before stage : ℕ) (kind : Kind) (tests : LastTests) : Type 0 where
  pub phase : length (stretches_in frame stage) ≡ length (stretches_in frame before) + 1
  pub begun_width : length (sets_of tests.begun.within) ≡ (tiers_in frame).width
  pub met_width : length (sets_of tests.met.within) ≡ (tiers_in frame).width
  pub cost_width : length (sets_of tests.cost.within) ≡ (tiers_in frame).width
  pub moved : PartsLast frame before stage kind (differs tests.met)
  pub bit : tests.bit ≡ length (stretches_in frame before)
  pub few : tests.bit ≤ 24
  pub met_after : (column : List Sym) (next : Kind) → FitsAt frame stage kind column
      → kind_at_stage frame stage next ≡ next_at frame stage kind column
      → has_tier next.met (length (stretches_in frame before))
      ≡ (differs tests.begun column || differs tests.met column)
  pub costs : (column : List Sym) → length column ≡ (tiers_in frame).width
      → cost_under frame stage stage kind column ≡ once_if (differs tests.cost column)

-- what the tests that part a class say of a column
abbrev pub tested : LastTests → List Sym → Bool × Bool
tested tests column = (differs tests.met column, differs tests.cost column)
