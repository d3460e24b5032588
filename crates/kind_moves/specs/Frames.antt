-- Frames: grammars with a form. Which kinds fit a frame, and what a move of a frame is.
use Rattle.std.specs.Prelude.{◌≡◌, ℕ, ◌^◌, ◌<◌, ◌≤◌, List, [], length}
use Rattle.tier_core.specs.declared.kind.Kind.{Kind}
use Rattle.tier_core.specs.declared.sym.Sym.{Sym}
use Rattle.tier_core.specs.declared.constraint.Constraint.{Constraint}
use Rattle.tier_core.specs.Kinds.{PrefixKind, AreStretchesBelow, prefix_kind}
use Rattle.tier_core.specs.Tables.{tiers_of_table}
use Rattle.tier_core.specs.Tiers.{Tiers}
use Rattle.violation.specs.Moves.{FitsKind, next_kind}
use Rattle.violation.specs.Problems.{Problem, problem_from}
use Rattle.violation.specs.Prefixes.{kind_of, stretches}
pub use Rattle.violation.specs.Phases.{is_closed, is_left_open, AreClosedOr}
use Rattle.kind_moves.specs.declared.frame.Frame.{Frame}

-- the tiers of a frame's grammar, its constraints in ranked order, and its form
abbrev pub tiers_in : Frame → Tiers
tiers_in frame = tiers_of_table frame.grammar.now.tiers

abbrev pub constraints_in : Frame → List Constraint
constraints_in frame = frame.grammar.now.constraints.items

abbrev pub form_in : Frame → List (List Sym)
form_in frame = frame.form.now

-- the problem that a frame's grammar and its form pose
abbrev pub problem_in : Frame → Problem
problem_in frame = problem_from frame.grammar.now.tiers frame.grammar.now.constraints.items frame.form.now

-- the stretch implications among the first constraints of a frame
abbrev pub stretches_in : Frame → ℕ → List Constraint
stretches_in frame stage = stretches (problem_in frame) stage

-- the kind of prefixes that the bits of a kind encode at a stage
abbrev pub kind_at_stage : Frame → ℕ → Kind → PrefixKind
kind_at_stage frame stage kind = prefix_kind (length (tiers_in frame).free) (length (stretches_in frame stage)) kind

-- A kind fits a frame at a stage: its place is in the form, it has bits only for the free tiers and
-- for the stage's stretch implications, and the phase of such an implication is closed exactly if one
-- of its left tiers is.
pub record FitsFrame (frame : Frame) (stage : ℕ) (kind : Kind) : Type 0 where
  pub place : kind.place ≤ length (form_in frame)
  pub opened : kind.opened < 2 ^ length (tiers_in frame).free
  pub stretches : AreStretchesBelow (length (stretches_in frame stage)) kind
  pub phases : AreClosedOr (is_left_open (problem_in frame) (kind_at_stage frame stage kind))
      (stretches_in frame stage) (kind_at_stage frame stage kind).phases

-- a column fits a kind of a frame
abbrev pub FitsAt : Frame → ℕ → Kind → List Sym → Type 0
FitsAt frame stage kind column = FitsKind (problem_in frame) (kind_at_stage frame stage kind) column

-- There is a move from a kind by a column to a next kind: the column fits, and the next kind is the
-- one that it leads to and fits the frame.
pub record IsMove (frame : Frame) (stage : ℕ) (kind : Kind) (column : List Sym) (next : Kind) : Type 0 where
  pub column_fits : FitsAt frame stage kind column
  pub leads : kind_at_stage frame stage next
      ≡ next_kind (problem_in frame) stage (kind_at_stage frame stage kind) column
  pub next_fits : FitsFrame frame stage next

-- the kind of the empty prefix
pub record IsStart (frame : Frame) (stage : ℕ) (kind : Kind) : Type 0 where
  pub is : kind_at_stage frame stage kind ≡ kind_of (problem_in frame) stage []
  pub fits : FitsFrame frame stage kind
