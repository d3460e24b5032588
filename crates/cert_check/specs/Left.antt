-- What is left of the moves of a stage's kinds after the stage: those that are tight there, too.
use Rattle.std.specs.Prelude.{ℕ, zero, suc, ◌≡◌, ◌<◌, ◌≤◌, ◌+◌, ◌-◌, ◌⊎◌, ◌↔◌, IsTrue, List, [], ◌∷◌, ◌++◌, All, Contains, Some, length, slice_get}
use Rattle.std.specs.Global.{Vec}
use Rattle.tier_core.specs.declared.constraint.Constraint.{Constraint}
use Rattle.tier_core.specs.declared.sym.Sym.{Sym}
use Rattle.tier_core.specs.declared.class.Class.{Class}
use Rattle.tier_core.specs.declared.kind.Kind.{Kind}
use Rattle.tier_core.specs.Classes.{has}
use Rattle.tier_core.specs.Kinds.{PrefixKind}
use Rattle.symbol_class.specs.Held.{some_has, ArePieces}
use Rattle.violation.specs.Moves.{FitsKind, cut_kind, next_kind, cost_of}
use Rattle.violation.specs.Prefixes.{kind_of_bits}
use Rattle.violation.specs.Problems.{Problem}
use Rattle.answer_text.specs.declared.automaton.ArcLine.{ArcLine}
use Rattle.answer_text.specs.declared.stage.Stage.{Stage}
use Rattle.answer_text.specs.ArcClasses.{arc_classes}
use Rattle.answer_text.specs.Certified.{IsKeptBelow, IsTightAt}
use Rattle.cert_check.specs.declared.kept_piece.KeptPiece.{KeptPiece}
use Rattle.cert_check.specs.declared.kept_piece.MoveTarget.TheVariants.{Node}
use Rattle.cert_check.specs.declared.subject.Subject.{Subject}
use Rattle.cert_check.specs.Alike.{AreAlikeFor}
use Rattle.cert_check.specs.Fitting.{OpenAlike}
use Rattle.cert_check.specs.Kept.{kinds_of}
use Rattle.cert_check.specs.Subjects.{AscendsAt, problem_of, stage_kinds, stage_nodes}
use Rattle.cert_check.specs.Tests.{AddsTests}

-- Two moves of a kind at a stage lead to one kind, and cost the same.
pub record MoveAlike (problem : Problem) (stage : ℕ) (k : PrefixKind) (c d : List Sym) : Type 0 where
  pub moves : next_kind problem stage k c ≡ next_kind problem stage k d
  pub costs : cost_of problem stage k c ≡ cost_of problem stage k d

-- the moves of a kind on all columns of a class lead to one kind, and cost the same
abbrev pub IsMovingAlike : Problem → ℕ → PrefixKind → Class → Type 0
IsMovingAlike problem stage k class = (c d : List Sym) → IsTrue (has class c) → IsTrue (has class d)
    → MoveAlike problem stage k c d

-- Classes hold exactly the columns that fit a kind of stage 0, no column is in two, and the moves on all
-- columns of each are alike.
pub record AreFirstParts (problem : Problem) (k : PrefixKind) (classes : List Class) : Type 0 where
  pub pieces : ArePieces problem.tiers.width classes
  pub columns : (column : List Sym) → IsTrue (some_has classes column) ↔ FitsKind problem k column
  pub alike : All (IsMovingAlike problem 0 k) classes

-- what the tests of a stage tell: at stage 0 which tiers are open after a column, and later all that its
-- last constraint asks of a column
abbrev pub AreToldAlike : Problem → ℕ → List Sym → List Sym → Type 0
AreToldAlike problem zero c d = OpenAlike problem.tiers.width c d
AreToldAlike problem (suc r) c d = (x : Constraint) → slice_get problem.constraints r ≡ Some x → AreAlikeFor x c d

-- classes by which the columns of a stage are told apart
abbrev pub AreTestsAt : Problem → ℕ → List Class → Type 0
AreTestsAt problem stage tests = AddsTests problem.tiers.width [] tests (AreToldAlike problem stage)

-- after a stage the move on a column is kept if it is tight there; after stage 0 each move is
abbrev pub StaysKept : Problem → List Stage → ℕ → PrefixKind → List Sym → Type 0
StaysKept problem stages stage k column = 1 ≤ stage → IsTightAt problem stages stage k column

-- an arc leads from a kind of a stage, on each of its columns, to the node that tells where the move leads
abbrev pub IsLeadingArc : Problem → List Stage → ℕ → PrefixKind → ArcLine → Type 0
IsLeadingArc problem stages stage k arc = (column : List Sym) → IsTrue (has arc.class column)
    → slice_get (kinds_of problem stages stage) arc.target ≡ Some (next_kind problem stage k column)

-- Arcs are what is left of the moves of a kind after a stage: they hold exactly the columns on which its
-- move is kept below the next stage, no column is in two, and they lead where the moves lead.
pub record AreLeft (problem : Problem) (stages : List Stage) (stage : ℕ) (k : PrefixKind) (arcs : List ArcLine)
    : Type 0 where
  pub pieces : ArePieces problem.tiers.width (arc_classes arcs)
  pub columns : (column : List Sym) → IsTrue (some_has (arc_classes arcs) column)
      ↔ IsKeptBelow problem stages (stage + 1) k column
  pub leads : All (IsLeadingArc problem stages stage k) arcs

-- a piece of kept moves leads to a node of its stage
abbrev pub IsListedPiece : Subject → ℕ → KeptPiece → Type 0
IsListedPiece s stage piece = (n : ℕ) × ((piece.target ≡ Node n) × (n < length (stage_nodes s stage)))

-- An arc has a class, leads where the moves lead, and these are kept after the stage.
pub record IsLeftArc (problem : Problem) (stages : List Stage) (stage : ℕ) (k : PrefixKind) (class : Class)
    (arc : ArcLine) : Type 0 where
  pub same_class : arc.class ≡ class
  pub leads : IsLeadingArc problem stages stage k arc
  pub stays : (column : List Sym) → IsTrue (has class column) → StaysKept problem stages stage k column

-- a class is put at the end of a list as an arc, if the moves on its columns are kept after the stage
abbrev pub AddsLeft : Problem → List Stage → ℕ → PrefixKind → Class → List ArcLine → List ArcLine → Type 0
AddsLeft problem stages stage k class old new =
    ((new ≡ old) × ((column : List Sym) → IsTrue (has class column) → StaysKept problem stages stage k column → ⊥))
    ⊎ ((arc : ArcLine) × (IsLeftArc problem stages stage k class arc × (new ≡ old ++ arc ∷ [])))

-- Lists of arcs, one for each of the first nodes of a stage, are what is left of their moves after it.
pub record AreLeftOfFirst (s : Subject) (stage count : ℕ) (lists : List (Vec ArcLine)) : Type 0 where
  pub number : length lists ≡ count
  pub each : (n : ℕ) (k : PrefixKind) (arcs : Vec ArcLine) → slice_get (stage_kinds s stage) n ≡ Some k
      → slice_get lists n ≡ Some arcs
      → AreLeft (problem_of s) s.answer.now.stages.items stage k arcs.items

-- the same for all nodes of a stage
abbrev pub AreLeftAt : Subject → ℕ → List (Vec ArcLine) → Type 0
AreLeftAt s stage lists = AreLeftOfFirst s stage (length (stage_kinds s stage)) lists

-- Of a stage that is not the first, what was found at the stage before: its kinds ascend, the cut of the
-- kind at hand is one of them, and lists of arcs are what is left of its moves.
pub record IsAfter (s : Subject) (stage : ℕ) (kind : Kind) (lists : List (Vec ArcLine)) : Type 0 where
  pub ascends : AscendsAt s (stage - 1)
  pub cut : Contains (stage_kinds s (stage - 1))
      (cut_kind (problem_of s) (stage - 1) (kind_of_bits (problem_of s) stage kind))
  pub left : AreLeftAt s (stage - 1) lists
