-- Kinds that are listed one by one, and the kept states that they stand over.
use Rattle.std.specs.Prelude.{◌≡◌, ◌≢◌, ℕ, ◌<◌, ◌≤◌, ◌⊎◌, Bool, List, [], ◌∷◌, ◌++◌, Some, length, map, slice_get, All, Contains, AllPairs, IsTrue}
use Rattle.std.specs.Map.{keys_of}
use Rattle.weight_law.specs.declared.Weight.{Ghosts}
use Rattle.weight_law.specs.declared.count.Count.{Count}
use Rattle.weight_law.specs.declared.unit_weight.UnitWeight.{UnitWeight}
use Rattle.tier_core.specs.declared.kind.Kind.{Kind}
use Rattle.tier_core.specs.declared.sym.Sym.{Sym}
use Rattle.tier_core.specs.Classes.{sets_of, has}
use Rattle.tier_core.specs.Filled.{is_filled}
use Rattle.symbol_class.specs.Held.{times_held}
use Rattle.symbol_class.specs.Parts.{IsAlike}
use Rattle.arc_table.specs.declared.arc.TableArc.{TableArc}
use Rattle.arc_table.specs.declared.state.TableState.{TableState}
use Rattle.arc_table.specs.MoveClasses.{move_classes}
use Rattle.arc_table.specs.Moves.{moves_at, accepting_at}
use Rattle.arc_table.specs.Runs.{IsPath, Reads}
use Rattle.violation.specs.Moves.{is_final}
use Rattle.kind_moves.specs.declared.frame.Frame.{Frame}
use Rattle.kind_moves.specs.Frames.{tiers_in, problem_in, kind_at_stage, FitsAt, FitsFrame, IsMove, IsStart}
use Rattle.kind_moves.specs.Laws.{LeadsTo}
use Rattle.kind_moves.specs.Pieces.{cost_under}
use Rattle.kind_tables.specs.StageTables.{cost_of}

-- number k of a list is the kind, which stands over state s
abbrev pub IsAt : List (Kind × ℕ) → ℕ → Kind → ℕ → Type 0
IsAt entries k kind s = slice_get entries k ≡ Some (kind, s)

-- no kind is listed twice
abbrev pub AreApart : List (Kind × ℕ) → Type 0
AreApart entries = AllPairs (λ a b. a ≢ b) (keys_of entries)

-- the kind is put last, over state s
abbrev pub IsPutLast : List (Kind × ℕ) → List (Kind × ℕ) → Kind → ℕ → Type 0
IsPutLast entries next_entries kind s = next_entries ≡ entries ++ (kind, s) ∷ []

-- number k is the kind, which was listed before over state s, or is put last over it
pub record IsNumbered (entries next_entries : List (Kind × ℕ)) (k : ℕ) (kind : Kind) (s : ℕ) : Type 0 where
  pub at : IsAt next_entries k kind s
  pub grows : (next_entries ≡ entries) ⊎ (IsPutLast entries next_entries kind s × (k ≡ length entries))

-- a kind fits the frame at a stage, and stands over one of so many states
pub record StandsOver (frame : Frame) (stage many : ℕ) (kind : Kind) (s : ℕ) : Type 0 where
  pub fits : FitsFrame frame stage kind
  pub within : s < many

-- moves by a prefix lead from the start to the kind, and the kept table goes by it to state s
pub record IsReached {g : Ghosts UnitWeight} (frame : Frame) (stage : ℕ) (kept : List (TableState UnitWeight g))
    (kind : Kind) (s : ℕ) : Type 0 where
  pub prefix : List (List Sym)
  pub first : Kind
  pub starts : IsStart frame stage first
  pub leads : LeadsTo frame stage first prefix kind
  pub arcs : List (TableArc UnitWeight g)
  pub path : IsPath kept 0 arcs s
  pub reads : Reads arcs prefix

-- a kind is reached over one state alone
abbrev pub IsOverOne : {g : Ghosts UnitWeight} → Frame → ℕ → List (TableState UnitWeight g) → Type 0
IsOverOne frame stage kept = (a b : Kind) (s t : ℕ) → IsReached frame stage kept a s → IsReached frame stage kept b t
    → kind_at_stage frame stage a ≡ kind_at_stage frame stage b → s ≡ t

-- the classes of a table's moves are of the width of the frame's columns
abbrev pub IsOfWidth : {g : Ghosts UnitWeight} → Frame → List (TableState UnitWeight g) → Type 0
IsOfWidth {g} frame kept = (s : ℕ) (arc : TableArc UnitWeight g) → Contains (moves_at kept s) arc
    → length (sets_of arc.class) ≡ (tiers_in frame).width

-- Kinds that are found so far: no two are the same, the first is the start, and each stands over a
-- state of the kept table and is reached over it.
pub record AreFound {g : Ghosts UnitWeight} (frame : Frame) (stage : ℕ) (kept : List (TableState UnitWeight g))
    (entries : List (Kind × ℕ)) : Type 0 where
  pub apart : AreApart entries
  pub start : (first : Kind) × IsAt entries 0 first 0 × IsStart frame stage first
  pub stands : (k : ℕ) (kind : Kind) (s : ℕ) → IsAt entries k kind s → StandsOver frame stage (length kept) kind s
  pub reached : (k : ℕ) (kind : Kind) (s : ℕ) → IsAt entries k kind s → IsReached frame stage kept kind s

-- what is listed keeps its number
abbrev pub Stays : List (Kind × ℕ) → List (Kind × ℕ) → Type 0
Stays entries next_entries = (k : ℕ) (kind : Kind) (s : ℕ) → IsAt entries k kind s
    → IsAt next_entries k kind s

-- what is listed since is the target of one of the moves
abbrev pub AreTargets : {h : Ghosts Count} → List (Kind × ℕ) → List (Kind × ℕ) → List (TableArc Count h) → Type 0
AreTargets {h} entries next_entries moves = (k : ℕ) → length entries ≤ k → k < length next_entries
    → (arc : TableArc Count h) × Contains moves arc × (arc.target ≡ k)

-- The new move b from a kind is a part of the kept move a: its columns are among those of a, it leads
-- to the kind to which they all lead, which stands over the target of a, and weighs what they cost.
-- Under each constraint from the first on they cost the same.
pub record IsTaken {g : Ghosts UnitWeight} {h : Ghosts Count} (frame : Frame) (first stage : ℕ)
    (entries : List (Kind × ℕ)) (kind : Kind) (a : TableArc UnitWeight g) (b : TableArc Count h) : Type 0 where
  pub next : Kind
  pub at : IsAt entries b.target next a.target
  pub within : (column : List Sym) → IsTrue (has b.class column) → IsTrue (has a.class column)
  pub moves : (column : List Sym) → IsTrue (has b.class column) → IsMove frame stage kind column next
  pub weighs : (column : List Sym) → IsTrue (has b.class column)
      → b.weight.0 ≡ cost_of (problem_in frame) stage (kind_at_stage frame stage kind) column
  pub alike : (r : ℕ) → first ≤ r → r ≤ stage → IsAlike (cost_under frame stage r kind) b.class
  pub filled : IsTrue (is_filled b.class)
  pub wide : length (sets_of b.class) ≡ (tiers_in frame).width

-- it is a part of one of some kept moves
pub record IsTakenFrom {g : Ghosts UnitWeight} {h : Ghosts Count} (frame : Frame) (first stage : ℕ)
    (entries : List (Kind × ℕ)) (kind : Kind) (arcs : List (TableArc UnitWeight g))
    (b : TableArc Count h) : Type 0 where
  pub arc : TableArc UnitWeight g
  pub listed : Contains arcs arc
  pub taken : IsTaken frame first stage entries kind arc b

-- New moves from a kind are the kept ones: each is a part of one of these, and they hold each column
-- that fits the kind as often as these do.
pub record AreTakenMoves {g : Ghosts UnitWeight} {h : Ghosts Count} (frame : Frame) (first stage : ℕ)
    (entries : List (Kind × ℕ)) (kind : Kind) (arcs : List (TableArc UnitWeight g))
    (moves : List (TableArc Count h)) : Type 0 where
  pub each : All (IsTakenFrom frame first stage entries kind arcs) moves
  pub held : (column : List Sym) → FitsAt frame stage kind column
      → times_held (move_classes moves) column ≡ times_held (move_classes arcs) column

-- a new state is a kept one: it accepts if its kind is final, and its moves are those of the kept one
pub record IsTakenState {g : Ghosts UnitWeight} {h : Ghosts Count} (frame : Frame) (first stage : ℕ)
    (kept : List (TableState UnitWeight g)) (entries : List (Kind × ℕ)) (kind : Kind) (s : ℕ)
    (accepting : Bool) (moves : List (TableArc Count h)) : Type 0 where
  pub accepts : accepting ≡ is_final (problem_in frame) (kind_at_stage frame stage kind)
  pub taken : AreTakenMoves frame first stage entries kind (moves_at kept s) moves

-- the new states so far are those of the first kinds, and each kind but the start is the target of
-- a move from an earlier one
pub record AreTaken {g : Ghosts UnitWeight} {h : Ghosts Count} (frame : Frame) (first stage : ℕ)
    (kept : List (TableState UnitWeight g)) (entries : List (Kind × ℕ))
    (states : List (TableState Count h)) : Type 0 where
  pub within : length states ≤ length entries
  pub reached : (k : ℕ) → 0 < k → k < length entries
      → (t : ℕ) × (t < k) × ((arc : TableArc Count h) × Contains (moves_at states t) arc × (arc.target ≡ k))
  pub each : (k : ℕ) (kind : Kind) (s : ℕ) → k < length states → IsAt entries k kind s
      → IsTakenState frame first stage kept entries kind s (accepting_at states k) (moves_at states k)
