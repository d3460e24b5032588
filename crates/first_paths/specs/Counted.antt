-- How few moves of a table lead to the end, as they are counted, and what is chosen by it.
use Rattle.std.specs.Prelude.{◌≡◌, ◌<◌, ◌+◌, ℕ, List, [], ◌∷◌, Option, None, Some, Contains, IsTrue, false, length, slice_index_or}
use Rattle.std.specs.Ordering.{is_gt}
use Rattle.tier_core.specs.declared.sym.Sym.{Sym}
use Rattle.tier_core.specs.Classes.{has}
use Rattle.tier_core.specs.Orders.{column_cmp}
use Rattle.tier_core.specs.FirstColumn.{first_column}
use Rattle.weight_law.specs.declared.Weight.{Ghosts}
use Rattle.weight_law.specs.declared.count.Count.{Count}
use Rattle.arc_table.specs.declared.arc.TableArc.{TableArc}
use Rattle.arc_table.specs.declared.state.TableState.{TableState}
use Rattle.arc_table.specs.declared.incoming_move.IncomingMove.{IncomingMove}
use Rattle.arc_table.specs.declared.incoming.Incoming.{Incoming}
use Rattle.arc_table.specs.Moves.{moves_at, accepting_at}
use Rattle.arc_table.specs.Incoming.{moves_into}
use Rattle.first_paths.specs.Search.{LeadsToOne, ReachesIn, IsSearchedIn}

-- n moves are left at state s
abbrev pub IsLeft : List (Option Count) → ℕ → ℕ → Type 0
IsLeft left s n = (c : Count) × (slice_index_or left s None ≡ Some c) × (c.0 ≡ n)

-- for how many states nothing is known
abbrev pub unknown_count : List (Option Count) → ℕ
unknown_count [] = 0
unknown_count (None ∷ left) = 1 + unknown_count left
unknown_count (Some n ∷ left) = unknown_count left

-- a move whose class holds the column leads from state s to state t
abbrev pub Goes : {V : Type 0} {h : Ghosts V} → List (TableState V h) → ℕ → List Sym → ℕ → Type 0
Goes {V} {h} states s column t = (arc : TableArc V h) × Contains (moves_at states s) arc × IsTrue (has arc.class column)
    × (arc.target ≡ t)

-- the state accepts
abbrev pub IsEnd : {V : Type 0} {h : Ghosts V} → List (TableState V h) → ℕ → Type 0
IsEnd states s = IsTrue (accepting_at states s)

-- one of the moves comes from state q
abbrev pub IsSource : {V : Type 0} → List (IncomingMove V) → ℕ → Type 0
IsSource = LeadsToOne (λ move q. move.source ≡ q)

-- one of the moves to one of the states comes from state q
abbrev pub IsBefore : {V : Type 0} {h : Ghosts V} → Incoming V h → List ℕ → ℕ → Type 0
IsBefore incoming = LeadsToOne (λ t. IsSource (moves_into incoming t))

-- the chosen states of which nothing was known now have n moves left and are listed
abbrev pub Reaches : (ℕ → Type 0) → ℕ → List (Option Count) → List (Option Count) → List ℕ → List ℕ → Type 0
Reaches = ReachesIn IsLeft unknown_count

-- the search has come to the states with at most k moves left, and `level` has those with k
abbrev pub IsSearched : {V : Type 0} {h : Ghosts V} → List (TableState V h) → List (Option Count) → List ℕ → ℕ → Type 0
IsSearched states = IsSearchedIn IsLeft unknown_count (Goes states) (IsEnd states) (length states)

-- n moves are left at the move's target
abbrev pub HasLeft : {V : Type 0} {h : Ghosts V} → List (Option Count) → ℕ → TableArc V h → Type 0
HasLeft left n arc = IsLeft left arc.target n

-- the column and the target are those of the move
abbrev pub IsChoiceOf : {V : Type 0} {h : Ghosts V} → TableArc V h → List Sym → ℕ → Type 0
IsChoiceOf arc column target = (column ≡ first_column arc.class) × (target ≡ arc.target)

-- of the first `upto` moves with n left, the column and the target are those of one with the least
-- column
abbrev pub IsLeastBelow : {V : Type 0} {h : Ghosts V} → List (Option Count) → ℕ → List (TableArc V h) → ℕ → List Sym
    → ℕ → Type 0
IsLeastBelow {V} {h} left n arcs upto column target =
    (arc : TableArc V h) × Contains arcs arc × HasLeft left n arc × IsChoiceOf arc column target
    × ((j : ℕ) (d : TableArc V h) → j < upto → HasLeft left n (slice_index_or arcs j d)
    → is_gt (column_cmp column (first_column (slice_index_or arcs j d).class)) ≡ false)

-- the same for all the moves
abbrev pub IsLeastChoice : {V : Type 0} {h : Ghosts V} → List (Option Count) → ℕ → List (TableArc V h) → List Sym → ℕ
    → Type 0
IsLeastChoice left n arcs column target = IsLeastBelow left n arcs (length arcs) column target

-- some move has n left
abbrev pub HasChoice : {V : Type 0} {h : Ghosts V} → List (Option Count) → ℕ → List (TableArc V h) → Type 0
HasChoice {V} {h} left n arcs = (arc : TableArc V h) × Contains arcs arc × HasLeft left n arc
