-- The lines that an answer has for the states of a table, where each state has a node number.
use Rattle.std.specs.Prelude.{ℕ, ◌≡◌, ◌<◌, List, Option, None, Some, map, length, slice_index, slice_index_or, Contains}
use Rattle.std.specs.List.Sorted.{IsStrictlySortedBy}
use Rattle.std.specs.Ordering.{nat_cmp}
use Rattle.weight_law.specs.declared.Weight.{Ghosts}
use Rattle.arc_table.specs.declared.arc.TableArc.{TableArc}
use Rattle.arc_table.specs.declared.state.TableState.{TableState}
use Rattle.arc_table.specs.Moves.{moves_at, accepting_at}
use Rattle.answer_text.specs.declared.automaton.ArcLine.{ArcLine}
use Rattle.answer_text.specs.declared.automaton.StateLine.{StateLine}
use Rattle.answer_text.specs.Right.{arc_cmp, numbers_of}
use Rattle.kind_orders.specs.JoinedLines.{AreJoinedFrom}

-- the node number of each state, given the kind that each state stands for and the rank of each
-- kind
abbrev pub state_nodes : List ℕ → List ℕ → List ℕ
state_nodes ranks states = map (slice_index ranks) states

-- the line of a move: it leads to the node of the move's target, on the columns of the move
abbrev pub line_of : {W : Type 0} {g : Ghosts W} → List ℕ → TableArc W g → ArcLine
line_of nodes arc = record { target = slice_index nodes arc.target; class = arc.class }

-- The line of a state: it has the state's node number, is final if the state accepts, and has the
-- arcs that are joined from the lines of the state's moves, in order.
pub record IsLineOf {W : Type 0} {g : Ghosts W} (kept : List (TableState W g)) (nodes : List ℕ) (state : ℕ)
    (line : StateLine) : Type 0 where
  pub node : line.node ≡ slice_index nodes state
  pub final : line.accepting ≡ accepting_at kept state
  pub arcs : AreJoinedFrom (map (line_of nodes) (moves_at kept state)) line.arcs.items
  pub in_order : IsStrictlySortedBy arc_cmp line.arcs.items

-- a line for each state and no other, by node numbers
pub record AreLinesOf {W : Type 0} {g : Ghosts W} (kept : List (TableState W g)) (nodes : List ℕ)
    (lines : List StateLine) : Type 0 where
  pub ascending : IsStrictlySortedBy nat_cmp (numbers_of lines)
  pub each : (line : StateLine) → Contains lines line
      → (state : ℕ) × (state < length kept) × IsLineOf kept nodes state line
  pub every : (state : ℕ) → state < length kept
      → (line : StateLine) × Contains lines line × IsLineOf kept nodes state line

-- the state of each node number, if it is one of the first n states
pub record AreByNode (nodes : List ℕ) (n : ℕ) (states : List (Option ℕ)) : Type 0 where
  pub forth : (state : ℕ) → state < n → slice_index_or states (slice_index nodes state) None ≡ Some state
  pub back : (node state : ℕ) → slice_index_or states node None ≡ Some state
      → (state < n) × (slice_index nodes state ≡ node)
