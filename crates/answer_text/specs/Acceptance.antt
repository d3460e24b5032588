-- Which timelines an automaton accepts.
-- Automata that represent sets of candidates follow Ellison (COLING 1994).
use Rattle.std.specs.Prelude.{ℕ, ◌≡◌, IsTrue, List, [], ◌∷◌, Contains}
use Rattle.tier_core.specs.declared.sym.Sym.{Sym}
use Rattle.tier_core.specs.Classes.{has}
use Rattle.answer_text.specs.declared.automaton.ArcLine.{ArcLine}
use Rattle.answer_text.specs.declared.automaton.StateLine.{StateLine}

-- a state with this node number has an arc to a target, whose class holds the column
pub record HasArc (states : List StateLine) (node target : ℕ) (column : List Sym) : Type 0 where
  pub state : StateLine
  pub arc : ArcLine
  pub listed : Contains states state
  pub from : state.node ≡ node
  pub leaves : Contains state.arcs.items arc
  pub to : arc.target ≡ target
  pub holds : IsTrue (has arc.class column)

-- a state with this node number is final
pub record IsFinalState (states : List StateLine) (node : ℕ) : Type 0 where
  pub state : StateLine
  pub listed : Contains states state
  pub numbered : state.node ≡ node
  pub final : IsTrue state.accepting

-- Reading the columns one by one leads from a node number to another, by an arc for each column.
abbrev pub Leads : List StateLine → ℕ → List (List Sym) → ℕ → Type 0
Leads states node [] last = node ≡ last
Leads states node (column ∷ columns) last =
    (next : ℕ) × (HasArc states node next column × Leads states next columns last)

-- An automaton accepts a timeline if reading it leads from node number 0 to a final state.
pub record Accepts (states : List StateLine) (T : List (List Sym)) : Type 0 where
  pub last : ℕ
  pub leads : Leads states 0 T last
  pub final : IsFinalState states last
