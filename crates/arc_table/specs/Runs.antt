-- Runs of a table: its moves from a state to an accepting one, what they weigh and what they read.
use Rattle.std.specs.Prelude.{◌≡◌, ℕ, ◌*◌, ◌≤◌, List, [], ◌∷◌, Contains, IsTrue, length}
use Rattle.weight_law.specs.declared.Weight.{Ghosts}
use Rattle.weight_law.specs.Meaning.{AtMost}
use Rattle.tier_core.specs.declared.sym.Sym.{Sym}
use Rattle.tier_core.specs.Classes.{has}
use Rattle.arc_table.specs.declared.arc.TableArc.{TableArc}
use Rattle.arc_table.specs.declared.state.TableState.{TableState}
use Rattle.arc_table.specs.Moves.{moves_at, accepting_at}

-- a run from state s: moves, one after another, to an accepting state
abbrev pub IsRun : {W : Type 0} {g : Ghosts W} → List (TableState W g) → ℕ → List (TableArc W g) → Type 0
IsRun states s [] = IsTrue (accepting_at states s)
IsRun states s (arc ∷ arcs) = Contains (moves_at states s) arc × IsRun states arc.target arcs

-- the sum of the moves' weights
abbrev pub weight_of : {W : Type 0} {g : Ghosts W} → List (TableArc W g) → W
weight_of {W} {g} [] = g.meaning.zero
weight_of {W} {g} (arc ∷ arcs) = g.meaning.sum arc.weight (weight_of arcs)

-- the moves' classes contain the word's columns in turn
abbrev pub Reads : {W : Type 0} {g : Ghosts W} → List (TableArc W g) → List (List Sym) → Type 0
Reads [] [] = Unit {0}
Reads [] (column ∷ word) = ⊥
Reads (arc ∷ arcs) [] = ⊥
Reads (arc ∷ arcs) (column ∷ word) = IsTrue (has arc.class column) × Reads arcs word

-- a run from the start that reads the word
pub record AcceptingRun {W : Type 0} {g : Ghosts W} (states : List (TableState W g)) (word : List (List Sym))
    (arcs : List (TableArc W g)) : Type 0 where
  pub run : IsRun states 0 arcs
  pub reads : Reads arcs word

abbrev pub Accepts : {W : Type 0} {g : Ghosts W} → List (TableState W g) → List (List Sym) → Type 0
Accepts {W} {g} states word = (arcs : List (TableArc W g)) × AcceptingRun states word arcs

-- the word is accepted, and no accepted word weighs less
abbrev pub IsLeastWord : {W : Type 0} {g : Ghosts W} → List (TableState W g) → List (List Sym) → Type 0
IsLeastWord {W} {g} states word =
    (arcs : List (TableArc W g)) × AcceptingRun states word arcs
    × ((other : List (List Sym)) (others : List (TableArc W g)) → AcceptingRun states other others
    → AtMost g.meaning (weight_of arcs) (weight_of others))

-- w is the least weight of a run from state s
pub record IsLeastFrom {W : Type 0} {g : Ghosts W} (states : List (TableState W g)) (s : ℕ) (w : W) : Type 0 where
  pub some : (arcs : List (TableArc W g)) × IsRun states s arcs × (weight_of arcs ≡ w)
  pub least : (arcs : List (TableArc W g)) → IsRun states s arcs → AtMost g.meaning w (weight_of arcs)

-- no run from state s
abbrev pub HasNoRun : {W : Type 0} {g : Ghosts W} → List (TableState W g) → ℕ → Type 0
HasNoRun {W} {g} states s = (arcs : List (TableArc W g)) → IsRun states s arcs → ⊥

-- the number of states times the size of any arc is at most n
abbrev pub SizesWithin : {W : Type 0} {g : Ghosts W} → List (TableState W g) → ℕ → Type 0
SizesWithin {W} {g} states n = (s : ℕ) (arc : TableArc W g) → Contains (moves_at states s) arc
    → length states * g.meaning.size arc.weight ≤ n

-- moves, one after another, from state s to state t
abbrev pub IsPath : {W : Type 0} {g : Ghosts W} → List (TableState W g) → ℕ → List (TableArc W g) → ℕ → Type 0
IsPath states s [] t = s ≡ t
IsPath states s (arc ∷ arcs) t = Contains (moves_at states s) arc × IsPath states arc.target arcs t

-- a path from the start leads to state k, and a run goes on from it
abbrev pub IsOnRun : {W : Type 0} {g : Ghosts W} → List (TableState W g) → ℕ → Type 0
IsOnRun {W} {g} states k =
    (before : List (TableArc W g)) × IsPath states 0 before k × ((after : List (TableArc W g)) × IsRun states k after)
