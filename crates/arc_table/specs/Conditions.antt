-- What the states of every table satisfy.
use Rattle.std.specs.Prelude.{◌≡◌, ℕ, ◌<◌, List, Contains, AllPairs, IsTrue, length}
use Rattle.weight_law.specs.declared.Weight.{Ghosts}
use Rattle.tier_core.specs.Classes.{sets_of, AreDisjoint}
use Rattle.tier_core.specs.Filled.{is_filled}
use Rattle.arc_table.specs.declared.arc.TableArc.{TableArc}
use Rattle.arc_table.specs.declared.state.TableState.{TableState}
use Rattle.arc_table.specs.Moves.{moves_at}

-- each move leads to a state
abbrev pub TargetsExist : {W : Type 0} {g : Ghosts W} → List (TableState W g) → Type 0
TargetsExist {W} {g} states = (s : ℕ) (arc : TableArc W g) → Contains (moves_at states s) arc
    → arc.target < length states

-- the classes of one state's moves are disjoint, so a column leads to at most one state
abbrev pub ClassesDisjoint : {W : Type 0} {g : Ghosts W} → List (TableState W g) → Type 0
ClassesDisjoint states = (s : ℕ) → AllPairs (λ a b. AreDisjoint a.class b.class) (moves_at states s)

-- no class is empty
abbrev pub ClassesFilled : {W : Type 0} {g : Ghosts W} → List (TableState W g) → Type 0
ClassesFilled {W} {g} states = (s : ℕ) (arc : TableArc W g) → Contains (moves_at states s) arc
    → IsTrue (is_filled arc.class)

-- all classes have one width
abbrev pub OneWidth : {W : Type 0} {g : Ghosts W} → List (TableState W g) → Type 0
OneWidth {W} {g} states =
    (s t : ℕ) (a b : TableArc W g) → Contains (moves_at states s) a → Contains (moves_at states t) b
    → length (sets_of a.class) ≡ length (sets_of b.class)
