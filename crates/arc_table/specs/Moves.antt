-- The moves of a table. A state's number is its place in the list of states.
use Rattle.std.specs.Prelude.{ℕ, List, [], Bool, false, map, slice_index_or}
use Rattle.weight_law.specs.declared.Weight.{Ghosts}
use Rattle.arc_table.specs.declared.arc.TableArc.{TableArc}
use Rattle.arc_table.specs.declared.state.TableState.{TableState}

-- the moves from a state, and none if there is no such state
abbrev pub moves_at : {W : Type 0} {g : Ghosts W} → List (TableState W g) → ℕ → List (TableArc W g)
moves_at states s = slice_index_or (map (λ state. state.arcs.items) states) s []

-- whether a state is accepting
abbrev pub accepting_at : {W : Type 0} {g : Ghosts W} → List (TableState W g) → ℕ → Bool
accepting_at states s = slice_index_or (map (λ state. state.accepting) states) s false
