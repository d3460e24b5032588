-- The order in which a checker goes through what may be wrong: each fault has a place, which is a list
-- of numbers, and places are compared number by number (this project).
use Rattle.std.specs.Prelude.{ℕ, ◌≡◌, ◌<◌, ◌⊎◌, List, [], ◌∷◌, map}
use Rattle.tier_core.specs.declared.sym.Sym.{Sym}
use Rattle.tier_core.specs.Symbols.{rank}

-- one place is before another: the first number that differs decides, and a longer place comes later
abbrev pub IsBefore : List ℕ → List ℕ → Type 0
IsBefore p [] = ⊥
IsBefore [] (n ∷ ns) = Unit {0}
IsBefore (m ∷ ms) (n ∷ ns) = (m < n) ⊎ ((m ≡ n) × IsBefore ms ns)

-- a column at the end of a place, so that places go in column order
abbrev pub column_place : List Sym → List ℕ
column_place column = map rank column

-- The whole answer is looked at first: its form, its stages and counts, its example, and each count.
abbrev pub at_form : List ℕ
at_form = 0 ∷ []

abbrev pub at_stages : List ℕ
at_stages = 1 ∷ []

abbrev pub at_example : List ℕ
at_example = 2 ∷ []

abbrev pub at_count : ℕ → List ℕ
at_count constraint = 3 ∷ constraint ∷ []

-- Then each stage: all its nodes, whether it has the start, the potential and the moves of each node,
-- and the potential of the start.
abbrev pub in_stage : ℕ → List ℕ → List ℕ
in_stage stage place = 4 ∷ stage ∷ place

abbrev pub at_node : ℕ → ℕ → List ℕ
at_node stage node = in_stage stage (0 ∷ node ∷ [])

abbrev pub at_start : ℕ → List ℕ
at_start stage = in_stage stage (1 ∷ [])

abbrev pub at_final : ℕ → ℕ → List ℕ
at_final stage node = in_stage stage (2 ∷ node ∷ 0 ∷ [])

abbrev pub at_move : ℕ → ℕ → List Sym → List ℕ
at_move stage node column = in_stage stage (2 ∷ node ∷ 1 ∷ column_place column)

abbrev pub at_start_potential : ℕ → List ℕ
at_start_potential stage = in_stage stage (3 ∷ [])

-- Last the automaton: its start, and then each state, with the targets of its arcs, its mark, the
-- columns that stand twice, and all columns.
abbrev pub at_first_state : List ℕ
at_first_state = 5 ∷ []

abbrev pub in_state : ℕ → List ℕ → List ℕ
in_state state place = 6 ∷ state ∷ place

abbrev pub at_target : ℕ → ℕ → List ℕ
at_target state arc = in_state state (0 ∷ arc ∷ [])

abbrev pub at_mark : ℕ → List ℕ
at_mark state = in_state state (1 ∷ [])

abbrev pub at_twice : ℕ → List Sym → List ℕ
at_twice state column = in_state state (2 ∷ column_place column)

abbrev pub at_arcs : ℕ → List Sym → List ℕ
at_arcs state column = in_state state (3 ∷ column_place column)
