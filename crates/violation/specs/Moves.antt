-- Moves of kinds: from the kind of a prefix, by one more column, to the kind of the longer prefix
-- (this project). Ellison (1994) walks the paths of an automaton in this way; here its states are
-- kinds.
use Rattle.std.specs.Prelude.{ℕ, ◌+◌, ◌-◌, ◌==◌, ◌≡◌, ◌<◌, ◌⊎◌, Bool, true, false, not, ◌&&◌, ◌||◌, if◌then◌else◌, IsTrue, List, [], ◌∷◌, ◌++◌, length, map, take, drop, slice_index_or}
use Rattle.std.specs.List.{list_all, list_any, range_with_len}
use Rattle.tier_core.specs.declared.sym.Sym.{Sym}
use Rattle.tier_core.specs.declared.event.Event.{Event}
use Rattle.tier_core.specs.declared.constraint.Constraint.{Constraint}
use Rattle.tier_core.specs.declared.constraint.Family.{Family}
use Rattle.tier_core.specs.declared.constraint.Family.TheVariants.{Implication, Clash}
use Rattle.tier_core.specs.Scan.{fits, opens}
use Rattle.tier_core.specs.Timelines.{symbol, tier_word, column_at, has_edge}
use Rattle.tier_core.specs.Tiers.{Tiers}
use Rattle.tier_core.specs.Kinds.{Phase, closed, unmet, met, PrefixKind}
use Rattle.tier_core.specs.Sides.{has_edge_type, edge_among, is_stretch}
use Rattle.violation.specs.Counts.{choice_types}
use Rattle.violation.specs.Columns.{is_present, opens_interior, opens_all, edge_cost}
use Rattle.violation.specs.Prefixes.{is_open, stretches}
use Rattle.violation.specs.Problems.{Problem, last_place}

-- the input part of a column
abbrev pub input_of : Tiers → List Sym → List Sym
input_of tiers column = map (symbol column) tiers.input

-- the flag of a tier, given one flag for each tier of a list
abbrev pub flag_of : List ℕ → List Bool → ℕ → Bool
flag_of [] flags t = false
flag_of (x ∷ xs) [] t = false
flag_of (x ∷ xs) (flag ∷ flags) t = if x == t then flag else flag_of xs flags t

-- whether each input tier is open after the first columns of the form u
abbrev pub form_opened : Tiers → List (List Sym) → ℕ → List Bool
form_opened tiers u place = map (λ j. is_open (tier_word (take place u) j)) (range_with_len 0 (length tiers.input))

-- whether a tier is open at a kind: an input tier if it is open after the first PLACE columns of
-- the form, a free tier if the kind says so
abbrev pub is_tier_open : Problem → PrefixKind → ℕ → Bool
is_tier_open problem k t = flag_of problem.tiers.input
    (form_opened problem.tiers problem.form k.place) t || flag_of problem.tiers.free k.opened t

-- A column fits a kind: on each tier its symbol may come next, given whether the tier is open; it
-- has an edge; and its input part has no edge, or is the form's column at PLACE.
pub record FitsKind (problem : Problem) (k : PrefixKind) (column : List Sym) : Type 0 where
  pub width : length column ≡ problem.tiers.width
  pub symbols : (t : ℕ) → t < problem.tiers.width → IsTrue (fits (is_tier_open problem k t) (symbol column t))
  pub edge : IsTrue (has_edge column)
  pub input : (has_edge (input_of problem.tiers column) ≡ false) ⊎
      ((k.place < last_place problem) × (input_of problem.tiers column ≡ column_at problem.form k.place))

abbrev pub is_unmet_phase : Phase → Bool
is_unmet_phase closed = false
is_unmet_phase unmet = true
is_unmet_phase met = false

abbrev pub is_met_phase : Phase → Bool
is_met_phase closed = false
is_met_phase unmet = false
is_met_phase met = true

-- The next phase of a stretch implication. It is closed if some left tier is not open after the
-- column. Otherwise it is met if an interior on the right is open after the column, or, if no
-- stretch begins here, it was met or an event of a right type is present at the column.
abbrev pub next_phase : List Event → List Event → Phase → List Sym → Phase
next_phase left right phase column =
    if opens_all left column
    then (if (if edge_among left column then false else
    (is_met_phase phase || list_any (is_present column) right)) || list_any
    (opens_interior column) right then met else unmet)
    else closed

-- the next phases of some stretch implications
abbrev pub next_phases : List Constraint → List Phase → List Sym → List Phase
next_phases [] phases column = []
next_phases (c ∷ cs) [] column = []
next_phases (c ∷ cs) (phase ∷ phases) column = next_phase c.left c.right phase column ∷ next_phases cs phases column

-- The kind that a column leads to, if it fits, under the first r constraints: PLACE grows by one
-- if the input part has an edge, and a free tier is open if its symbol is `+`, `[` or `|`.
abbrev pub next_kind : Problem → ℕ → PrefixKind → List Sym → PrefixKind
next_kind problem r k column = record {
  place = k.place + (if has_edge (input_of problem.tiers column) then 1 else 0);
  opened = map (λ t. opens (symbol column t)) problem.tiers.free;
  phases = next_phases (stretches problem r) k.phases column;
}

-- Whether a column costs 1, if `opened` says which tiers are open before it and `phase` is that of
-- a stretch implication. With an edge among the chosen types the column alone decides. A clash of
-- interiors counts if all its tiers are open and one has an edge, a stretch implication if it is
-- unmet and a left tier has an edge.
abbrev pub costs : Family → List Event → List Event → (ℕ → Bool) → Phase → List Sym → Bool
costs family left right opened phase column =
    if has_edge_type (choice_types family left right) then edge_cost family left right column else interior_costs family
  where
    interior_costs : Family → Bool
    interior_costs Clash = list_all (λ e. opened e.tier) (left ++ right) && edge_among (left ++ right) column
    interior_costs Implication = is_unmet_phase phase && edge_among left column

-- the first of the phases; closed if there is none
abbrev pub first_phase : List Phase → Phase
first_phase [] = closed
first_phase (phase ∷ phases) = phase

-- what a column costs under each of some constraints; each stretch implication among them takes
-- the next phase
abbrev pub costs_each : List Constraint → (ℕ → Bool) → List Phase → List Sym → List ℕ
costs_each [] opened phases column = []
costs_each (c ∷ cs) opened phases column =
    (if costs c.family c.left c.right opened (first_phase phases) column then 1 else 0)
    ∷ costs_each cs opened (if is_stretch c then drop 1 phases else phases) column

-- the costs of the move from a kind under the first r constraints by a column: one for each of
-- these
abbrev pub move_costs : Problem → ℕ → PrefixKind → List Sym → List ℕ
move_costs problem r k column = costs_each (take r problem.constraints) (is_tier_open problem k) k.phases column

-- what a column costs from a kind under constraint r, counted from 1; 0 if r is 0
abbrev pub cost_of : Problem → ℕ → PrefixKind → List Sym → ℕ
cost_of problem r k column = slice_index_or (move_costs problem r k column) (r - 1) 0

-- a kind cut to the first r constraints
abbrev pub cut_kind : Problem → ℕ → PrefixKind → PrefixKind
cut_kind problem r k = record {
  place = k.place;
  opened = k.opened;
  phases = take (length (stretches problem r)) k.phases;
}

-- A kind is final if PLACE is the form's number of columns and no free tier is open.
abbrev pub is_final : Problem → PrefixKind → Bool
is_final problem k = (k.place == last_place problem) && not (list_any (λ flag. flag) k.opened)
