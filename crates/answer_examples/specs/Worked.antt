-- Answers to the empty form over an input tier and an overt tier: without constraints, and under
-- `a -> A`. Nodes and states are given by texts.
use Rattle.std.specs.Prelude.{ℕ, Bool, true, false, List, [], ◌∷◌, map, codes, String}
use Rattle.std.specs.declared.alloc.Global.{Global}
use Rattle.tier_core.specs.Kinds.{PrefixKind}
use Rattle.tier_core.specs.Sets.{single_set}
use Rattle.violation.specs.Examples.{over_two, dep_a, read_kind, read_syms}
use Rattle.violation.specs.Problems.{Problem}
use Rattle.answer_text.specs.Values.{ArcValue, NodeValue, StateValue}
use Rattle.answer_examples.specs.Seen.{node_of}

-- there are no constraints, and the form is empty
abbrev pub unranked_problem : Problem
unranked_problem = over_two [] []

-- a node of place 0, by `+` or `-` for the overt tier, the phases, and its potential
abbrev pub node : List ℕ → List ℕ → ℕ → NodeValue
node opened phases potential = node_of (read_kind 0 opened phases) potential

-- an arc on the columns of sets, and on one column
abbrev pub arc_by : ℕ → List ℕ → ArcValue
arc_by target sets = record { target = target; sets = sets }

abbrev pub arc_on : ℕ → List ℕ → ArcValue
arc_on target column = arc_by target (map single_set (read_syms column))

abbrev pub state : ℕ → Bool → List ArcValue → StateValue
state node accepting arcs = record { node = node; accepting = accepting; arcs = arcs }

-- the one stage, with two kinds
abbrev pub two_kinds : List (List NodeValue)
two_kinds = (node (codes "-") [] 0 ∷ node (codes "+") [] 0 ∷ []) ∷ []

-- the overt tier opens, ends, or ends and opens again
abbrev pub two_states : List StateValue
two_states = state 0 true (arc_on 1 (codes "-[") ∷ [])
    ∷ state 1 false (arc_on 0 (codes "-]") ∷ arc_on 1 (codes "-|") ∷ []) ∷ []

-- `a -> A` is ranked alone, whatever its name, and the form is empty
abbrev pub under_dep : String Global → Problem
under_dep name = over_two (dep_a name ∷ []) []

-- at stage 1 a violation remains if the overt tier is open
abbrev pub dep_kinds : List (List NodeValue)
dep_kinds = (node (codes "-") [] 0 ∷ node (codes "+") [] 0 ∷ [])
    ∷ (node (codes "-") (codes ".") 0 ∷ node (codes "+") (codes "u") 1 ∷ []) ∷ []
