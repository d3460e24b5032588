-- The answer to the form `[ ]` over an input tier A and an overt tier a, where `a # a` is ranked
-- above `A -> a`, and this above `a -> A`, whatever their names.
use Rattle.std.specs.Prelude.{ℕ, zero, suc, ◌+◌, Bool, true, false, List, [], ◌∷◌, ◌++◌, take, drop, codes, slice_set, String}
use Rattle.std.specs.declared.alloc.Global.{Global}
use Rattle.tier_core.specs.declared.constraint.Constraint.{Constraint}
use Rattle.tier_core.specs.declared.constraint.Family.TheVariants.{Clash}
use Rattle.tier_core.specs.declared.sym.Sym.{Sym}
use Rattle.tier_core.specs.Kinds.{PrefixKind}
use Rattle.violation.specs.Examples.{over_two, dep_a, max_a, read_kind, timeline, types}
use Rattle.violation.specs.Problems.{Problem}
use Rattle.answer_text.specs.declared.answer.Answer.{Answer}
use Rattle.answer_text.specs.Certified.{IsCertified}
use Rattle.answer_text.specs.Values.{ArcValue, NodeValue, StateValue}
use Rattle.answer_examples.specs.Seen.{IsSeenAs, node_of}
use Rattle.answer_examples.specs.Worked.{arc_on, state}

-- `a # a`
abbrev pub one_a : String Global → Constraint
one_a name = record {
  name = name;
  family = Clash;
  left = types (codes "Aa") (codes "a");
  right = types (codes "Aa") (codes "a");
}

abbrev pub one_max_dep_on : List (List Sym) → String Global → String Global → String Global
    → Problem
one_max_dep_on form one max dep = over_two (one_a one ∷ max_a max ∷ dep_a dep ∷ []) form

abbrev pub under_one_max_dep : String Global → String Global → String Global → Problem
under_one_max_dep = one_max_dep_on (timeline (codes "[ ]"))

-- the kind of a place, by `+` or `-` for the overt tier and the phases, and its potential
abbrev pub node_at : ℕ → List ℕ → List ℕ → ℕ → NodeValue
node_at place opened phases potential = node_of (read_kind place opened phases) potential

-- each place with the overt tier shut or open, if 1 or nothing remains while it is open
abbrev pub six_nodes : ℕ → List NodeValue
six_nodes remains = node_at 0 (codes "-") [] 0 ∷ node_at 0 (codes "+") [] remains
    ∷ node_at 1 (codes "-") [] 0 ∷ node_at 1 (codes "+") [] remains
    ∷ node_at 2 (codes "-") [] 0 ∷ node_at 2 (codes "+") [] remains ∷ []

-- each place with the overt tier shut: under `A -> a`, and under `a -> A` too
abbrev pub nodes_of_max : List NodeValue
nodes_of_max = node_at 0 (codes "-") (codes ".") 1 ∷ node_at 1 (codes "-") (codes "u") 1
    ∷ node_at 2 (codes "-") (codes ".") 0 ∷ []

abbrev pub nodes_of_dep : List NodeValue
nodes_of_dep = node_at 0 (codes "-") (codes "..") 0 ∷ node_at 1 (codes "-") (codes "u.") 0
    ∷ node_at 2 (codes "-") (codes "..") 0 ∷ []

abbrev pub four_stages : List (List NodeValue)
four_stages = six_nodes 0 ∷ six_nodes 1 ∷ nodes_of_max ∷ nodes_of_dep ∷ []

-- three states: whether each is final, and its arcs
abbrev pub states_with : Bool → List ArcValue → Bool → List ArcValue → Bool
    → List ArcValue → List StateValue
states_with a first b second c third = state 0 a first ∷ state 1 b second ∷ state 2 c third ∷ []

abbrev pub first_arcs : List ArcValue
first_arcs = arc_on 1 (codes "[-") ∷ []

abbrev pub second_arcs : List ArcValue
second_arcs = arc_on 2 (codes "]-") ∷ []

-- the automaton of `[- ]-`
abbrev pub three_states : List StateValue
three_states = states_with false first_arcs false second_arcs true []

-- the candidate without any a
abbrev pub only_optimal : List (List Sym)
only_optimal = timeline (codes "[- ]-")

abbrev pub least_counts : List ℕ
least_counts = 0 ∷ 1 ∷ 0 ∷ []

-- an answer to a form under the three, which says what the right one to `[ ]` says
abbrev pub IsAnswerOn : List (List Sym) → String Global → String Global → String Global → Answer
    → Type 0
IsAnswerOn form one max dep answer =
    IsSeenAs (one_max_dep_on form one max dep) answer least_counts only_optimal four_stages
    three_states

-- for this form it is not certified, whatever the names of the constraints
abbrev pub IsFormRefused : List (List Sym) → Type 0
IsFormRefused form = (one max dep : String Global) (answer : Answer)
    → IsAnswerOn form one max dep answer → IsCertified (one_max_dep_on form one max dep) answer → ⊥

-- an answer to `[ ]` that says this is not certified
abbrev pub IsRefused : List ℕ → List (List Sym) → List (List NodeValue) → List StateValue
    → Type 0
IsRefused counts example stages states = (one max dep : String Global) (answer : Answer)
    → IsSeenAs (under_one_max_dep one max dep) answer counts example stages states
    → IsCertified (under_one_max_dep one max dep) answer → ⊥

-- the right one with another head, with other stages, with one other stage, or with other states
abbrev pub IsHeadRefused : List ℕ → List (List Sym) → Type 0
IsHeadRefused counts example = IsRefused counts example four_stages three_states

abbrev pub AreStagesRefused : List (List NodeValue) → Type 0
AreStagesRefused stages = IsRefused least_counts only_optimal stages three_states

abbrev pub IsStageRefused : ℕ → List NodeValue → Type 0
IsStageRefused r nodes = AreStagesRefused (slice_set four_stages r nodes)

abbrev pub AreStatesRefused : List StateValue → Type 0
AreStatesRefused states = IsRefused least_counts only_optimal four_stages states

-- nodes of which number i has another potential, or another kind, or is not there
abbrev pub with_potential : List NodeValue → ℕ → ℕ → List NodeValue
with_potential [] i potential = []
with_potential (node ∷ nodes) zero potential = node_of node.kind potential ∷ nodes
with_potential (node ∷ nodes) (suc i) potential = node ∷ with_potential nodes i potential

abbrev pub with_kind : List NodeValue → ℕ → PrefixKind → List NodeValue
with_kind [] i kind = []
with_kind (node ∷ nodes) zero kind = node_of kind node.potential ∷ nodes
with_kind (node ∷ nodes) (suc i) kind = node ∷ with_kind nodes i kind

abbrev pub without : ℕ → List NodeValue → List NodeValue
without i nodes = take i nodes ++ drop (i + 1) nodes
