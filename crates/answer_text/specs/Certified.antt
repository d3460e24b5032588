-- Certified answers: what a checker looks at, one move at a time and without any search (our design).
-- A potential is at most what a move costs and the potential to which it leads, and 0 at the end. So
-- the potential of the start is a lower bound of what is counted, and the example reaches it.
use Rattle.std.specs.Prelude.{ℕ, zero, suc, ◌+◌, ◌-◌, ◌≡◌, ◌<◌, ◌≤◌, ◌↔◌, IsTrue, List, [], length, slice_index_or, slice_get, Some, Contains, All, AllPairs}
use Rattle.std.specs.List.Sorted.{IsStrictlySortedBy}
use Rattle.std.specs.Ordering.{nat_cmp}
use Rattle.tier_core.specs.declared.sym.Sym.{Sym}
use Rattle.tier_core.specs.declared.constraint.Constraint.{Constraint}
use Rattle.tier_core.specs.Classes.{sets_of, AreDisjoint}
use Rattle.tier_core.specs.Tiers.{Tiers}
use Rattle.tier_core.specs.Kinds.{PrefixKind, prefix_kind, kind_order}
use Rattle.violation.specs.Candidates.{vec, IsForm, IsCandidate, counts_on}
use Rattle.violation.specs.Moves.{FitsKind, next_kind, cost_of, cut_kind, is_final}
use Rattle.violation.specs.Phases.{is_left_open, AreClosedOr}
use Rattle.violation.specs.Prefixes.{kind_of, stretches, kind_of_bits}
use Rattle.answer_text.specs.declared.stage.Node.{Node}
use Rattle.answer_text.specs.declared.stage.Stage.{Stage}
use Rattle.answer_text.specs.declared.automaton.StateLine.{StateLine}
use Rattle.answer_text.specs.declared.answer.Answer.{Answer}
use Rattle.answer_text.specs.Acceptance.{HasArc}
use Rattle.answer_text.specs.Right.{nodes_at, kinds_at, IsNodeOf, numbers_of}
use Rattle.violation.specs.Problems.{Problem, last_stage, last_place}

-- stage r lists the kind k with the potential p
pub record Lists (problem : Problem) (stages : List Stage) (r : ℕ) (k : PrefixKind) (p : ℕ) : Type 0 where
  pub node : Node
  pub listed : Contains (nodes_at stages r) node
  pub tells : kind_of_bits problem r node.kind ≡ k
  pub potential : node.potential ≡ p

-- On a column from the kind k, the potential of stage j falls by just what the column costs under
-- constraint j. Stage j lists k and the kind to which the column leads, both cut to j constraints.
pub record IsTightAt (problem : Problem) (stages : List Stage) (j : ℕ) (k : PrefixKind)
    (column : List Sym) : Type 0 where
  pub before : ℕ
  pub after : ℕ
  pub leaves : Lists problem stages j (cut_kind problem j k) before
  pub arrives : Lists problem stages j (next_kind problem j (cut_kind problem j k) column) after
  pub falls : before ≡ cost_of problem j (cut_kind problem j k) column + after

-- There is a move from k on the column, and it is tight at each stage from 1 to r - 1. Such a move is
-- kept at stage r, and at the end if r is one more than the number of constraints.
pub record IsKeptBelow (problem : Problem) (stages : List Stage) (r : ℕ) (k : PrefixKind)
    (column : List Sym) : Type 0 where
  pub fits : FitsKind problem k column
  pub tight : (j : ℕ) → 1 ≤ j → j < r → IsTightAt problem stages j k column

-- k may be the kind of a prefix under the first r constraints: its place is in the form u, and a
-- phase is closed exactly if some left tier is not open
pub record IsPossibleKind (problem : Problem) (r : ℕ) (k : PrefixKind) : Type 0 where
  pub place : k.place ≤ last_place problem
  pub phases : AreClosedOr (is_left_open problem k) (stretches problem r) k.phases

-- the potential that the start has: 0 at stage 0, and the count of constraint r at stage r
abbrev pub start_potential : List ℕ → ℕ → ℕ
start_potential counts zero = 0
start_potential counts (suc i) = slice_index_or counts i 0

-- Stage r shows that no candidate which the constraints before r leave has less than the count of
-- constraint r. Its kinds are in order, and their cuts are in the stage before. It lists the start
-- first, and with each kind also those to which the moves lead that are kept at r. A potential is at
-- most what such a move costs and the potential to which it leads; it is 0 at a final kind.
pub record IsCertifiedStage (problem : Problem) (counts : List ℕ) (stages : List Stage) (r : ℕ) : Type 0 where
  pub kinds : All (IsPossibleKind problem r) (kinds_at problem r (nodes_at stages r))
  pub ascending : IsStrictlySortedBy kind_order (kinds_at problem r (nodes_at stages r))
  pub cuts : 1 ≤ r → All (λ k. Contains (kinds_at problem (r - 1) (nodes_at stages (r - 1)))
      (cut_kind problem (r - 1) k))
      (kinds_at problem r (nodes_at stages r))
  pub first : slice_get (kinds_at problem r (nodes_at stages r)) 0 ≡ Some (kind_of problem r [])
  pub final : (k : PrefixKind) (p : ℕ) → Lists problem stages r k p → IsTrue (is_final problem k) → p ≡ 0
  pub goes_on : (k : PrefixKind) (p : ℕ) (column : List Sym) → Lists problem stages r k p
      → IsKeptBelow problem stages r k column
      → (q : ℕ) × (Lists problem stages r (next_kind problem r k column) q × (p ≤ cost_of problem r k column + q))
  pub start : (p : ℕ) → Lists problem stages r (kind_of problem r []) p → p ≡ start_potential counts r

-- The automaton has exactly the moves that are kept at the end: node 0 is a state, each arc leads to
-- a state, a state is final exactly if its kind is, no column is in two arcs of a state, and an arc on
-- a column leads from a state to a node exactly if the move is kept and the node has its target.
pub record IsCertifiedAutomaton (problem : Problem) (stages : List Stage) (states : List StateLine) : Type 0 where
  pub start : Contains (numbers_of states) 0
  pub targets : All (λ state. All (λ arc. Contains (numbers_of states) arc.target) state.arcs.items) states
  pub finals : (state : StateLine) (k : PrefixKind) → Contains states state
      → IsNodeOf problem (nodes_at stages (last_stage problem)) state.node k → state.accepting ≡ is_final problem k
  pub once : All (λ state. AllPairs (λ a b. AreDisjoint a.class b.class) state.arcs.items) states
  pub arcs : (n m : ℕ) (k : PrefixKind) (column : List Sym) → Contains (numbers_of states) n
      → IsNodeOf problem (nodes_at stages (last_stage problem)) n k
      → HasArc states n m column ↔ (IsKeptBelow problem stages (last_stage problem + 1) k column
      × IsNodeOf problem (nodes_at stages (last_stage problem)) m (next_kind problem (last_stage problem) k column))

-- An answer is certified for a problem: it is of the problem's form, which has at most 64 columns;
-- there is one stage more than there are constraints; the example is a candidate that has the
-- counts; and its stages and its automaton are certified.
pub record IsCertified (problem : Problem) (answer : Answer) : Type 0 where
  pub form : answer.form ≡ problem.form
  pub well_formed : IsForm problem.tiers problem.form
  pub short : last_place problem ≤ 64
  pub stage_count : length answer.stages.items ≡ last_stage problem + 1
  pub example : IsCandidate problem answer.example
  pub counts : answer.counts.items ≡ counts_on problem answer.example
  pub each_stage : (r : ℕ) → r ≤ last_stage problem
      → IsCertifiedStage problem answer.counts.items answer.stages.items r
  pub automaton : IsCertifiedAutomaton problem answer.stages.items answer.automaton.states.items

-- What is known of the states of every answer that is read: they ascend by their node numbers, and
-- their classes have the grammar's width.
pub record AreStatesInOrder (width : ℕ) (states : List StateLine) : Type 0 where
  pub ascending : IsStrictlySortedBy nat_cmp (numbers_of states)
  pub one_width : All (λ state. All (λ arc. length (sets_of arc.class) ≡ width) state.arcs.items) states
