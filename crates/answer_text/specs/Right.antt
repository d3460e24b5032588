-- Right answers.
use Rattle.std.specs.Prelude.{ℕ, ◌+◌, ◌≡◌, ◌≤◌, ◌↔◌, IsTrue, List, [], length, map, take, slice_index_or, slice_get, Some, Contains, All, AllPairs}
use Rattle.std.specs.List.Sorted.{IsStrictlySortedBy}
use Rattle.std.specs.Ordering.{nat_cmp, ordering_then}
use Rattle.std.specs.Cmp.Lexicographic.{slice_cmp}
use Rattle.std.specs.declared.cmp.Ordering.{Ordering}
use Rattle.tier_core.specs.declared.sym.Sym.{Sym}
use Rattle.tier_core.specs.declared.constraint.Constraint.{Constraint}
use Rattle.tier_core.specs.Classes.{has, sets_of, AreDisjoint}
use Rattle.tier_core.specs.Orders.{IsFirst}
use Rattle.tier_core.specs.Tiers.{Tiers}
use Rattle.tier_core.specs.Kinds.{PrefixKind, prefix_kind}
use Rattle.violation.specs.Candidates.{IsOptimal, IsLeastVector}
use Rattle.violation.specs.Prefixes.{kind_of, stretches, kind_of_bits}
use Rattle.violation.specs.Stages.{IsPassed, AreKindsOfStage, IsRemaining}
use Rattle.answer_text.specs.declared.stage.Node.{Node}
use Rattle.answer_text.specs.declared.stage.Stage.{Stage}
use Rattle.answer_text.specs.declared.automaton.ArcLine.{ArcLine}
use Rattle.answer_text.specs.declared.automaton.StateLine.{StateLine}
use Rattle.answer_text.specs.declared.answer.Answer.{Answer}
use Rattle.answer_text.specs.Acceptance.{Leads, Accepts}
use Rattle.violation.specs.Problems.{Problem, last_stage}

-- the nodes of a stage
abbrev pub nodes_at : List Stage → ℕ → List Node
nodes_at stages r = slice_index_or (map (λ stage. stage.nodes.items) stages) r []

-- the kinds that the nodes of a stage have, if the stage counts the first r constraints
abbrev pub kinds_at : Problem → ℕ → List Node → List PrefixKind
kinds_at problem r nodes = map (λ node. kind_of_bits problem r node.kind) nodes

-- Stage r is right: its kinds are those of the stage, in kind order, and each potential is what
-- remains from its kind.
pub record IsRightStage (problem : Problem) (r : ℕ) (nodes : List Node) : Type 0 where
  pub kinds : AreKindsOfStage problem r (kinds_at problem r nodes)
  pub potentials : All (λ node. IsRemaining problem r (kind_of_bits problem r node.kind) node.potential) nodes

-- node number n has this kind, under all constraints
pub record IsNodeOf (problem : Problem) (nodes : List Node) (n : ℕ) (k : PrefixKind) : Type 0 where
  pub node : Node
  pub numbered : slice_get nodes n ≡ Some node
  pub tells : kind_of_bits problem (last_stage problem) node.kind ≡ k

-- arcs are ordered by target, then by class, which is compared by the numbers of its sets
abbrev pub arc_cmp : ArcLine → ArcLine → Ordering
arc_cmp a b = ordering_then (nat_cmp a.target b.target) (slice_cmp nat_cmp (sets_of a.class) (sets_of b.class))

-- The arcs of one state: no column is in two of them, each holds some column, has the grammar's
-- width and leads to a state, and they are in order.
pub record AreRightArcs (width : ℕ) (states : List ℕ) (arcs : List ArcLine) : Type 0 where
  pub apart : AllPairs (λ a b. AreDisjoint a.class b.class) arcs
  pub filled : All (λ arc. (column : List Sym) × IsTrue (has arc.class column)) arcs
  pub one_width : All (λ arc. length (sets_of arc.class) ≡ width) arcs
  pub targets : All (λ arc. Contains states arc.target) arcs
  pub in_order : IsStrictlySortedBy arc_cmp arcs

-- the node numbers of the states
abbrev pub numbers_of : List StateLine → List ℕ
numbers_of states = map (λ state. state.node) states

-- The automaton is right, if the last stage has these nodes: its states are the kinds under all
-- constraints of prefixes of optimal candidates, each once and in order; it accepts exactly the
-- optimal candidates; reading a prefix of one ends at the state of its kind; and its arcs are right.
pub record IsRightAutomaton (problem : Problem) (nodes : List Node) (states : List StateLine) : Type 0 where
  pub ascending : IsStrictlySortedBy nat_cmp (numbers_of states)
  pub passed : (n : ℕ) → Contains (numbers_of states) n
      → (k : PrefixKind) × (IsNodeOf problem nodes n k × IsPassed problem (last_stage problem) (last_stage problem) k)
  pub accepts : (T : List (List Sym)) → Accepts states T ↔ IsOptimal problem T
  pub reads : (T : List (List Sym)) (n : ℕ) → IsOptimal problem T → n ≤ length T
      → (m : ℕ) × (Leads states 0 (take n T) m × Contains (numbers_of states) m × IsNodeOf problem nodes m
      (kind_of problem (last_stage problem) (take n T)))
  pub arcs : All (λ state. AreRightArcs problem.tiers.width (numbers_of states) state.arcs.items) states

-- An answer is right for a grammar and the form u.
pub record IsRight (problem : Problem) (answer : Answer) : Type 0 where
  pub form : answer.form ≡ problem.form
  pub counts : IsLeastVector problem answer.counts.items
  pub example : IsFirst (IsOptimal problem) answer.example
  pub stage_count : length answer.stages.items ≡ last_stage problem + 1
  pub each_stage : (r : ℕ) → r ≤ last_stage problem → IsRightStage problem r (nodes_at answer.stages.items r)
  pub automaton : IsRightAutomaton problem
      (nodes_at answer.stages.items (last_stage problem)) answer.automaton.states.items
