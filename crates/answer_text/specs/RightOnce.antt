-- Right answers of a single pass.
use Rattle.std.specs.Prelude.{◌≡◌, ℕ, List, length, map, All}
use Rattle.weight_law.specs.Ranked.{IsOfVector}
use Rattle.tier_core.specs.declared.sym.Sym.{Sym}
use Rattle.tier_core.specs.declared.constraint.Constraint.{Constraint}
use Rattle.tier_core.specs.Kinds.{PrefixKind}
use Rattle.tier_core.specs.Orders.{IsFirst}
use Rattle.tier_core.specs.Tiers.{Tiers}
use Rattle.violation.specs.Candidates.{IsOptimal, IsLeastVector}
use Rattle.violation.specs.Prefixes.{kind_of_bits}
use Rattle.violation.specs.Rests.{AreWholeKinds, IsLeastRestVector}
use Rattle.answer_text.specs.declared.once_answer.OnceNode.{OnceNode}
use Rattle.answer_text.specs.declared.once_answer.OnceAnswer.{OnceAnswer}
use Rattle.answer_text.specs.declared.stage.Node.{Node}
use Rattle.answer_text.specs.Right.{IsRightAutomaton}
use Rattle.violation.specs.Problems.{Problem, last_stage}

-- the kind that a node has, under all constraints
abbrev pub kind_told : Problem → OnceNode → PrefixKind
kind_told problem node = kind_of_bits problem (last_stage problem) node.kind

-- the nodes without potentials, as an automaton sees them
abbrev pub bare_nodes : List OnceNode → List Node
bare_nodes nodes = map (λ node. record { kind = node.kind; potential = 0 }) nodes

-- the potential of a node is the least vector that remains from its kind
pub record IsRightPotential (problem : Problem) (node : OnceNode) : Type 0 where
  pub vector : List ℕ
  pub least : IsLeastRestVector problem (kind_told problem node) vector
  pub parts : IsOfVector node.potential vector

-- An answer of a single pass is right for a grammar and the form u: its form, its counts and its
-- example are those of a right answer; its nodes are exactly the kinds under all constraints of prefixes
-- of candidates, in kind order, each with the least vector that remains from it; and its automaton is
-- that of the optimal candidates, whose states have the numbers of these nodes.
pub record IsRightOnce (problem : Problem) (answer : OnceAnswer) : Type 0 where
  pub form : answer.form ≡ problem.form
  pub counts : IsLeastVector problem answer.counts.items
  pub example : IsFirst (IsOptimal problem) answer.example
  pub kinds : AreWholeKinds problem (map (kind_told problem) answer.nodes.items)
  pub potentials : All (IsRightPotential problem) answer.nodes.items
  pub automaton : IsRightAutomaton problem (bare_nodes answer.nodes.items) answer.automaton.states.items
