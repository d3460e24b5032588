-- Answers within the limits of what is read. A reader gives such answers, and a checker asks for one.
use Rattle.std.specs.Prelude.{◌≡◌, ℕ, ◌-◌, ◌<◌, ◌≤◌, List, length, All}
use Rattle.std.specs.List.{AllByRecursion}
use Rattle.std.specs.List.Sorted.{IsStrictlySortedBy}
use Rattle.std.specs.Ordering.{nat_cmp}
use Rattle.tier_core.specs.declared.shape.Shape.{Shape}
use Rattle.tier_core.specs.Classes.{sets_of}
use Rattle.tier_core.specs.KindShapes.{FitsShape}
use Rattle.tier_core.specs.Shapes.{masked_count}
use Rattle.answer_text.specs.declared.stage.Node.{Node}
use Rattle.answer_text.specs.declared.stage.Stage.{Stage}
use Rattle.answer_text.specs.declared.automaton.ArcLine.{ArcLine}
use Rattle.answer_text.specs.declared.automaton.StateLine.{StateLine}
use Rattle.answer_text.specs.declared.answer.Answer.{Answer}
use Rattle.answer_text.specs.Right.{nodes_at, numbers_of}

-- Stage r has at most 65,536 nodes. Their kinds fit the shape at r, and their potentials are at most
-- 1,000,000,000.
pub record IsReadableStage (shape : Shape) (r : ℕ) (nodes : List Node) : Type 0 where
  pub few : length nodes ≤ 65536
  pub fits : All (λ node. FitsShape shape r node.kind) nodes
  pub potentials : All (λ node. node.potential ≤ 1000000000) nodes

-- Each stage is readable.
abbrev pub AreReadableStages : Shape → List Stage → Type 0
AreReadableStages shape stages = (r : ℕ) → r < length stages → IsReadableStage shape r (nodes_at stages r)

-- the nodes of the last stage; none if there is no stage
abbrev pub last_nodes : List Stage → List Node
last_nodes stages = nodes_at stages (length stages - 1)

-- An arc's class has the grammar's width, and its target is one of the nodes.
pub record IsReadableArc (width nodes : ℕ) (arc : ArcLine) : Type 0 where
  pub wide : length (sets_of arc.class) ≡ width
  pub target : arc.target < nodes

-- A state is one of the nodes, and its arcs are readable.
pub record IsReadableState (width nodes : ℕ) (state : StateLine) : Type 0 where
  pub node : state.node < nodes
  pub arcs : All (IsReadableArc width nodes) state.arcs.items

-- States ascend strictly by node, and each of them is readable.
pub record AreReadableStates (width nodes : ℕ) (states : List StateLine) : Type 0 where
  pub ascending : IsStrictlySortedBy nat_cmp (numbers_of states)
  pub each : All (IsReadableState width nodes) states

-- An answer is readable for a shape: its widths and bits fit the shape; it has at most 24 counts, and
-- at most one stage more than there are constraints; its numbers, the nodes of its stages and the
-- columns of its example are within their limits; its states ascend strictly; and each state and each
-- target is a node of the last stage. So an answer without stages has no states.
pub record IsReadable (shape : Shape) (answer : Answer) : Type 0 where
  pub form_width : AllByRecursion (λ column. length column ≡ masked_count shape.inputs) answer.form
  pub example_width : AllByRecursion (λ column. length column ≡ shape.width) answer.example
  pub example_size : length answer.example ≤ 65536
  pub few_counts : length answer.counts.items ≤ 24
  pub counts : All (λ n. n ≤ 1000000000) answer.counts.items
  pub few_stages : length answer.stages.items ≤ length shape.phases.items
  pub stages : AreReadableStages shape answer.stages.items
  pub states : AreReadableStates shape.width (length (last_nodes answer.stages.items)) answer.automaton.states.items
