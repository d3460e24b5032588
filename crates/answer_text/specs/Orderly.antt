-- Orderly answers: those whose text is read again.
use Rattle.std.specs.Prelude.{◌≡◌, ℕ, ◌+◌, ◌<◌, ◌≤◌, List, length, map, All}
use Rattle.std.specs.List.{AllByRecursion}
use Rattle.std.specs.List.Sorted.{IsStrictlySortedBy}
use Rattle.tier_core.specs.declared.shape.Shape.{Shape}
use Rattle.tier_core.specs.Classes.{sets_of}
use Rattle.tier_core.specs.Kinds.{kind_order}
use Rattle.tier_core.specs.KindShapes.{kind_in}
use Rattle.tier_core.specs.Shapes.{masked_count}
use Rattle.timeline_text.specs.Texts.{IsTextOf, text_of}
use Rattle.answer_text.specs.declared.stage.Node.{Node}
use Rattle.answer_text.specs.declared.automaton.StateLine.{StateLine}
use Rattle.answer_text.specs.declared.answer.Answer.{Answer}
use Rattle.answer_text.specs.Readable.{AreReadableStates, last_nodes}
use Rattle.answer_text.specs.Right.{nodes_at, arc_cmp}

-- Stage r has at most 65,536 nodes. They ascend strictly in kind order, as the shape tells their kinds;
-- their places are within a form with this many columns, and their potentials at most 1,000,000,000.
pub record AreOrderedNodes (shape : Shape) (columns r : ℕ) (nodes : List Node) : Type 0 where
  pub few : length nodes ≤ 65536
  pub places : All (λ node. node.kind.place ≤ columns) nodes
  pub potentials : All (λ node. node.potential ≤ 1000000000) nodes
  pub ascending : IsStrictlySortedBy kind_order (map (λ node. kind_in shape r node.kind) nodes)

-- The arcs of a state ascend strictly, and each set of their classes has a symbol: its number is 1 to 31.
pub record AreOrderedArcs (state : StateLine) : Type 0 where
  pub filled : All (λ arc. AllByRecursion (λ set. (1 ≤ set) × (set < 32)) (sets_of arc.class)) state.arcs.items
  pub ascending : IsStrictlySortedBy arc_cmp state.arcs.items

-- An answer is orderly for a shape: its form and its example are well formed and reduced; it has a count
-- of at most 1,000,000,000 for each constraint, and some stages, but no more than the shape; its nodes
-- and arcs ascend; and its states are readable. No more is asked of the bits of a kind than its text shows.
pub record IsOrderly (shape : Shape) (answer : Answer) : Type 0 where
  pub form : IsTextOf (masked_count shape.inputs) 64 (text_of answer.form) answer.form
  pub example : IsTextOf shape.width 65536 (text_of answer.example) answer.example
  pub one_each : length answer.counts.items + 1 ≡ length shape.phases.items
  pub counts : All (λ n. n ≤ 1000000000) answer.counts.items
  pub some_stage : 1 ≤ length answer.stages.items
  pub few_stages : length answer.stages.items ≤ length shape.phases.items
  pub nodes : (r : ℕ) → r < length answer.stages.items
      → AreOrderedNodes shape (length answer.form) r (nodes_at answer.stages.items r)
  pub states : AreReadableStates shape.width (length (last_nodes answer.stages.items)) answer.automaton.states.items
  pub arcs : All AreOrderedArcs answer.automaton.states.items
