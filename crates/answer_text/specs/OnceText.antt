-- The text of what a single pass finds, line by line.
use Rattle.std.specs.Prelude.{ℕ, ◌-◌, List, [], ◌∷◌, ◌++◌, length, map, take, codes}
use Rattle.std.specs.Fmt.{decimal}
use Rattle.tier_core.specs.declared.shape.Shape.{Shape}
use Rattle.tier_core.specs.Kinds.{prefix_kind}
use Rattle.tier_core.specs.KindShapes.{free_count, stretch_count}
use Rattle.timeline_text.specs.Texts.{text_of}
use Rattle.answer_text.specs.declared.once_answer.OnceNode.{OnceNode}
use Rattle.answer_text.specs.declared.once_answer.OnceAnswer.{OnceAnswer}
use Rattle.answer_text.specs.Text.{automaton_lines, counts_line, kind_text, lines_text, spaced_numbers}

-- what the lines take from a grammar: how many free tiers, stretch implications and constraints it has
pub record OnceWidths : Type 0 where
  pub free : ℕ
  pub stretches : ℕ
  pub constraints : ℕ

-- what a shape tells of the grammar's; its last stage has all constraints
abbrev pub once_widths_of : Shape → OnceWidths
once_widths_of shape = record {
  free = free_count shape;
  stretches = stretch_count shape (length shape.phases.items - 1);
  constraints = length shape.phases.items - 1;
}

-- a node says its kind, and the least count that remains of each constraint
abbrev pub once_node_line : OnceWidths → OnceNode → List ℕ
once_node_line widths node = codes "node " ++ kind_text (prefix_kind widths.free widths.stretches node.kind)
    ++ spaced_numbers (take widths.constraints node.potential.parts)

-- how many nodes there are, and then the nodes
abbrev pub nodes_lines : OnceWidths → List OnceNode → List (List ℕ)
nodes_lines widths nodes = (codes "nodes " ++ decimal (length nodes)) ∷ map (once_node_line widths) nodes

-- the lines before the nodes
abbrev pub once_head_lines : OnceAnswer → List (List ℕ)
once_head_lines answer = codes "once 1"
    ∷ (codes "form " ++ text_of answer.form)
    ∷ counts_line answer.counts.items
    ∷ (codes "example " ++ text_of answer.example) ∷ []

abbrev pub once_lines : OnceWidths → OnceAnswer → List (List ℕ)
once_lines widths answer =
    once_head_lines answer
    ++ nodes_lines widths answer.nodes.items
    ++ automaton_lines answer.automaton.states.items
    ++ codes "end" ∷ []

-- the text of the answer of a single pass
abbrev pub once_text : OnceWidths → OnceAnswer → List ℕ
once_text widths answer = lines_text (once_lines widths answer)
