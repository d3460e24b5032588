-- The lines of the stages, and the line of the automaton after them.
use Rattle.std.specs.Prelude.{ℕ, zero, suc, ◌+◌, ◌&&◌, not, Bool, true, false, if◌then◌else◌, List, [], ◌∷◌, ◌++◌, length, codes, Result, Ok, Err}
use Rattle.tier_core.specs.declared.shape.Shape.{Shape}
use Rattle.tier_core.specs.KindShapes.{free_count, stretch_count}
use Rattle.answer_reader.specs.declared.answer_err.AnswerCause.{AnswerCause}
use Rattle.answer_reader.specs.declared.answer_err.AnswerCause.TheVariants.{CutShort}
use Rattle.answer_reader.specs.Cuts.{begins}
use Rattle.answer_reader.specs.Lines.{stage_of, automaton_of}
use Rattle.answer_reader.specs.Nodes.{node_of}
use Rattle.answer_reader.specs.Orders.{in_order, node_less}
use Rattle.answer_reader.specs.Steps.{At, at, go_on}
use Rattle.answer_text.specs.Values.{NodeValue}

pub data StagePlace : Type 0 where
  -- after these stages
  behind_stages : List (List NodeValue) → StagePlace
  -- after these stages and these nodes of the next: a node is to come, and then so many more
  in_stage : List (List NodeValue) → ℕ → List NodeValue → StagePlace

-- after these stages and these nodes of the next, when this many nodes are still to come
abbrev pub with_nodes : List (List NodeValue) → ℕ → List NodeValue → StagePlace
with_nodes stages zero nodes = behind_stages (stages ++ nodes ∷ [])
with_nodes stages (suc more) nodes = in_stage stages more nodes

-- how many nodes the last stage has
abbrev pub last_count : List (List NodeValue) → ℕ
last_count [] = 0
last_count (nodes ∷ []) = length nodes
last_count (nodes ∷ next ∷ stages) = last_count (next ∷ stages)

abbrev pub is_empty : {X : Type 0} → List X → Bool
is_empty [] = true
is_empty (x ∷ xs) = false

-- the automaton follows at least one stage
abbrev pub is_automaton : List (List NodeValue) → List ℕ → Bool
is_automaton stages line = not (is_empty stages) && begins (codes "automaton ") line

-- a node in its place among those of its stage
abbrev pub next_node : Shape → ℕ → ℕ → List NodeValue → List ℕ → Result NodeValue AnswerCause
next_node shape columns stage nodes line = in_order node_less nodes
    (node_of (free_count shape) (stretch_count shape stage) columns line)

-- What is read of the stages, how many states follow, and the remaining lines, the first of which has
-- a number.
pub record StagesRead : Type 0 where
  pub stages : List (List NodeValue)
  pub states : ℕ
  pub number : ℕ
  pub lines : List (List ℕ)

abbrev pub stages_read : List (List NodeValue) → ℕ → List (List ℕ) → ℕ → Result StagesRead At
stages_read stages number lines states = Ok
    (record { stages = stages; states = states; number = number; lines = lines })

-- the lines from number n on, for a form with this many columns
abbrev pub stages_from : Shape → ℕ → StagePlace → ℕ → List (List ℕ) → Result StagesRead At
stages_from shape columns place n [] = Err (at n CutShort)
stages_from shape columns place n (left ∷ []) = Err (at n CutShort)
stages_from shape columns (behind_stages stages) n (line ∷ next ∷ lines) = if is_automaton stages line
    then go_on (automaton_of (last_count stages) line) n (stages_read stages (n + 1) (next ∷ lines))
    else go_on (stage_of (length shape.phases.items) (length stages) line) n
    (λ nodes. stages_from shape columns (with_nodes stages nodes []) (n + 1) (next ∷ lines))
stages_from shape columns (in_stage stages more nodes) n (line ∷ next ∷ lines) =
    go_on (next_node shape columns (length stages) nodes line) n
    (λ node. stages_from shape columns (with_nodes stages more (nodes ++ node ∷ [])) (n + 1) (next ∷ lines))
