-- The value of an answer, as plain lists.
use Rattle.std.specs.Prelude.{ℕ, ◌+◌, Bool, List, [], ◌∷◌, map}
use Rattle.tier_core.specs.declared.sym.Sym.{Sym}
use Rattle.tier_core.specs.declared.shape.Shape.{Shape}
use Rattle.tier_core.specs.Classes.{sets_of}
use Rattle.tier_core.specs.Kinds.{PrefixKind}
use Rattle.tier_core.specs.KindShapes.{kind_in}
use Rattle.answer_text.specs.declared.stage.Node.{Node}
use Rattle.answer_text.specs.declared.stage.Stage.{Stage}
use Rattle.answer_text.specs.declared.automaton.ArcLine.{ArcLine}
use Rattle.answer_text.specs.declared.automaton.StateLine.{StateLine}
use Rattle.answer_text.specs.declared.answer.Answer.{Answer}

pub record NodeValue : Type 0 where
  pub kind : PrefixKind
  pub potential : ℕ

-- an arc's class by the numbers of its sets
pub record ArcValue : Type 0 where
  pub target : ℕ
  pub sets : List ℕ

pub record StateValue : Type 0 where
  pub node : ℕ
  pub accepting : Bool
  pub arcs : List ArcValue

pub record AnswerValue : Type 0 where
  pub form : List (List Sym)
  pub counts : List ℕ
  pub example : List (List Sym)
  pub stages : List (List NodeValue)
  pub states : List StateValue

abbrev pub node_value : Shape → ℕ → Node → NodeValue
node_value shape stage node = record { kind = kind_in shape stage node.kind; potential = node.potential }

-- the stages from number r on
abbrev pub stage_values : Shape → ℕ → List Stage → List (List NodeValue)
stage_values shape r [] = []
stage_values shape r (stage ∷ stages) = map (node_value shape r) stage.nodes.items ∷ stage_values shape (r + 1) stages

abbrev pub arc_value : ArcLine → ArcValue
arc_value arc = record { target = arc.target; sets = sets_of arc.class }

abbrev pub state_value : StateLine → StateValue
state_value state = record { node = state.node; accepting = state.accepting; arcs = map arc_value state.arcs.items }

abbrev pub answer_value : Shape → Answer → AnswerValue
answer_value shape answer = record {
  form = answer.form;
  counts = answer.counts.items;
  example = answer.example;
  stages = stage_values shape 0 answer.stages.items;
  states = map state_value answer.automaton.states.items;
}
