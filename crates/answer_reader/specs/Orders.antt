-- The lines of a list ascend strictly.
use Rattle.std.specs.Prelude.{Bool, true, if◌then◌else◌, List, [], ◌∷◌, nat_lt, Result, Ok, Err}
use Rattle.std.specs.Ordering.{nat_cmp, ordering_then, is_lt}
use Rattle.std.specs.Cmp.Lexicographic.{slice_cmp}
use Rattle.tier_core.specs.Kinds.{kind_order}
use Rattle.answer_reader.specs.declared.answer_err.AnswerCause.{AnswerCause}
use Rattle.answer_reader.specs.declared.answer_err.AnswerCause.TheVariants.{BadOrder}
use Rattle.answer_text.specs.Values.{NodeValue, ArcValue, StateValue}

-- strictly after the last of those before it, if there is one
abbrev pub follows : {X : Type 0} → (X → X → Bool) → List X → X → Bool
follows less [] x = true
follows less (y ∷ []) x = less y x
follows less (y ∷ z ∷ ys) x = follows less (z ∷ ys) x

abbrev pub in_order : {X : Type 0} → (X → X → Bool) → List X → Result X AnswerCause → Result X AnswerCause
in_order less before (Ok x) = if follows less before x then Ok x else Err BadOrder
in_order less before (Err cause) = Err cause

-- nodes by kind order
abbrev pub node_less : NodeValue → NodeValue → Bool
node_less a b = is_lt (kind_order a.kind b.kind)

-- arcs by target, then by class
abbrev pub arc_less : ArcValue → ArcValue → Bool
arc_less a b = is_lt (ordering_then (nat_cmp a.target b.target) (slice_cmp nat_cmp a.sets b.sets))

-- states by the numbers of their nodes
abbrev pub state_less : StateValue → StateValue → Bool
state_less a b = nat_lt a.node b.node
