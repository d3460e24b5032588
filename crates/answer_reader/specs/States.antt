-- The lines of the states and their arcs, and the line `end`.
use Rattle.std.specs.Prelude.{ℕ, zero, suc, ◌+◌, if◌then◌else◌, List, [], ◌∷◌, ◌++◌, codes, Result, Ok, Err}
use Rattle.answer_reader.specs.declared.answer_err.AnswerCause.{AnswerCause}
use Rattle.answer_reader.specs.declared.answer_err.AnswerCause.TheVariants.{CutShort, ExtraBytes}
use Rattle.answer_reader.specs.Cuts.{begins}
use Rattle.answer_reader.specs.Lines.{state_of, arc_of, end_line}
use Rattle.answer_reader.specs.Orders.{in_order, state_less, arc_less}
use Rattle.answer_reader.specs.Steps.{At, at, go_on}
use Rattle.answer_text.specs.Values.{ArcValue, StateValue}

pub data StatePlace : Type 0 where
  -- this many states follow these
  behind_states : ℕ → List StateValue → StatePlace
  -- this many states follow these and one whose arcs may go on
  in_state : ℕ → List StateValue → StateValue → StatePlace

abbrev pub with_arc : StateValue → ArcValue → StateValue
with_arc state arc = record state { arcs = state.arcs ++ arc ∷ [] }

abbrev pub next_state : ℕ → List StateValue → List ℕ → Result StateValue AnswerCause
next_state nodes states line = in_order state_less states (state_of nodes line)

abbrev pub next_arc : ℕ → ℕ → List ArcValue → List ℕ → Result ArcValue AnswerCause
next_arc width nodes arcs line = in_order arc_less arcs (arc_of width nodes line)

-- nothing follows the line `end`
abbrev pub at_end : List StateValue → ℕ → List (List ℕ) → Result (List StateValue) At
at_end states n ([] ∷ []) = Ok states
at_end states n _ = Err (at n ExtraBytes)

-- after the arcs of a state comes the next state, or the end after the last
abbrev pub state_or_end : ℕ → ℕ → List StateValue → ℕ → List ℕ → List (List ℕ)
    → (StatePlace → Result (List StateValue) At) → Result (List StateValue) At
state_or_end nodes zero states n line lines go = go_on (end_line line) n (λ done. at_end states (n + 1) lines)
state_or_end nodes (suc more) states n line lines go = go_on (next_state nodes states line) n
    (λ state. go (in_state more states state))

-- the lines from number n on, if the last stage has this many nodes
abbrev pub states_from : ℕ → ℕ → StatePlace → ℕ → List (List ℕ) → Result (List StateValue) At
states_from width nodes place n [] = Err (at n CutShort)
states_from width nodes place n (left ∷ []) = Err (at n CutShort)
states_from width nodes (behind_states more states) n (line ∷ next ∷ lines) =
    state_or_end nodes more states n line (next ∷ lines) (λ place. states_from width nodes place (n + 1) (next ∷ lines))
states_from width nodes (in_state more states state) n (line ∷ next ∷ lines) = if begins (codes "arc ") line
    then go_on (next_arc width nodes state.arcs line) n
    (λ arc. states_from width nodes (in_state more states (with_arc state arc)) (n + 1) (next ∷ lines))
    else state_or_end nodes more (states ++ state ∷ []) n line (next ∷ lines)
    (λ place. states_from width nodes place (n + 1) (next ∷ lines))
