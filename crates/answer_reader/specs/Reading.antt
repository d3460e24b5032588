-- A text is read as the value of an answer, or it has a first line with a cause.
use Rattle.std.specs.Prelude.{◌≡◌, ◌⊎◌, ℕ, ◌-◌, List, [], length, codes, Result, Ok, Err}
use Rattle.tier_core.specs.declared.sym.Sym.{Sym}
use Rattle.tier_core.specs.declared.shape.Shape.{Shape}
use Rattle.tier_core.specs.Shapes.{masked_count}
use Rattle.answer_reader.specs.declared.answer_err.AnswerCause.{AnswerCause}
use Rattle.timeline_text.specs.Bytes.{lines_of}
use Rattle.answer_reader.specs.Lines.{header_of, counts_of}
use Rattle.answer_reader.specs.Stages.{behind_stages, last_count, StagesRead, stages_from}
use Rattle.answer_reader.specs.States.{behind_states, states_from}
use Rattle.answer_reader.specs.Steps.{At, at, and_then, line_then}
use Rattle.answer_reader.specs.Timelines.{timeline_said}
use Rattle.answer_text.specs.Values.{AnswerValue, StateValue}

-- the form, over the input tiers and with at most 64 columns
abbrev pub form_of : Shape → List ℕ → Result (List (List Sym)) AnswerCause
form_of shape line = timeline_said (codes "form ") (masked_count shape.inputs) 64 line

-- the example, over all tiers and with at most 65,536 columns
abbrev pub example_of : Shape → List ℕ → Result (List (List Sym)) AnswerCause
example_of shape line = timeline_said (codes "example ") shape.width 65536 line

-- how many constraints there are
abbrev pub constraint_count : Shape → ℕ
constraint_count shape = length shape.phases.items - 1

-- what the lines before the stages contain
pub record HeadValue : Type 0 where
  pub form : List (List Sym)
  pub counts : List ℕ
  pub example : List (List Sym)

abbrev pub answer_with : HeadValue → StagesRead → List StateValue → Result AnswerValue At
answer_with head read states = Ok
    (record { form = head.form; counts = head.counts; example = head.example; stages = read.stages; states = states })

-- the states and the end, after the stages
abbrev pub states_behind : Shape → HeadValue → StagesRead → Result AnswerValue At
states_behind shape head read = and_then (answer_with head read)
    (states_from shape.width (last_count read.stages) (behind_states read.states []) read.number read.lines)

-- the stages and all that follows them, from line n on
abbrev pub stages_behind : Shape → HeadValue → ℕ → List (List ℕ) → Result AnswerValue At
stages_behind shape head n lines = and_then (states_behind shape head)
    (stages_from shape (length head.form) (behind_stages []) n lines)

-- the lines after the form
abbrev pub behind_form : Shape → List (List Sym) → ℕ → List (List ℕ) → Result AnswerValue At
behind_form shape form = line_then (counts_of (constraint_count shape)) (λ counts. line_then (example_of shape)
    (λ example. stages_behind shape (record { form = form; counts = counts; example = example })))

-- the lines from the header on
abbrev pub answer_from : Shape → ℕ → List (List ℕ) → Result AnswerValue At
answer_from shape = line_then header_of (λ header. line_then (form_of shape) (behind_form shape))

-- what a text says, for a grammar of this shape
abbrev pub answer_of : Shape → List ℕ → Result AnswerValue At
answer_of shape bytes = answer_from shape 1 (lines_of bytes)

-- a text is that of a value
abbrev pub IsTextOf : Shape → List ℕ → AnswerValue → Type 0
IsTextOf shape bytes value = answer_of shape bytes ≡ Ok value

-- this line is the first with a cause in a text, and this is its first cause
abbrev pub IsFirstCause : Shape → List ℕ → ℕ → AnswerCause → Type 0
IsFirstCause shape bytes line cause = answer_of shape bytes ≡ Err (at line cause)

-- a text is that of a value, or it has a first cause
abbrev pub HasReading : Shape → List ℕ → Type 0
HasReading shape bytes = ((value : AnswerValue) × IsTextOf shape bytes value) ⊎
    ((line : ℕ) × ((cause : AnswerCause) × IsFirstCause shape bytes line cause))
