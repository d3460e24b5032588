-- The parts of a text, put together.
use Rattle.std.proofs.Common.{◌≡◌, ℕ, List, [], length, map, Result, Ok, ap, sym, ◌∙◌}
use Rattle.tier_core.specs.declared.shape.Shape.{Shape}
use Rattle.answer_text.specs.{declared.automaton.StateLine.StateLine, declared.stage.Stage.Stage, Readable.last_nodes}
use Rattle.answer_text.specs.Values.{StateValue, stage_values, state_value}
use Rattle.answer_reader.specs.{declared.answer_err.AnswerErr.AnswerErr, declared.lines.Lines.Lines, Left.lines_left}
use Rattle.answer_reader.specs.Reading.{HeadValue, answer_with, states_behind, stages_behind, answer_from}
use Rattle.answer_reader.specs.{Reading.answer_of, Stages.{behind_stages, StagesRead, stages_read, stages_from}}
use Rattle.answer_reader.specs.{States.{behind_states, states_from}, Steps.{At, and_then, Fails}}
use Rattle.timeline_text.specs.Bytes.{lines_of}
use Rattle.answer_reader.proofs.{Going.{fails_from, fails_then}, StageValues.last_values}

module _ (shape : Shape) (bytes : List ℕ) (start l m : Lines) (head : HeadValue) (stages : List Stage) (count : ℕ)
    (whole : lines_left start ≡ lines_of bytes) (first : start.number ≡ 1)
    (before : answer_from shape start.number (lines_left start) ≡ stages_behind shape head l.number (lines_left l))
    (are : stages_from shape (length head.form) (behind_stages []) l.number (lines_left l)
    ≡ stages_read (stage_values shape 0 stages) m.number (lines_left m) count) where
  -- the stages that were read
  abbrev the_stages : StagesRead
  the_stages = record { stages = stage_values shape 0 stages; states = count; number = m.number; lines = lines_left m }

  abbrev the_states : Result (List StateValue) At
  the_states = states_from shape.width (length (last_nodes stages)) (behind_states count []) m.number (lines_left m)

  behind_the_stages : answer_of shape bytes ≡ and_then (answer_with head the_stages) the_states
  behind_the_stages =
      ap (answer_from shape 1) (sym whole) ∙ ap (λ n. answer_from shape n (lines_left start)) (sym first) ∙ before
      ∙ ap (and_then (states_behind shape head)) are
      ∙ ap (λ k. and_then (answer_with head the_stages)
      (states_from shape.width k (behind_states count []) m.number (lines_left m))) (last_values shape 0 stages)

  pub whole_read : (states : List StateLine) → the_states ≡ Ok (map state_value states) → answer_of shape bytes
      ≡ answer_with head the_stages (map state_value states)
  whole_read states h = behind_the_stages ∙ ap (and_then (answer_with head the_stages)) h

  pub whole_refused : (e : AnswerErr) → Fails e the_states → Fails e (answer_of shape bytes)
  whole_refused e f = fails_from e _ _ behind_the_stages (fails_then e _ _ f)
