-- The lines before the stages, one by one.
use Rattle.std.proofs.Common.{◌≡◌, ℕ, List, Result, Ok, Err, ◌∙◌}
use Rattle.tier_core.specs.{declared.shape.Shape.Shape, declared.sym.Sym.Sym}
use Rattle.answer_reader.specs.{declared.answer_err.AnswerErr.AnswerErr, declared.lines.Lines.Lines}
use Rattle.answer_reader.specs.{Left.{lines_left, Takes}, Lines.{header_of, counts_of}, Reading.{form_of, example_of}}
use Rattle.answer_reader.specs.Reading.{constraint_count, stages_behind, behind_form, answer_from}
use Rattle.answer_reader.specs.Steps.{At, line_then, Fails}
use Rattle.answer_text.specs.Values.{AnswerValue}
use Rattle.answer_reader.proofs.Going.{fails_from, takes_on, takes_fails}

module _ (shape : Shape) (old l m n : Lines) (u : Unit {0}) (form : List (List Sym)) (counts : List ℕ)
    (header : Takes header_of (λ (x : Unit {0}). tt) old l (Ok u))
    (said : Takes (form_of shape) (λ (T : List (List Sym)). T) l m (Ok form))
    (numbers : Takes (counts_of (constraint_count shape)) (λ (ns : List ℕ). ns) m n (Ok counts)) where
  -- the example comes next
  abbrev with_example : List (List Sym) → ℕ → List (List ℕ) → Result AnswerValue At
  with_example example = stages_behind shape (record { form = form; counts = counts; example = example })

  behind_counts : answer_from shape old.number (lines_left old)
      ≡ line_then (example_of shape) with_example n.number (lines_left n)
  behind_counts = takes_on header_of _ (λ header. line_then (form_of shape) (behind_form shape)) old l u header
      ∙ takes_on (form_of shape) (λ (T : List (List Sym)). T) (behind_form shape) l m form said
      ∙ takes_on (counts_of (constraint_count shape)) (λ (ns : List ℕ). ns) (λ ns. line_then (example_of shape)
      (λ example. stages_behind shape (record { form = form; counts = ns; example = example }))) m n counts numbers

  pub head_read : (new : Lines) (example : List (List Sym))
      → Takes (example_of shape) (λ (T : List (List Sym)). T) n new (Ok example)
      → answer_from shape old.number (lines_left old) ≡ with_example example new.number (lines_left new)
  head_read new example t = behind_counts
      ∙ takes_on (example_of shape) (λ (T : List (List Sym)). T) with_example n new example t

  pub head_refused : (new : Lines) (e : AnswerErr)
      → Takes (example_of shape) (λ (T : List (List Sym)). T) n new (Err e)
      → Fails e (answer_from shape old.number (lines_left old))
  head_refused new e t = fails_from e _ _ behind_counts (takes_fails (example_of shape) (λ (T : List (List Sym)). T)
      with_example n new e t)
