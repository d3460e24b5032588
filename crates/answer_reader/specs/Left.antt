-- What the remaining lines give, as the code goes through them.
use Rattle.std.specs.Prelude.{◌≡◌, ℕ, ◌+◌, List, Result, Ok, Err}
use Rattle.answer_reader.specs.declared.answer_err.AnswerCause.{AnswerCause}
use Rattle.answer_reader.specs.declared.answer_err.AnswerErr.{AnswerErr}
use Rattle.answer_reader.specs.declared.lines.Lines.{Lines}
use Rattle.timeline_text.specs.Bytes.{lines_of}
use Rattle.answer_reader.specs.Steps.{At, first_line, Fails}

abbrev pub lines_left : Lines → List (List ℕ)
lines_left lines = lines_of lines.rest.now

-- reading the next line gives what it says, and goes on after it
abbrev pub Takes : {X Y : Type 0} → (List ℕ → Result X AnswerCause) → (Y → X) → Lines → Lines → Result Y AnswerErr
    → Type 0
Takes of seen old new (Ok y) = (first_line of old.number (lines_left old) ≡ Ok (seen y, lines_left new))
    × (new.number ≡ old.number + 1)
Takes of seen old new (Err e) = Fails e (first_line of old.number (lines_left old))

-- Reading from the old lines is reading on from the new ones, with what the code has read between them,
-- or it gives the code's error.
abbrev pub Continues : {X Y : Type 0} → (ℕ → List (List ℕ) → Result X At) → (Y → ℕ → List (List ℕ) → Result X At)
    → Lines → Lines → Result Y AnswerErr → Type 0
Continues from to old new (Ok y) = from old.number (lines_left old) ≡ to y new.number (lines_left new)
Continues from to old new (Err e) = Fails e (from old.number (lines_left old))
