-- Going from line to line. A text falls into the lines that end and what is left after the last.
use Rattle.std.specs.Prelude.{◌≡◌, ℕ, ◌+◌, List, [], ◌∷◌, Result, Ok, Err}
use Rattle.answer_reader.specs.declared.answer_err.AnswerCause.{AnswerCause}
use Rattle.answer_reader.specs.declared.answer_err.AnswerCause.TheVariants.{CutShort}
use Rattle.answer_reader.specs.declared.answer_err.AnswerErr.{AnswerErr}
use Rattle.answer_reader.specs.declared.answer_err.AnswerErr.TheVariants as code

-- a line and its cause
pub record At : Type 0 where
  pub line : ℕ
  pub cause : AnswerCause

abbrev pub at : ℕ → AnswerCause → At
at n cause = record { line = n; cause = cause }

-- a line's cause ends the reading, and what it says goes on
abbrev pub go_on : {X Y : Type 0} → Result X AnswerCause → ℕ → (X → Result Y At) → Result Y At
go_on (Ok x) n more = more x
go_on (Err cause) n more = Err (at n cause)

-- what line n says, and the lines after it; CutShort if the bytes end before it does
abbrev pub first_line : {X : Type 0} → (List ℕ → Result X AnswerCause) → ℕ → List (List ℕ)
    → Result (X × List (List ℕ)) At
first_line of n [] = Err (at n CutShort)
first_line of n (left ∷ []) = Err (at n CutShort)
first_line of n (line ∷ next ∷ lines) = go_on (of line) n (λ x. Ok (x, next ∷ lines))

-- an error of the code is the cause and its line, unless memory ran out
abbrev pub Fails : {X : Type 0} → AnswerErr → Result X At → Type 0
Fails code.NoMemory read = Unit {0}
Fails (code.At line cause) read = read ≡ Err (at line cause)

-- what is read goes on, and a cause ends the reading
abbrev pub and_then : {X Y : Type 0} → (X → Result Y At) → Result X At → Result Y At
and_then more (Ok x) = more x
and_then more (Err at) = Err at

-- reads line n, and goes on with what it says and the lines after it
abbrev pub line_then : {X Y : Type 0} → (List ℕ → Result X AnswerCause) → (X → ℕ → List (List ℕ) → Result Y At) → ℕ
    → List (List ℕ) → Result Y At
line_then of more n lines = and_then (λ read. more read.0 (n + 1) read.1) (first_line of n lines)
