-- What the first of some lines gives, and the lines behind it.
use Rattle.std.proofs.Common.{◌≡◌, ℕ, ◌+◌, ◌<◌, List, [], ◌∷◌, length, Result, Ok, Err, ap, sym, ◌∙◌, subst, arith}
use Rattle.std.specs.Result.{MatchResult}
use Rattle.answer_reader.specs.{declared.answer_err.AnswerCause.AnswerCause, declared.answer_err.AnswerErr.AnswerErr}
use Rattle.answer_reader.specs.{declared.lines.Lines.Lines, Left.{lines_left, Takes}, Steps.{At, go_on, first_line}}
use Rattle.answer_reader.proofs.Cutting.{some_left}
use Rattle.answer_reader.specs.declared.answer_err.AnswerErr.TheVariants as code

-- ---- a line that the code has read

-- the lines from a line on
two_lines : (lines : List (List ℕ)) (line : List ℕ) (rest : List (List ℕ)) → lines ≡ line ∷ rest → 0 < length rest
    → {X : Type 0} (of : List ℕ → Result X AnswerCause) (n : ℕ)
    → first_line of n lines ≡ go_on (of line) n (λ x. let r : Result (X × List (List ℕ)) At = Ok (x, rest) in r)
two_lines lines line [] e l of n = absurd (omega arith)
two_lines lines line (next ∷ rest) e l of n = ap (first_line of n) e

-- what the code says of a line is what reading it gives
pub takes_said : {X Y : Type 0} (of : List ℕ → Result X AnswerCause) (seen : Y → X) (old new : Lines) (line : List ℕ)
    (said : Result Y AnswerCause) (result : Result Y AnswerErr)
    → lines_left old ≡ line ∷ lines_left new → new.number ≡ old.number + 1
    → MatchResult said (λ y. of line ≡ Ok (seen y)) (λ cause. of line ≡ Err cause)
    → MatchResult said (λ y. result ≡ Ok y) (λ cause. result ≡ Err (code.At old.number cause))
    → Takes of seen old new result
takes_said {X} {Y} of seen old new line (Ok y) result lines number is r = rw r (
  two_lines _ _ _ lines (some_left new.rest.now) of _
      ∙ ap (λ s. go_on s old.number (λ x. let q = Ok (x, lines_left new) in q)) is,
  number,
)
takes_said {X} {Y} of seen old new line (Err cause) result lines number is r = rw r
    (two_lines _ _ _ lines (some_left new.rest.now) of _
    ∙ ap (λ s. go_on s old.number (λ x. let q = Ok (x, lines_left new) in q)) is)
