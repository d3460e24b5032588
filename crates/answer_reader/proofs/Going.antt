-- Going on from what the code has read.
use Rattle.std.proofs.Common.{◌≡◌, ℕ, ◌+◌, List, Result, Ok, Err, refl, ap, sym, ◌∙◌, subst}
use Rattle.answer_reader.specs.{declared.answer_err.AnswerCause.AnswerCause, declared.answer_err.AnswerErr.AnswerErr}
use Rattle.answer_reader.specs.{declared.lines.Lines.Lines, Left.{lines_left, Takes}}
use Rattle.answer_reader.specs.Steps.{At, go_on, first_line, and_then, line_then, Fails}
use Rattle.answer_reader.specs.declared.answer_err.AnswerErr.TheVariants as code

-- an error of what is the same
pub fails_from : {X : Type 0} (e : AnswerErr) (a b : Result X At) → a ≡ b → Fails e b → Fails e a
fails_from e a b is f = rw is f

-- the error of a part is that of the whole
pub fails_then : {X Y : Type 0} (e : AnswerErr) (more : X → Result Y At) (r : Result X At) → Fails e r
    → Fails e (and_then more r)
fails_then code.NoMemory more r f = tt
fails_then (code.At line cause) more r f = ap (and_then more) f

-- what a line says, and the lines behind it
pub takes_on : {X Y Z : Type 0} (of : List ℕ → Result X AnswerCause) (seen : Y → X)
    (more : X → ℕ → List (List ℕ) → Result Z At) (old new : Lines) (y : Y)
    → Takes of seen old new (Ok y) → line_then of more old.number (lines_left old)
    ≡ more (seen y) new.number (lines_left new)
takes_on of seen more old new y t =
    ap (and_then (λ read. more read.0 (old.number + 1) read.1)) t.0
    ∙ ap (λ n. more (seen y) n (lines_left new)) (sym t.1)

pub takes_fails : {X Y Z : Type 0} (of : List ℕ → Result X AnswerCause) (seen : Y → X)
    (more : X → ℕ → List (List ℕ) → Result Z At) (old new : Lines) (e : AnswerErr)
    → Takes of seen old new (Err e) → Fails e (line_then of more old.number (lines_left old))
takes_fails of seen more old new e t = fails_then e _ _ (told e t)
  where
    told : (e : AnswerErr) → Takes of seen old new (Err e) → Fails e (first_line of old.number (lines_left old))
    told e t = t

-- to go on behind a line is to read it, and to go on
pub go_on_then : {X Y : Type 0} (said : Result X AnswerCause) (n : ℕ) (next : List (List ℕ))
    (more : X → List (List ℕ) → Result Y At)
    → go_on said n (λ x. more x next)
    ≡ and_then (λ read. more read.0 read.1)
    (go_on said n (λ x. let r : Result (X × List (List ℕ)) At = Ok (x, next) in r))
go_on_then (Ok x) n next more = refl
go_on_then (Err cause) n next more = refl
