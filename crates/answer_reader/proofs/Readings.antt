-- Each text has exactly one reading.
use Rattle.std.proofs.Common.{◌≡◌, inl, inr, ℕ, List, Result, Ok, Err, refl, ap, sym, ◌∙◌}
use Rattle.tier_core.specs.declared.shape.Shape.{Shape}
use Rattle.answer_reader.specs.declared.answer_err.AnswerCause.{AnswerCause}
use Rattle.answer_reader.specs.{Reading.{answer_of, IsTextOf, IsFirstCause, HasReading}, Steps.{At, at}}
use Rattle.answer_text.specs.Values.{AnswerValue}

pub has_reading : (shape : Shape) (bytes : List ℕ) → HasReading shape bytes
has_reading shape bytes = by _ refl
  where
    by : (r : Result AnswerValue At) → answer_of shape bytes ≡ r → HasReading shape bytes
    by (Ok value) e = inl (value, e)
    by (Err a) e = inr (a.line, (a.cause, e))

pub one_value : (shape : Shape) (bytes : List ℕ) (v w : AnswerValue) → IsTextOf shape bytes v → IsTextOf shape bytes w
    → v ≡ w
one_value shape bytes v w a b = let same = sym a ∙ b in cc

pub one_cause : (shape : Shape) (bytes : List ℕ) (k l : ℕ) (e f : AnswerCause) → IsFirstCause shape bytes k e
    → IsFirstCause shape bytes l f → (k ≡ l) × (e ≡ f)
one_cause shape bytes k l e f a b =
    let same = sym a ∙ b in
    let is : at k e ≡ at l f = cc in
    (ap (λ (x : At). x.line) is, ap (λ (x : At). x.cause) is)

pub not_both : (shape : Shape) (bytes : List ℕ) (v : AnswerValue) (k : ℕ) (e : AnswerCause) → IsTextOf shape bytes v
    → IsFirstCause shape bytes k e → ⊥
not_both shape bytes v k e a b = let same = sym a ∙ b in cc
