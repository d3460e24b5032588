-- `check` finds one thing in its grammar and the file of an answer.
use Rattle.std.proofs.Common.{◌≡◌, ◌⊎◌, inl, inr, ℕ, ◌<◌, Bool, true, false, List, length, Result, Ok, Err, refl}
use Rattle.std.proofs.{Common.{ap, sym, ◌∙◌}, lemmas.Bool.false≢true}
use Rattle.grammar_reader.specs.Values.{GrammarValue}
use Rattle.answer_reader.specs.Steps.{At}
use Rattle.answer_text.specs.Values.{AnswerValue}
use Rattle.otp_tool.specs.{Answers.{HasAnswer, IsAnswerFile}, Findings.{Finding, FindsForCheck, long_file}}
use Rattle.otp_tool.specs.Findings.{no_grammar, no_form, long_second, no_rows, no_lexicon, no_answer, over_budget}
use Rattle.otp_tool.specs.{Findings.ready, Steps.IsFindingOf}
use Rattle.otp_tool.proofs.{Choices.{one_choice, one_of, too_long}, ShapesAlike.{same_reading, shapes_alike}}

-- a file is read as one thing
pub one_reading : (g : GrammarValue) (bytes : List ℕ) (r q : Result AnswerValue At) → IsAnswerFile g bytes r
    → IsAnswerFile g bytes q → r ≡ q
one_reading g bytes r q a b =
    sym a.is ∙ same_reading a.shape b.shape (shapes_alike g a.shape b.shape a.of_grammar b.of_grammar) bytes ∙ b.is

abbrev cause_in : Result AnswerValue At → At → At
cause_in (Ok value) other = other
cause_in (Err at) other = at

abbrev pub is_read : Result AnswerValue At → Bool
is_read (Ok value) = true
is_read (Err at) = false

module _ (g : GrammarValue) (bytes : List ℕ) where
  abbrev Long : Finding → Type 0
  Long x = (x ≡ long_second 2) × (268435456 < length bytes)

  abbrev NoAnswer : Finding → Type 0
  NoAnswer = IsFindingOf (λ (at : At). no_answer at.line at.cause) (λ at. IsAnswerFile g bytes (Err at))

  abbrev Read : Finding → Type 0
  Read x = (x ≡ ready) × HasAnswer g bytes

  abbrev NotLong : Finding → Type 0
  NotLong x = NoAnswer x ⊎ Read x

  steps : (x : Finding) → FindsForCheck g bytes x → Long x ⊎ NotLong x
  steps (long_second word) f = inl (ap long_second f.0, f.1)
  steps (no_answer line cause) f =
      inr (inl (record { value = record { line = line; cause = cause }; is = refl; fact = f }))
  steps ready f = inr (inr (refl, f))
  steps other f = absurd f

  one_no_answer : (x y : Finding) → NoAnswer x → NoAnswer y → x ≡ y
  one_no_answer = one_of _ _ (λ a b p q. ap (λ r. no_answer (cause_in r a).line (cause_in r a).cause)
      (one_reading g _ _ _ p q))

  read_apart : (x y : Finding) → NoAnswer x → Read y → ⊥
  read_apart x y n r = false≢true (ap is_read (one_reading g _ _ _ n.fact r.1.1))

  long_apart : (x y : Finding) → Long x → NotLong y → ⊥
  long_apart x y l (inl n) = too_long _ _ l.1 n.fact.within
  long_apart x y l (inr r) = too_long _ _ l.1 r.1.1.within

  pub for_check : (x y : Finding) → FindsForCheck g bytes x → FindsForCheck g bytes y → x ≡ y
  for_check x y a b = one_choice _ _ (λ v w l m. l.0 ∙ sym m.0) long_apart (one_choice _ _ one_no_answer read_apart
      (λ v w r s. r.0 ∙ sym s.0)) x y (steps x a) (steps y b)
