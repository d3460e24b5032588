-- Each word has one reading, or one cause.
use Rattle.std.proofs.Common.{rules, ◌≡◌, inl, inr, ℕ, Bool, true, false, List, MatchBool, subst, sym}
use Rattle.tier_core.specs.declared.sym.Sym.{Sym}
use Rattle.timeline_text.specs.{declared.form_err.FormErr.FormErr, declared.letter.Letter.Letter, Texts.IsTextOf}
use Rattle.timeline_text.specs.{Causes.IsCause, Spelling.{IsSpelledBy, IsSpellingCause}}
use Rattle.timeline_text.specs.Readings.{HasReading, HasSpelling}
use Rattle.timeline_text.proofs.{Searches.by_test, Deciding.{has_reading, not_both, one_value}}
use Rattle.timeline_text.proofs.Spellings.{has_spelling, never_both, one_form}
use Rattle.form_reader.specs.Forms.{HasFormOrCause, IsReadAs, IsRefusedFor, is_spelled}

pub when_true : (b : Bool) (A B : Type 0) → b ≡ true → A → MatchBool b A B
when_true b A B h a = subst (λ (t : Bool). MatchBool t A B) (sym h) a

pub when_false : (b : Bool) (A B : Type 0) → b ≡ false → B → MatchBool b A B
when_false b A B h x = subst (λ (t : Bool). MatchBool t A B) (sym h) x

pub by_choices : (b : Bool) (A B C D X : Type 0) → MatchBool b A B → MatchBool b C D → (A → C → X) → (B → D → X) → X
by_choices true A B C D X m n f g = f m n
by_choices false A B C D X m n f g = g m n

pub one_cause : (width limit : ℕ) (bytes : List ℕ) (e f : FormErr) → IsCause width limit bytes e
    → IsCause width limit bytes f → e ≡ f
one_cause width limit bytes e f a b = search rules

one_spelling_cause : (letters : List Letter) (bytes : List ℕ) (e f : FormErr) → IsSpellingCause letters bytes e
    → IsSpellingCause letters bytes f → e ≡ f
one_spelling_cause letters bytes e f a b = search rules

module _ (inputs : ℕ) (letters : List Letter) (word : List ℕ) where
  pub one_reading : (u v : List (List Sym)) → IsReadAs inputs letters word u → IsReadAs inputs letters word v → u ≡ v
  one_reading u v r s =
      by_choices (is_spelled word) (IsSpelledBy letters inputs word u) (IsTextOf inputs 64 word u)
      (IsSpelledBy letters inputs word v) (IsTextOf inputs 64 word v) (u ≡ v) r s
      (λ a b. one_form letters inputs word u v a b)
      (λ a b. one_value inputs 64 word u v a b)

  pub not_refused : (u : List (List Sym)) (cause : FormErr) → IsReadAs inputs letters word u
      → IsRefusedFor inputs letters word cause → ⊥
  not_refused u cause r f =
      by_choices (is_spelled word) (IsSpelledBy letters inputs word u) (IsTextOf inputs 64 word u)
      (IsSpellingCause letters word cause) (IsCause inputs 64 word cause) ⊥ r f
      (λ s k. never_both letters inputs word u cause s k)
      (λ t k. not_both inputs 64 word u cause t k)

  pub one_refusal : (cause other : FormErr) → IsRefusedFor inputs letters word cause
      → IsRefusedFor inputs letters word other → cause ≡ other
  one_refusal cause other r f =
      by_choices (is_spelled word) (IsSpellingCause letters word cause) (IsCause inputs 64 word cause)
      (IsSpellingCause letters word other) (IsCause inputs 64 word other) (cause ≡ other) r f
      (λ s k. one_spelling_cause letters word cause other s k)
      (λ t k. one_cause inputs 64 word cause other t k)

  pub has_form : HasFormOrCause inputs letters word
  has_form = by_test (is_spelled word)
      (λ h. from_spelling h (has_spelling letters inputs word))
      (λ h. from_text h (has_reading inputs 64 word))
    where
      from_spelling : is_spelled word ≡ true → HasSpelling letters inputs word → HasFormOrCause inputs letters word
      from_spelling h (inl (u, s)) = inl (u, when_true (is_spelled word) _ _ h s)
      from_spelling h (inr (cause, k)) = inr (cause, when_true (is_spelled word) _ _ h k)

      from_text : is_spelled word ≡ false → HasReading inputs 64 word → HasFormOrCause inputs letters word
      from_text h (inl (u, t)) = inl (u, when_false (is_spelled word) _ _ h t)
      from_text h (inr (cause, k)) = inr (cause, when_false (is_spelled word) _ _ h k)
