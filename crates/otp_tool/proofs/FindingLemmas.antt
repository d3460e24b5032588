-- A command finds one thing in its files.
use Rattle.std.proofs.Common.{◌≡◌, ◌⊎◌, inl, inr, ℕ, ◌<◌, ◌≤◌, Bool, true, false, List, length, Ok, Err, Result}
use Rattle.std.proofs.{Common.{refl, ap, sym, ◌∙◌, subst}, lemmas.Bool.false≢true}
use Rattle.grammar_reader.specs.{Values.GrammarValue, Reading.{At, grammar_of}}
use Rattle.command_line.specs.Commands.{Command, canon, score, generate, show, tableau, once, comprehend, check}
use Rattle.command_line.specs.Commands.{sample}
use Rattle.otp_tool.specs.{Grammars.{IsFileOf, OnGrammar}, Findings.{Finding, Finds, FindsIn, long_file, no_grammar}}
use Rattle.otp_tool.specs.Findings.{no_form, long_second, no_rows, no_lexicon, no_answer, over_budget, ready}
use Rattle.otp_tool.specs.{Samples.sample_word, Steps.IsFindingOf}
use Rattle.otp_tool.proofs.AnswerFindings.{all_ready, for_answer, for_once, for_score}
use Rattle.otp_tool.proofs.{Choices.{one_choice, one_of, too_long}, CheckFindings.for_check}
use Rattle.otp_tool.proofs.{HearingFindings.for_hearing, TableauFindings.for_tableau}

in_grammar : (command : Command) (g : GrammarValue) (second : List ℕ) (x y : Finding) → FindsIn command g second x
    → FindsIn command g second y → x ≡ y
in_grammar (canon name) g second x y a b = all_ready x a ∙ sym (all_ready y b)
in_grammar (score name word) g second x y a b = for_score g word x y a b
in_grammar (generate name form budget) g second x y a b = for_answer g form budget x y a b
in_grammar (show name form budget) g second x y a b = for_answer g form budget x y a b
in_grammar (tableau name form rows budget) g second x y a b = for_tableau g form budget second x y a b
in_grammar (once name form budget) g second x y a b = for_once g form budget x y a b
in_grammar (comprehend name lexicon surface budget) g second x y a b = for_hearing g surface budget second x y a b
in_grammar (check name answer) g second x y a b = for_check g second x y a b
in_grammar (sample n) g second x y a b = for_answer g (sample_word n) 20000 x y a b

-- ---- in the files

abbrev ok_of : Result GrammarValue At → GrammarValue → GrammarValue
ok_of (Ok g) d = g
ok_of (Err e) d = d

abbrev err_of : Result GrammarValue At → At → At
err_of (Ok g) d = d
err_of (Err e) d = e

abbrev is_ok : Result GrammarValue At → Bool
is_ok (Ok g) = true
is_ok (Err e) = false

-- bytes tell one grammar
pub same_grammar : (bytes : List ℕ) (g h : GrammarValue) → IsFileOf bytes g → IsFileOf bytes h → g ≡ h
same_grammar bytes g h a b = ap (λ r. ok_of r g) (sym a.tells ∙ b.tells)

module _ (command : Command) (bytes second : List ℕ) where
  abbrev LongFile : Finding → Type 0
  LongFile x = (x ≡ long_file) × (65536 < length bytes)

  abbrev NoGrammar : Finding → Type 0
  NoGrammar = IsFindingOf (λ (at : At). no_grammar at.line at.cause) (λ at. (length bytes ≤ 65536)
      × (grammar_of bytes ≡ Err at))

  abbrev InGrammar : Finding → Type 0
  InGrammar x = OnGrammar (λ g. FindsIn command g second x) bytes

  steps : (x : Finding) → Finds command bytes second x → LongFile x ⊎ (NoGrammar x ⊎ InGrammar x)
  steps long_file a = inl (refl, a)
  steps (no_grammar line cause) a = inr
      (inl (record { value = record { line = line; cause = cause }; is = refl; fact = a }))
  steps (no_form word cause) a = inr (inr a)
  steps (long_second word) a = inr (inr a)
  steps (no_rows row cause) a = inr (inr a)
  steps (no_lexicon cause) a = inr (inr a)
  steps (no_answer line cause) a = inr (inr a)
  steps (over_budget entry stage) a = inr (inr a)
  steps ready a = inr (inr a)

  both_in : (x y : Finding) → InGrammar x → InGrammar y → x ≡ y
  both_in x y a b =
      let same = same_grammar _ _ _ b.file a.file in
      in_grammar _ _ _ x y a.fact (rw same at b.fact)

  refused_in : (x y : Finding) → NoGrammar x → InGrammar y → ⊥
  refused_in x y n i = false≢true (ap is_ok (sym n.fact.1 ∙ i.file.tells))

  one_refused : (x y : Finding) → NoGrammar x → NoGrammar y → x ≡ y
  one_refused = one_of _ _ (λ a b e f. ap (λ r. no_grammar (err_of r a).line (err_of r a).cause) (sym e.1 ∙ f.1))

  abbrev NotLongFile : Finding → Type 0
  NotLongFile x = NoGrammar x ⊎ InGrammar x

  long_in : (x y : Finding) → LongFile x → NotLongFile y → ⊥
  long_in x y l (inl n) = too_long _ _ l.1 n.fact.0
  long_in x y l (inr i) = too_long _ _ l.1 i.file.within

  pub one_finding : (x y : Finding) → Finds command bytes second x → Finds command bytes second y → x ≡ y
  one_finding x y a b = one_choice _ _ (λ v w l m. l.0 ∙ sym m.0) long_in (one_choice _ _ one_refused refused_in
      both_in) x y (steps x a) (steps y b)

  -- of bytes that are a grammar's file, it finds only what it finds in the grammar
  pub only_in : (g : GrammarValue) → IsFileOf bytes g → (y : Finding)
      → ((x : Finding) → FindsIn command g second x → x ≡ y) → (x : Finding) → Finds command bytes second x → x ≡ y
  only_in g file y only x f = by_step (steps x f)
    where
      by_step : LongFile x ⊎ NotLongFile x → x ≡ y
      by_step (inl l) = absurd (too_long _ _ l.1 file.within)
      by_step (inr (inl n)) = absurd (false≢true (ap is_ok (sym n.fact.1 ∙ file.tells)))
      by_step (inr (inr i)) =
          let same = same_grammar _ _ g i.file file in
          only x (rw same at i.fact)
