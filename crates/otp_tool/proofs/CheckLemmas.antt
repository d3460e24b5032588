-- What `check` does with a grammar and the file of an answer.
use Rattle.std.proofs.Common.{◌≡◌, inl, inr, ℕ, ◌≤◌, List, length, Result, Ok, Err, refl, ap, sym, subst}
use Rattle.std.proofs.lemmas.Bool.{false≢true}
use Rattle.outside.specs.{Writers.Puts, declared.sink.Sink.Ghosts, declared.sink.WriteErr.WriteErr}
use Rattle.outside.specs.declared.sink.WriteErr.TheVariants.{Failed, NoMemory as NoRoom}
use Rattle.tier_core.specs.declared.shape.Shape.{Shape}
use Rattle.grammar_reader.specs.{declared.grammar.Grammar.Grammar, Grammars.value_of, ShapeOf.IsShapeOf}
use Rattle.answer_text.specs.{declared.answer.Answer.Answer, Readable.IsReadable, Shape.widths_of, Sound.IsSound}
use Rattle.answer_text.specs.{Text.Widths, Values.answer_value}
use Rattle.answer_reader.specs.{Reading.{IsTextOf, answer_of}, Steps.At}
use Rattle.cert_check.specs.{FirstFaults.{IsReadableFor, asked_by}, Verdicts.IsVerdict, declared.fault.Fault.Fault}
use Rattle.cert_check.specs.{declared.fault.Verdict.Verdict, declared.fault.Verdict.TheVariants.{Yes, No as Not}}
use Rattle.verdict_text.specs.VerdictText.{verdict_text}
use Rattle.command_line.specs.declared.status.Status.{Status}
use Rattle.otp_tool.specs.{Answers.{IsJudged, IsReading, IsVerdictText}, Files.{IsHeld, answer_file}}
use Rattle.otp_tool.specs.{Findings.{Finding, FindsForCheck, ready}, Results.{IsNoText, IsYesText, text_widths}}
use Rattle.otp_tool.specs.Steps.{Change, IsCheckStep, IsCheckWork, IsNoEnd, IsRefusal, IsSecondRefusal}
use Rattle.otp_tool.specs.Steps.{RefusesAnswer, IsUntouched, SinkChange, no_end_of, taking_of, verdict_end}
use Rattle.otp_tool.proofs.GrammarLemmas.{same_requirements, same_tiers}
use Rattle.otp_tool.proofs.{RefusalLemmas.{refusal_weaker, second_refused}, CheckFindings.{is_read, one_reading}}
use Rattle.otp_tool.proofs.{SettledLemmas.{settled_by, shape_for}, StepLemmas.{same_shape_widths, written}}

-- a text that says No is written
module _ {O A : Type 0} {sink : Ghosts O} {old new : O} (writes : List ℕ
    → Type 0) (text : List ℕ) (w : writes text) where
  no_ends : (r : Result A WriteErr) → Puts sink old new text r → IsNoEnd writes (taking_of sink old new) (no_end_of r)
  no_ends (Ok done) p = record { text = text; is = w; taken = p.ok }
  no_ends (Err Failed) p = (record { text = text; is = w; part = p.part }, p.failed refl)
  no_ends (Err NoRoom) p = inr (record { text = text; is = w; part = p.part })

module _ (g : Grammar) where
  module _ (bytes : List ℕ) (within : length bytes ≤ 268435456) (shape : Shape) (of_grammar : IsShapeOf g shape) where
    refused_for_check : (x : Finding) → RefusesAnswer shape bytes x → FindsForCheck (value_of g) bytes x
    refused_for_check x r = rw r.is (record {
      within = within;
      shape = shape;
      of_grammar = shape_for g _ of_grammar;
      is = r.fact;
    })

    -- bytes that are refused have no verdict
    pub not_judged : (at : At) → answer_of shape bytes ≡ Err at → IsJudged (value_of g) bytes Yes → ⊥
    not_judged at refused j = false≢true (ap is_read (one_reading _ _ _ _
        (record { within = within; shape = shape; of_grammar = shape_for g _ of_grammar; is = refused }) (record {
          within = within;
          shape = j.reading.shape;
          of_grammar = j.reading.of_grammar;
          is = j.reading.read;
        })))

    pub no_answer_read : (t : SinkChange) → IsUntouched t → (s : Status) → IsRefusal (RefusesAnswer shape bytes) s
        → IsCheckStep (value_of g) bytes t s
    no_answer_read t e s r = inl (inl (
      refusal_weaker _ _ refused_for_check s r,
      e,
    ))

    module _ (answer : Answer) (read : IsTextOf shape bytes (answer_value shape answer)) (readable : IsReadable shape
        answer) where
      pub is_readable : IsReadableFor g answer
      is_readable = record { shape = shape; of_grammar = of_grammar; readable = readable }

      reading : IsReading (value_of g) bytes answer (asked_by g answer)
      reading = record {
        shape = shape;
        of_grammar = shape_for g _ of_grammar;
        read = read;
        is_asked = record { tiers = sym (same_tiers g); constraints = sym (same_requirements g); form = refl };
      }

      -- the verdict on what is read says whether the bytes have the verdict Yes
      pub is_yes : IsVerdict (asked_by g answer) answer Yes → IsJudged (value_of g) bytes Yes
      is_yes v = record {
        within = within;
        answer = answer;
        problem = asked_by g answer;
        reading = reading;
        is_verdict = v;
      }

      pub is_not_yes : (fault : Fault) → IsVerdict (asked_by g answer) answer (Not fault)
          → IsJudged (value_of g) bytes Yes → ⊥
      is_not_yes fault v j =
          let first = settled_by g bytes shape of_grammar answer read readable (Not fault) v j.answer j.problem
          j.reading in
          j.is_verdict fault first.place first.is

      pub is_ready : FindsForCheck (value_of g) bytes ready
      is_ready = (
        answer_value shape answer,
        record { within = within; shape = shape; of_grammar = shape_for g shape of_grammar; is = read },
      )

      pub is_text : (verdict : Verdict) → IsVerdict (asked_by g answer) answer verdict
          → (verdict ≡ Yes → IsSound (asked_by g answer) answer)
          → IsVerdictText text_widths verdict (value_of g) bytes (verdict_text (widths_of shape) verdict)
      is_text verdict v sound = record {
        within = within;
        answer = answer;
        problem = asked_by g answer;
        reading = reading;
        is_verdict = v;
        settled = settled_by g bytes shape of_grammar answer read readable verdict v;
        sound = sound;
        written = ap (λ (w : Widths). verdict_text w verdict) (same_shape_widths g shape of_grammar answer.form);
      }

      pub verdict_written : {O A : Type 0} {sink : Ghosts O} {old new : O} (verdict : Verdict)
          → IsVerdict (asked_by g answer) answer verdict → (verdict ≡ Yes → IsSound (asked_by g answer) answer)
          → (r : Result A WriteErr) → Puts sink old new (verdict_text (widths_of shape) verdict) r
          → (s : Status) → s ≡ verdict_end verdict r → IsCheckStep (value_of g) bytes (taking_of sink old new) s
      verdict_written {sink = sink} {old} {new} Yes v sound r p s e =
          inl (written (IsYesText (value_of g) bytes) (verdict_text (widths_of shape) Yes) (is_text Yes v sound)
          (FindsForCheck (value_of g) bytes) is_ready r p s e)
      verdict_written {sink = sink} {old} {new} (Not fault) v sound r p s e =
          inr (
            is_ready,
            subst (IsNoEnd (IsNoText (value_of g) bytes) (taking_of sink old new)) (sym e)
                (no_ends (IsNoText (value_of g) bytes) (verdict_text (widths_of shape) (Not fault))
                (fault, is_text (Not fault) v sound) r p),
          )

  -- ---- the command

  module _ (answer : List ℕ) (c : Change) where
    pub no_file_loaded : IsUntouched c.taking → (s : Status)
        → IsSecondRefusal (answer_file answer) (c.held answer) (c.faults_before answer) (c.faults_after answer) s
        → IsCheckWork (value_of g) answer c s
    no_file_loaded t s r =
        inl (second_refused (Unit {0}) (FindsForCheck (value_of g)) (IsYesText (value_of g)) c t
        (answer_file answer) tt (λ bytes l. (refl, l)) s r)

    pub judged : (bytes : List ℕ) → IsHeld (c.held answer) bytes → (s : Status)
        → IsCheckStep (value_of g) bytes c.taking s → IsCheckWork (value_of g) answer c s
    judged bytes h s (inl step) = inl (inr (record { bytes = bytes; holds = h; step = step }))
    judged bytes h s (inr n) = inr (record { bytes = bytes; holds = h; found = n.0; end = n.1 })
