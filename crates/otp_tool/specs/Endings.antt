-- What is promised of a status, and how a program ends: with the number of a status, whose line a second sink
-- is given.
use Rattle.std.specs.Prelude.{◌≡◌, ◌≢◌, ℕ, ◌⊎◌, ◌↔◌, List, Option, Some, Result}
use Rattle.outside.specs.Faults.{Rose}
use Rattle.outside.specs.Held.{visible_text}
use Rattle.outside.specs.Sent.{append_if_seen, HasSentPart}
use Rattle.outside.specs.Writers.{Puts}
use Rattle.outside.specs.declared.sink.Sink.{Ghosts as SinkGhosts}
use Rattle.outside.specs.declared.sink.WriteErr.{WriteErr}
use Rattle.timeline_text.specs.declared.form_err.FormErr.{FormErr}
use Rattle.grammar_reader.specs.declared.grammar_err.GrammarCause.{GrammarCause}
use Rattle.tableau.specs.declared.rows_err.RowsCause.{RowsCause}
use Rattle.answer_reader.specs.declared.answer_err.AnswerCause.{AnswerCause}
use Rattle.lexicon.specs.declared.lex_err.LexErr.{LexErr}
use Rattle.cert_check.specs.declared.fault.Verdict.{Verdict}
use Rattle.command_line.specs.Commands.{IsNoCommand}
use Rattle.command_line.specs.declared.status.Status.{Status}
use Rattle.command_line.specs.declared.status.Status.TheVariants.{Done, No, Usage, GrammarRefused, FormRefused, LexiconRefused, AnswerRefused, Budget, ReadFault, WriteFault, NoMemory, RowsRefused, TooLong}
use Rattle.command_line.specs.Lines.{status_number, status_text}
use Rattle.otp_tool.specs.Findings.{Finding, no_grammar, no_form, no_rows, no_lexicon, no_answer, over_budget, ready}
use Rattle.otp_tool.specs.Outcomes.{HasReadFault, IsBeforeWriting, IsBehind, IsTold, IsToldVerdict, IsTooLong, IsWrittenBehind, Stands, answer_to, status_of}
use Rattle.otp_tool.specs.Results.{IsNoResult, IsResult, IsAnyResult}
use Rattle.otp_tool.specs.Steps.{Change}

-- all that `run` promises of a status
pub record IsStatusOf (words : List (List ℕ)) (c : Change) (status : Status) : Type 0 where
  pub done : status ≡ Done
      → IsWrittenBehind words c.held IsResult (λ text. c.taking.new ≡ append_if_seen c.taking.old text)
  pub no : status ≡ No
      → IsWrittenBehind words c.held IsNoResult (λ text. c.taking.new ≡ append_if_seen c.taking.old text)
  pub nothing_refused : (status ≡ Done) ⊎ (status ≡ No) → IsBehind words c.held ready
  pub complete : IsTold words c.held ready
      → ((word : ℕ) → ¬ HasReadFault words c.held c.faults_before c.faults_after word)
      → ¬ Rose c.taking.before c.taking.after → (status ≡ Done) ⊎ ((status ≡ No) ⊎ (status ≡ NoMemory))
  pub settled : (verdict : Verdict) → IsToldVerdict words c.held verdict
      → ((word : ℕ) → ¬ HasReadFault words c.held c.faults_before c.faults_after word)
      → ¬ Rose c.taking.before c.taking.after → (status ≡ status_of verdict) ⊎ (status ≡ NoMemory)
  pub usage : (status ≡ Usage) ↔ IsNoCommand words
  pub read_fault : (word : ℕ) → status ≡ ReadFault word
      → HasReadFault words c.held c.faults_before c.faults_after word
  pub too_long : (word : ℕ) → status ≡ TooLong word → IsTooLong words c.held word
  pub grammar_refused : (word line : ℕ) (cause : GrammarCause) → status ≡ GrammarRefused word line cause
      → (word ≡ 1) × IsBehind words c.held (no_grammar line cause)
  pub form_refused : (word : ℕ) (cause : FormErr) → status ≡ FormRefused word cause
      → IsBehind words c.held (no_form word cause)
  pub rows_refused : (word row : ℕ) (cause : RowsCause) → status ≡ RowsRefused word row cause
      → (word ≡ 3) × IsBehind words c.held (no_rows row cause)
  pub lexicon_refused : (word : ℕ) (cause : LexErr) → status ≡ LexiconRefused word cause
      → (word ≡ 2) × IsBehind words c.held (no_lexicon cause)
  pub answer_refused : (word line : ℕ) (cause : AnswerCause) → status ≡ AnswerRefused word line cause
      → (word ≡ 2) × IsBehind words c.held (no_answer line cause)
  pub budget : (entry stage : ℕ) → status ≡ Budget entry stage → IsBehind words c.held (over_budget entry stage)
  pub write_fault : status ≡ WriteFault → IsBehind words c.held ready × Rose c.taking.before c.taking.after
  pub due : (finding : Finding) → finding ≢ ready → IsTold words c.held finding → Stands (answer_to finding) status
  pub untouched : IsBeforeWriting status → c.taking.new ≡ c.taking.old
  pub no_fault_counted : IsBeforeWriting status → c.taking.after ≡ c.taking.before
  pub begun : status ≡ WriteFault
      → IsWrittenBehind words c.held IsAnyResult (λ text. HasSentPart c.taking.old text c.taking.new)
  pub no_memory : status ≡ NoMemory → (c.taking.new ≡ c.taking.old)
      ⊎ IsWrittenBehind words c.held IsAnyResult (λ text. HasSentPart c.taking.old text c.taking.new)

-- what a call over files and a sink in memory has before and after: no fault is ever counted
abbrev pub change_in_memory : List (List ℕ × List ℕ) → List ℕ → List ℕ → Change
change_in_memory files old new = record {
  held = visible_text files;
  faults_before = λ name. 0;
  faults_after = λ name. 0;
  taking = record { old = Some old; new = Some new; before = 0; after = 0 };
}

-- the number is that of a status of these words, and a second sink was given the line of that status
pub record IsEnding {E : Type 0} (words : List (List ℕ)) (c : Change) (errors : SinkGhosts E) (old new : E)
    (number : ℕ) : Type 0 where
  pub status : Status
  pub is_status : IsStatusOf words c status
  pub is_number : number ≡ status_number status
  -- what writing the line answered
  pub written : Result (Unit {0}) WriteErr
  pub line : Puts errors old new (status_text status) written
