-- What stands behind a status.
use Rattle.std.specs.Prelude.{◌≡◌, ℕ, ◌⊎◌, List, Option, Some}
use Rattle.outside.specs.Faults.{Rose}
use Rattle.grammar_reader.specs.Values.{GrammarValue}
use Rattle.cert_check.specs.declared.fault.Verdict.{Verdict}
use Rattle.cert_check.specs.declared.fault.Verdict.TheVariants.{Yes, No as Not}
use Rattle.command_line.specs.Commands.{Command, IsCommand, canon, score, generate, show, tableau, once, comprehend, check, sample, named_grammar}
use Rattle.command_line.specs.declared.status.Status.{Status}
use Rattle.command_line.specs.declared.status.Status.TheVariants.{Done, No, Usage, GrammarRefused, FormRefused, LexiconRefused, AnswerRefused, Budget, ReadFault, WriteFault, NoMemory, RowsRefused, TooLong}
use Rattle.otp_tool.specs.Answers.{HasVerdict}
use Rattle.otp_tool.specs.Files.{grammar_told, IsHeld, IsSecondHeld, NamedFile, grammar_file, second_file}
use Rattle.otp_tool.specs.Grammars.{OnGrammar}
use Rattle.otp_tool.specs.Findings.{Finding, Finds, ReachesSecondFile, long_file, no_grammar, no_form, long_second, no_rows, no_lexicon, no_answer, over_budget, ready}

-- The words are a command, and these are bytes that the shelf may hold under the names of its grammar
-- and of its second file: those that it tells, and any where it does not tell.
pub record MayRead (words : List (List ℕ)) (held : List ℕ
    → Option (List ℕ)) (command : Command) (bytes second : List ℕ) : Type 0 where
  pub are : IsCommand words command
  pub holds : IsHeld (grammar_told held (named_grammar command)) bytes
  pub holds_second : IsSecondHeld held (second_file command) second

-- the words are a command, which finds this in bytes that the shelf may hold
pub record IsBehind (words : List (List ℕ)) (held : List ℕ → Option (List ℕ)) (finding : Finding) : Type 0 where
  pub command : Command
  pub bytes : List ℕ
  pub second : List ℕ
  pub reads : MayRead words held command bytes second
  pub finds : Finds command bytes second finding

-- The words are a command, which finds nothing but this in any bytes that the shelf may hold. Since it finds
-- one thing in its files, it is enough that it finds this.
pub record IsTold (words : List (List ℕ)) (held : List ℕ → Option (List ℕ)) (finding : Finding) : Type 0 where
  pub command : Command
  pub are : IsCommand words command
  pub only : (bytes second : List ℕ) → MayRead words held command bytes second → (other : Finding)
      → Finds command bytes second other → other ≡ finding

-- the words are a command, and something holds of a text of this kind that it writes for bytes that the shelf may hold
pub record IsWrittenBehind (words : List (List ℕ)) (held : List ℕ → Option (List ℕ))
    (writes : Command → GrammarValue → List ℕ → List ℕ → Type 0) (P : List ℕ → Type 0) : Type 0 where
  pub command : Command
  pub bytes : List ℕ
  pub second : List ℕ
  pub reads : MayRead words held command bytes second
  pub text : List ℕ
  pub result : OnGrammar (λ g. writes command g second text) bytes
  pub fact : P text

-- a command accepts all that stands before its second file
pub record HasReached (held : List ℕ → Option (List ℕ)) (command : Command) : Type 0 where
  pub bytes : List ℕ
  pub holds : IsHeld (grammar_told held (named_grammar command)) bytes
  pub accepts : OnGrammar (ReachesSecondFile command) bytes

-- the file is that of a command's grammar, or its second one, and the command comes to load it
abbrev pub Loads : (List ℕ → Option (List ℕ)) → Command → NamedFile → Type 0
Loads held command file =
    (grammar_file command ≡ Some file) ⊎ ((second_file command ≡ Some file) × HasReached held command)

-- The words are a command, and this word of it names a file that it comes to load, and the count of
-- faults of whose name rose.
pub record HasReadFault (words : List (List ℕ)) (held : List ℕ → Option (List ℕ)) (before after : List ℕ
    → ℕ) (word : ℕ) : Type 0 where
  pub command : Command
  pub are : IsCommand words command
  pub file : NamedFile
  pub loads : Loads held command file
  pub by_word : word ≡ file.word
  pub rose : Rose (before file.name) (after file.name)

-- the file that this word names is too long
abbrev pub IsTooLong : List (List ℕ) → (List ℕ → Option (List ℕ)) → ℕ → Type 0
IsTooLong words held word = ((word ≡ 1) × IsBehind words held long_file) ⊎ IsBehind words held (long_second word)

-- whatever command the words are, it names no file so
abbrev pub IsUnnamed : List (List ℕ) → List ℕ → Type 0
IsUnnamed words name =
    (command : Command) → IsCommand words command
    → (¬ (named_grammar command ≡ Some name)) × ((file : NamedFile) → second_file command ≡ Some file → ¬ (file.name ≡ name))

-- the status that answers a finding
abbrev pub answer_to : Finding → Status
answer_to long_file = TooLong 1
answer_to (no_grammar line cause) = GrammarRefused 1 line cause
answer_to (no_form word cause) = FormRefused word cause
answer_to (long_second word) = TooLong word
answer_to (no_rows row cause) = RowsRefused 3 row cause
answer_to (no_lexicon cause) = LexiconRefused 2 cause
answer_to (no_answer line cause) = AnswerRefused 2 line cause
answer_to (over_budget entry stage) = Budget entry stage
answer_to ready = Done

-- The status is this one, or memory ran out, or reading failed.
abbrev pub Stands : Status → Status → Type 0
Stands due status = (status ≡ due) ⊎ ((status ≡ NoMemory) ⊎ ((word : ℕ) × (status ≡ ReadFault word)))

-- a command checks the answer of its second file
abbrev pub Checks : Command → Type 0
Checks (canon name) = ⊥
Checks (score name word) = ⊥
Checks (generate name form budget) = ⊥
Checks (show name form budget) = ⊥
Checks (tableau name form rows budget) = ⊥
Checks (once name form budget) = ⊥
Checks (comprehend name lexicon surface budget) = ⊥
Checks (check name answer) = Unit {0}
Checks (sample n) = ⊥

-- the status of a verdict
abbrev pub status_of : Verdict → Status
status_of Yes = Done
status_of (Not fault) = No

-- The words are a command that checks an answer. It refuses nothing in any bytes that the shelf may hold, and
-- these have no verdict but those with the status of this one.
pub record IsToldVerdict (words : List (List ℕ)) (held : List ℕ → Option (List ℕ)) (verdict : Verdict) : Type 0 where
  pub accepts : IsTold words held ready
  pub checks : Checks accepts.command
  pub only : (bytes second : List ℕ) → MayRead words held accepts.command bytes second → (other : Verdict)
      → OnGrammar (λ g. HasVerdict g second other) bytes → status_of other ≡ status_of verdict

-- a status that comes before anything is written
abbrev pub IsBeforeWriting : Status → Type 0
IsBeforeWriting Done = ⊥
IsBeforeWriting No = ⊥
IsBeforeWriting Usage = Unit {0}
IsBeforeWriting (GrammarRefused word line cause) = Unit {0}
IsBeforeWriting (FormRefused word cause) = Unit {0}
IsBeforeWriting (LexiconRefused word cause) = Unit {0}
IsBeforeWriting (AnswerRefused word line cause) = Unit {0}
IsBeforeWriting (Budget entry stage) = Unit {0}
IsBeforeWriting (ReadFault word) = Unit {0}
IsBeforeWriting WriteFault = ⊥
IsBeforeWriting NoMemory = ⊥
IsBeforeWriting (RowsRefused word row cause) = Unit {0}
IsBeforeWriting (TooLong word) = Unit {0}
