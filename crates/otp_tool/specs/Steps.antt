-- What each step of a command answers.
use Rattle.std.specs.Prelude.{◌≡◌, ℕ, ◌<◌, ◌≤◌, ◌⊎◌, List, length, Option, Some, IfSome, Result, Ok, Err}
use Rattle.outside.specs.Faults.{Rose}
use Rattle.outside.specs.declared.shelf.Shelf.{Ghosts as ShelfGhosts}
use Rattle.outside.specs.declared.sink.Sink.{Ghosts as SinkGhosts}
use Rattle.outside.specs.declared.sink.WriteErr.{WriteErr}
use Rattle.outside.specs.declared.sink.WriteErr.TheVariants.{Failed, NoMemory as NoRoom}
use Rattle.outside.specs.Sent.{append_if_seen, HasSentPart}
use Rattle.tier_core.specs.declared.sym.Sym.{Sym}
use Rattle.tier_core.specs.declared.constraint.Constraint.{Constraint}
use Rattle.tier_core.specs.declared.tier.TierTable.{TierTable}
use Rattle.tier_core.specs.Tables.{tiers_of_table}
use Rattle.violation.specs.Candidates.{IsForm}
use Rattle.violation.specs.Problems.{Problem, problem_from, last_stage}
use Rattle.violation.specs.Rests.{AreWholeKindsOver}
use Rattle.comprehend.specs.Hears.{IsFirstEntryOver}
use Rattle.answer_text.specs.declared.answer.Answer.{Answer}
use Rattle.answer_text.specs.Right.{IsRight}
use Rattle.tier_core.specs.declared.shape.Shape.{Shape}
use Rattle.answer_reader.specs.Reading.{answer_of}
use Rattle.answer_reader.specs.Steps.{At}
use Rattle.cert_check.specs.declared.fault.Verdict.{Verdict}
use Rattle.cert_check.specs.declared.fault.Verdict.TheVariants.{Yes, No as Not}
use Rattle.kind_orders.specs.JoinedArcs.{HaveJoinedArcs}
use Rattle.ranked_gen.specs.Budgets.{AreAllWithin, HaveFewKinds, IsFirstOver}
use Rattle.grammar_reader.specs.declared.grammar_err.GrammarCause.{GrammarCause}
use Rattle.grammar_reader.specs.Values.{GrammarValue}
use Rattle.grammar_reader.specs.Reading.{grammar_of}
use Rattle.command_line.specs.Commands.{Command, IsCommand, IsNoCommand, canon, score, generate, show, tableau, once, comprehend, check, sample}
use Rattle.command_line.specs.declared.status.Status.{Status}
use Rattle.command_line.specs.declared.status.Status.TheVariants.{Done, No, Usage, GrammarRefused, FormRefused, LexiconRefused, AnswerRefused, Budget, ReadFault, WriteFault, NoMemory, RowsRefused, TooLong}
use Rattle.otp_tool.specs.Files.{IsHeld, IsSecondHeld, NamedFile, answer_file, lexicon_file, rows_file, second_file}
use Rattle.std.specs.Str.Lines.{lines}
use Rattle.form_reader.specs.Forms.{IsRefusedFor}
use Rattle.tableau.specs.declared.rows_err.RowsCause.{RowsCause}
use Rattle.tableau.specs.declared.table.Tableau.{Tableau}
use Rattle.tableau.specs.Rows.{AreRowsOf}
use Rattle.tableau.specs.Tableaux.{IsTableauOf}
use Rattle.otp_tool.specs.Grammars.{IsFileOf, IsAsked, grammar_inputs}
use Rattle.otp_tool.specs.Findings.{Finding, FindsIn, FindsForCheck, FindsForHearing, FindsForTableau, HasForm, IsNoRowsFile, IsRowsFile, ReachesSecondFile, no_grammar, no_form, long_second, no_rows, no_lexicon, no_answer, over_budget, ready}
use Rattle.otp_tool.specs.Lexicons.{HasSurfaceWord, IsNoLexiconFile, IsNoSurface}
use Rattle.otp_tool.specs.Results.{IsHeardText, IsNoResult, IsNoText, IsResult, IsTableauText, IsAnyResult, IsYesText}
use Rattle.otp_tool.specs.Outcomes.{IsBehind, IsTooLong, IsWrittenBehind, HasReadFault}

-- the budget of a command is from 1 to 65,536, and the number of a sample from 1 to 63
abbrev pub HasFitBudget : Command → Type 0
HasFitBudget (canon name) = Unit {0}
HasFitBudget (score name word) = Unit {0}
HasFitBudget (generate name form budget) = (1 ≤ budget) × (budget ≤ 65536)
HasFitBudget (show name form budget) = (1 ≤ budget) × (budget ≤ 65536)
HasFitBudget (tableau name form rows budget) = (1 ≤ budget) × (budget ≤ 65536)
HasFitBudget (once name form budget) = (1 ≤ budget) × (budget ≤ 65536)
HasFitBudget (comprehend name lexicon surface budget) = (1 ≤ budget) × (budget ≤ 65536)
HasFitBudget (check name answer) = Unit {0}
HasFitBudget (sample n) = (1 ≤ n) × (n ≤ 63)

-- a grammar is that of a file that is held
pub record IsLoaded (held : Option (List ℕ)) (g : GrammarValue) : Type 0 where
  pub bytes : List ℕ
  pub holds : IsHeld held bytes
  pub file : IsFileOf bytes g

-- a file that is held is not a grammar
pub record IsUnread (held : Option (List ℕ)) (line : ℕ) (cause : GrammarCause) : Type 0 where
  pub bytes : List ℕ
  pub holds : IsHeld held bytes
  pub within : length bytes ≤ 65536
  pub refused : grammar_of bytes ≡ Err (record { line = line; cause = cause })

abbrev pub IsLoadRefusal : Option (List ℕ) → ℕ → ℕ → Status → Type 0
IsLoadRefusal held before after Done = ⊥
IsLoadRefusal held before after No = ⊥
IsLoadRefusal held before after Usage = ⊥
IsLoadRefusal held before after (GrammarRefused word line cause) = (word ≡ 1) × IsUnread held line cause
IsLoadRefusal held before after (FormRefused word cause) = ⊥
IsLoadRefusal held before after (LexiconRefused word cause) = ⊥
IsLoadRefusal held before after (AnswerRefused word line cause) = ⊥
IsLoadRefusal held before after (Budget entry stage) = ⊥
IsLoadRefusal held before after (ReadFault word) = (word ≡ 1) × Rose before after
IsLoadRefusal held before after WriteFault = ⊥
IsLoadRefusal held before after NoMemory = Unit {0}
IsLoadRefusal held before after (RowsRefused word row cause) = ⊥
IsLoadRefusal held before after (TooLong word) = (word ≡ 1) × IfSome held (λ text. 65536 < length text)

-- why a second file is not loaded
abbrev pub IsSecondRefusal : NamedFile → Option (List ℕ) → ℕ → ℕ → Status → Type 0
IsSecondRefusal file held before after Done = ⊥
IsSecondRefusal file held before after No = ⊥
IsSecondRefusal file held before after Usage = ⊥
IsSecondRefusal file held before after (GrammarRefused word line cause) = ⊥
IsSecondRefusal file held before after (FormRefused word cause) = ⊥
IsSecondRefusal file held before after (LexiconRefused word cause) = ⊥
IsSecondRefusal file held before after (AnswerRefused word line cause) = ⊥
IsSecondRefusal file held before after (Budget entry stage) = ⊥
IsSecondRefusal file held before after (ReadFault word) = (word ≡ file.word) × Rose before after
IsSecondRefusal file held before after WriteFault = ⊥
IsSecondRefusal file held before after NoMemory = Unit {0}
IsSecondRefusal file held before after (RowsRefused word row cause) = ⊥
IsSecondRefusal file held before after (TooLong word) =
    (word ≡ file.word) × IfSome held (λ text. file.limit < length text)

-- why nothing is made, before anything is written
abbrev pub IsRefusal : (Finding → Type 0) → Status → Type 0
IsRefusal finds Done = ⊥
IsRefusal finds No = ⊥
IsRefusal finds Usage = ⊥
IsRefusal finds (GrammarRefused word line cause) = ⊥
IsRefusal finds (FormRefused word cause) = finds (no_form word cause)
IsRefusal finds (LexiconRefused word cause) = (word ≡ 2) × finds (no_lexicon cause)
IsRefusal finds (AnswerRefused word line cause) = (word ≡ 2) × finds (no_answer line cause)
IsRefusal finds (Budget entry stage) = finds (over_budget entry stage)
IsRefusal finds (ReadFault word) = ⊥
IsRefusal finds WriteFault = ⊥
IsRefusal finds NoMemory = Unit {0}
IsRefusal finds (RowsRefused word row cause) = (word ≡ 3) × finds (no_rows row cause)
IsRefusal finds (TooLong word) = finds (long_second word)

-- a finding is this one, of something for which a relation holds
pub record IsFindingOf {A : Type 0} (finding : A → Finding) (P : A → Type 0) (x : Finding) : Type 0 where
  pub value : A
  pub is : x ≡ finding value
  pub fact : P value

-- the word of a form is refused
abbrev pub RefusesForm : GrammarValue → List ℕ → Finding → Type 0
RefusesForm g word = IsFindingOf (no_form 2) (IsRefusedFor (grammar_inputs g) g.letters word)

-- a stage has more kinds than the budget
abbrev pub RefusesBudget : Problem → ℕ → Finding → Type 0
RefusesBudget problem budget = IsFindingOf (over_budget 0) (IsFirstOver problem budget)

-- there are more kinds under all constraints than the budget, which are those of the last stage
abbrev pub RefusesOnce : Problem → ℕ → Finding → Type 0
RefusesOnce problem budget =
    IsFindingOf (over_budget 0) (λ stage. (stage ≡ last_stage problem) × AreWholeKindsOver problem budget)

-- the word of a surface is refused
abbrev pub RefusesSurface : GrammarValue → List ℕ → Finding → Type 0
RefusesSurface g word = IsFindingOf (no_form 3) (IsNoSurface g word)

-- a file is not a lexicon file
abbrev pub RefusesLexicon : GrammarValue → List ℕ → Finding → Type 0
RefusesLexicon g bytes = IsFindingOf no_lexicon (IsNoLexiconFile g bytes)

-- an entry has a stage with more kinds than the budget
abbrev pub RefusesEntry : (List (List Sym) → Problem) → List (List (List Sym)) → ℕ → Finding → Type 0
RefusesEntry ask forms budget =
    IsFindingOf (λ (at : ℕ × ℕ). over_budget at.0 at.1) (λ at. IsFirstEntryOver ask forms budget at.0 at.1)

-- bytes are those of no answer, for a shape
abbrev pub RefusesAnswer : Shape → List ℕ → Finding → Type 0
RefusesAnswer shape bytes =
    IsFindingOf (λ (at : At). no_answer at.line at.cause) (λ at. answer_of shape bytes ≡ Err at)

-- a file is not a rows file for a problem
abbrev pub RefusesFile : Problem → List ℕ → Finding → Type 0
RefusesFile problem bytes =
    IsFindingOf (λ (at : ℕ × RowsCause). no_rows at.0 at.1) (λ at. IsNoRowsFile bytes at.0 at.1 problem)

-- a tableau of a problem is refused for a rows file, or for the budget
abbrev pub RefusesRows : Problem → ℕ → List ℕ → Finding → Type 0
RefusesRows problem budget bytes x =
    RefusesFile problem bytes x ⊎ (IsRowsFile bytes problem × RefusesBudget problem budget x)

-- an answer is right for the form that a word is read as, which has at most 64 columns; its arcs are
-- joined, and no stage has more kinds than the budget: each has its list of kinds
pub record IsAnswerFor (table : TierTable) (constraints : List Constraint) (g : GrammarValue) (form : List ℕ)
    (budget : ℕ)
    (answer : Answer) : Type 0 where
  pub u : List (List Sym)
  pub is_asked : IsAsked g form (problem_from table constraints u)
  pub is_form : IsForm (tiers_of_table table) u
  pub short : length u ≤ 64
  pub right : IsRight (problem_from table constraints u) answer
  pub joined : HaveJoinedArcs answer.automaton.states.items
  pub within : AreAllWithin (problem_from table constraints u) budget
  pub listed : HaveFewKinds (problem_from table constraints u) budget

-- a tableau is that of a problem under constraints that are called so, with the rows of a rows file, and no
-- stage has more kinds than the budget
pub record IsMadeTableau (called : List (List ℕ)) (problem : Problem) (budget : ℕ) (bytes : List ℕ)
    (made : Tableau) : Type 0 where
  pub rows : List (List (List Sym))
  pub read : AreRowsOf problem (lines bytes) rows
  pub is_tableau : IsTableauOf called problem rows made
  pub within : AreAllWithin problem budget

-- what a sink has taken, and its faults, before and after
pub record SinkChange : Type 0 where
  pub old : Option (List ℕ)
  pub new : Option (List ℕ)
  pub before : ℕ
  pub after : ℕ

abbrev pub taking_of : {O : Type 0} → SinkGhosts O → O → O → SinkChange
taking_of sink old new =
    record { old = sink.taken old; new = sink.taken new; before = sink.faults old; after = sink.faults new }

-- nothing was handed to the sink: it has taken what it had, and has the faults that it had
abbrev pub IsUntouched : SinkChange → Type 0
IsUntouched t = ◌≡◌ {A = Option (List ℕ) × ℕ} (t.new, t.after) (t.old, t.before)

-- a text of this kind was written as a whole, or a front of it
pub record IsAllTaken (writes : List ℕ → Type 0) (t : SinkChange) : Type 0 where
  pub text : List ℕ
  pub is : writes text
  pub taken : t.new ≡ append_if_seen t.old text

pub record IsPartTaken (writes : List ℕ → Type 0) (t : SinkChange) : Type 0 where
  pub text : List ℕ
  pub is : writes text
  pub part : HasSentPart t.old text t.new

-- the status that the writing of a text ends with
abbrev pub write_status : {A : Type 0} → Result A WriteErr → Status
write_status (Ok done) = Done
write_status (Err Failed) = WriteFault
write_status (Err NoRoom) = NoMemory

-- how the writing of a text ends
abbrev pub IsWriteStatus : (List ℕ → Type 0) → SinkChange → Status → Type 0
IsWriteStatus writes t Done = IsAllTaken writes t
IsWriteStatus writes t No = ⊥
IsWriteStatus writes t Usage = ⊥
IsWriteStatus writes t (GrammarRefused word line cause) = ⊥
IsWriteStatus writes t (FormRefused word cause) = ⊥
IsWriteStatus writes t (LexiconRefused word cause) = ⊥
IsWriteStatus writes t (AnswerRefused word line cause) = ⊥
IsWriteStatus writes t (Budget entry stage) = ⊥
IsWriteStatus writes t (ReadFault word) = ⊥
IsWriteStatus writes t WriteFault = IsPartTaken writes t × Rose t.before t.after
IsWriteStatus writes t NoMemory = (t.new ≡ t.old) ⊎ IsPartTaken writes t
IsWriteStatus writes t (RowsRefused word row cause) = ⊥
IsWriteStatus writes t (TooLong word) = ⊥

-- how the writing of a text ends that says No
abbrev pub no_end_of : {A : Type 0} → Result A WriteErr → Status
no_end_of (Ok done) = No
no_end_of (Err Failed) = WriteFault
no_end_of (Err NoRoom) = NoMemory

-- the status that the writing of a verdict ends with
abbrev pub verdict_end : {A : Type 0} → Verdict → Result A WriteErr → Status
verdict_end Yes written = write_status written
verdict_end (Not fault) written = no_end_of written

abbrev pub IsNoEnd : (List ℕ → Type 0) → SinkChange → Status → Type 0
IsNoEnd writes t Done = ⊥
IsNoEnd writes t No = IsAllTaken writes t
IsNoEnd writes t Usage = ⊥
IsNoEnd writes t (GrammarRefused word line cause) = ⊥
IsNoEnd writes t (FormRefused word cause) = ⊥
IsNoEnd writes t (LexiconRefused word cause) = ⊥
IsNoEnd writes t (AnswerRefused word line cause) = ⊥
IsNoEnd writes t (Budget entry stage) = ⊥
IsNoEnd writes t (ReadFault word) = ⊥
IsNoEnd writes t WriteFault = IsPartTaken writes t × Rose t.before t.after
IsNoEnd writes t NoMemory = (t.new ≡ t.old) ⊎ IsPartTaken writes t
IsNoEnd writes t (RowsRefused word row cause) = ⊥
IsNoEnd writes t (TooLong word) = ⊥

-- what a command does with a grammar: it refuses and writes nothing, or it is ready and writes
abbrev pub IsStep : (Finding → Type 0) → (List ℕ → Type 0) → SinkChange → Status → Type 0
IsStep finds writes t status = (IsRefusal finds status × IsUntouched t)
    ⊎ (finds ready × IsWriteStatus writes t status)

-- what a shelf holds, and its faults and what a sink has taken, before and after
pub record Change : Type 0 where
  pub held : List ℕ → Option (List ℕ)
  pub faults_before : List ℕ → ℕ
  pub faults_after : List ℕ → ℕ
  pub taking : SinkChange

abbrev pub change_of : {F O : Type 0} → ShelfGhosts F → SinkGhosts O → F → F → O → O → Change
change_of shelf sink from to old new = record {
  held = shelf.held from;
  faults_before = shelf.faults from;
  faults_after = shelf.faults to;
  taking = taking_of sink old new;
}

-- a second file that a command comes to load is not read
pub record IsNotRead (second : Option NamedFile) (reaches : Type 0) (c : Change) (status : Status) : Type 0 where
  pub file : NamedFile
  pub is_second : second ≡ Some file
  pub reached : reaches
  pub rose : Rose (c.faults_before file.name) (c.faults_after file.name)
  pub answer : status ≡ ReadFault file.word
  pub untouched : IsUntouched c.taking

-- a step that looks at bytes of a second file, which may be held
pub record IsStepWith (second : Option NamedFile) (finds : List ℕ → Finding → Type 0) (writes : List ℕ → List ℕ
    → Type 0)
    (c : Change) (status : Status) : Type 0 where
  pub bytes : List ℕ
  pub holds : IsSecondHeld c.held second bytes
  pub step : IsStep (finds bytes) (writes bytes) c.taking status

-- what a command does with a grammar and perhaps a second file
abbrev pub IsWork : Option NamedFile → Type 0 → (List ℕ → Finding → Type 0) → (List ℕ → List ℕ → Type 0) → Change
    → Status → Type 0
IsWork second reaches finds writes c status = IsNotRead second reaches c status
    ⊎ IsStepWith second finds writes c status

-- a command that looks at bytes of a second file, which may be held, is ready, and writes a text that says No
pub record IsNoWork (second : Option NamedFile) (finds : List ℕ → Finding → Type 0) (writes : List ℕ → List ℕ
    → Type 0)
    (c : Change) (status : Status) : Type 0 where
  pub bytes : List ℕ
  pub holds : IsSecondHeld c.held second bytes
  pub found : finds bytes ready
  pub end : IsNoEnd (writes bytes) c.taking status

abbrev pub IsWorkOf : Command → GrammarValue → Change → Status → Type 0
IsWorkOf command g c status =
    IsWork (second_file command) (ReachesSecondFile command g) (FindsIn command g) (IsResult command g) c status
    ⊎ IsNoWork (second_file command) (FindsIn command g) (IsNoResult command g) c status

-- what `check` does with a grammar and the bytes of an answer's file
abbrev pub IsCheckStep : GrammarValue → List ℕ → SinkChange → Status → Type 0
IsCheckStep g bytes t status =
    IsStep (FindsForCheck g bytes) (IsYesText g bytes) t status
    ⊎ (FindsForCheck g bytes ready × IsNoEnd (IsNoText g bytes) t status)

abbrev pub IsCheckWork : GrammarValue → List ℕ → Change → Status → Type 0
IsCheckWork g answer c status =
    IsWork (Some (answer_file answer)) (Unit {0}) (FindsForCheck g) (IsYesText g) c status
    ⊎ IsNoWork (Some (answer_file answer)) (FindsForCheck g) (IsNoText g) c status

abbrev pub IsTableauWork : GrammarValue → List ℕ → List ℕ → ℕ → Change → Status → Type 0
IsTableauWork g form rows budget c status =
    IsWork (Some (rows_file rows)) (HasForm g form) (FindsForTableau g form budget) (IsTableauText g form) c status

abbrev pub IsHearingWork : GrammarValue → List ℕ → List ℕ → ℕ → Change → Status → Type 0
IsHearingWork g lexicon surface budget c status =
    IsWork (Some (lexicon_file lexicon)) (HasSurfaceWord g surface) (FindsForHearing g surface budget)
    (IsHeardText g surface) c status

-- what stands behind each status of a command
abbrev pub IsOutcome : List (List ℕ) → Change → Status → Type 0
IsOutcome words c Done =
    IsBehind words c.held ready
    × IsWrittenBehind words c.held IsResult (λ text. c.taking.new ≡ append_if_seen c.taking.old text)
IsOutcome words c No =
    IsBehind words c.held ready
    × IsWrittenBehind words c.held IsNoResult (λ text. c.taking.new ≡ append_if_seen c.taking.old text)
IsOutcome words c Usage = IsNoCommand words × IsUntouched c.taking
IsOutcome words c (GrammarRefused word line cause) =
    (word ≡ 1) × IsBehind words c.held (no_grammar line cause) × IsUntouched c.taking
IsOutcome words c (FormRefused word cause) =
    IsBehind words c.held (no_form word cause) × IsUntouched c.taking
IsOutcome words c (LexiconRefused word cause) =
    (word ≡ 2) × IsBehind words c.held (no_lexicon cause) × IsUntouched c.taking
IsOutcome words c (AnswerRefused word line cause) =
    (word ≡ 2) × IsBehind words c.held (no_answer line cause) × IsUntouched c.taking
IsOutcome words c (Budget entry stage) =
    IsBehind words c.held (over_budget entry stage) × IsUntouched c.taking
IsOutcome words c (ReadFault word) =
    HasReadFault words c.held c.faults_before c.faults_after word × IsUntouched c.taking
IsOutcome words c WriteFault =
    IsBehind words c.held ready
    × IsWrittenBehind words c.held IsAnyResult (λ text. HasSentPart c.taking.old text c.taking.new)
    × Rose c.taking.before c.taking.after
IsOutcome words c NoMemory =
    ((command : Command) × IsCommand words command)
    × ((c.taking.new ≡ c.taking.old)
    ⊎ IsWrittenBehind words c.held IsAnyResult (λ text. HasSentPart c.taking.old text c.taking.new))
IsOutcome words c (RowsRefused word row cause) =
    (word ≡ 3) × IsBehind words c.held (no_rows row cause) × IsUntouched c.taking
IsOutcome words c (TooLong word) = IsTooLong words c.held word × IsUntouched c.taking
