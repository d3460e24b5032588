-- What a command finds, from the file of its grammar on, before it writes.
use Rattle.std.specs.Prelude.{◌≡◌, ℕ, ◌<◌, ◌≤◌, List, length, Err}
use Rattle.std.specs.Str.Lines.{lines}
use Rattle.tier_core.specs.declared.sym.Sym.{Sym}
use Rattle.timeline_text.specs.declared.form_err.FormErr.{FormErr}
use Rattle.grammar_reader.specs.declared.grammar_err.GrammarCause.{GrammarCause}
use Rattle.grammar_reader.specs.Values.{GrammarValue}
use Rattle.grammar_reader.specs.Reading.{grammar_of}
use Rattle.ranked_gen.specs.Budgets.{AreAllWithin, HaveFewKinds, IsFirstOver}
use Rattle.tableau.specs.declared.rows_err.RowsCause.{RowsCause}
use Rattle.tableau.specs.Rows.{AreRowsOf, IsRefusedAt}
use Rattle.command_line.specs.Commands.{Command, canon, score, generate, show, tableau, once, comprehend, check, sample}
use Rattle.form_reader.specs.Forms.{IsReadAs, IsRefusedFor}
use Rattle.lexicon.specs.declared.lex_err.LexErr.{LexErr}
use Rattle.comprehend.specs.Hears.{AreEntriesWithin, IsFirstEntryOver}
use Rattle.violation.specs.Problems.{Problem, last_stage}
use Rattle.violation.specs.Rests.{AreWholeKindsOver, AreWholeKindsWithin}
use Rattle.answer_reader.specs.declared.answer_err.AnswerCause.{AnswerCause}
use Rattle.otp_tool.specs.Answers.{HasAnswer, IsNoAnswer}
use Rattle.otp_tool.specs.Samples.{sample_word}
use Rattle.otp_tool.specs.Scored.{IsNotScored, IsScored}
use Rattle.otp_tool.specs.Grammars.{IsAsked, OnGrammar, OnProblem, grammar_inputs}
use Rattle.otp_tool.specs.Lexicons.{HasSurfaceWord, IsNoLexiconFile, IsNoSurface, OnLexicon, forms_in}

pub data Finding : Type 0 where
  -- the file of the grammar is longer than its limit
  long_file : Finding
  -- the file is not a grammar: its first line that has a cause, and the cause
  no_grammar : ℕ → GrammarCause → Finding
  -- this word, which is to be a form, a timeline or a surface, is refused for a cause
  no_form : ℕ → FormErr → Finding
  -- the second file, which this word names, is longer than its limit
  long_second : ℕ → Finding
  -- the second file is not a rows file: its first line that has a cause, and the cause
  no_rows : ℕ → RowsCause → Finding
  -- the second file is not a lexicon, for a cause
  no_lexicon : LexErr → Finding
  -- the second file is not an answer: its first line that has a cause, and the cause
  no_answer : ℕ → AnswerCause → Finding
  -- of this entry, which is 0 where there is one form, this stage is the first with more kinds than the budget
  over_budget : ℕ → ℕ → Finding
  -- nothing is refused
  ready : Finding

-- the word is a form, and a stage has more kinds than the budget
pub record IsOverBudget (g : GrammarValue) (form : List ℕ) (budget stage : ℕ) : Type 0 where
  pub problem : Problem
  pub is_asked : IsAsked g form problem
  pub over : IsFirstOver problem budget stage

-- the word is a form, and no stage has more kinds than the budget: each has its list of kinds
pub record IsWithinBudget (g : GrammarValue) (form : List ℕ) (budget : ℕ) : Type 0 where
  pub problem : Problem
  pub is_asked : IsAsked g form problem
  pub within : AreAllWithin problem budget
  pub listed : HaveFewKinds problem budget

-- the word is read as a form
abbrev pub HasForm : GrammarValue → List ℕ → Type 0
HasForm g word = (u : List (List Sym)) × IsReadAs (grammar_inputs g) g.letters word u

-- bytes are those of a rows file for a problem
pub record IsRowsFile (bytes : List ℕ) (problem : Problem) : Type 0 where
  pub within : length bytes ≤ 4194304
  pub rows : List (List (List Sym))
  pub are : AreRowsOf problem (lines bytes) rows

-- they are not: this line is the first that has a cause
pub record IsNoRowsFile (bytes : List ℕ) (row : ℕ) (cause : RowsCause) (problem : Problem) : Type 0 where
  pub within : length bytes ≤ 4194304
  pub refused : IsRefusedAt problem (lines bytes) row cause

-- what `canon` finds in a grammar
abbrev pub FindsForCanon : Finding → Type 0
FindsForCanon long_file = ⊥
FindsForCanon (no_grammar line cause) = ⊥
FindsForCanon (no_form word cause) = ⊥
FindsForCanon (long_second word) = ⊥
FindsForCanon (no_rows row cause) = ⊥
FindsForCanon (no_lexicon cause) = ⊥
FindsForCanon (no_answer line cause) = ⊥
FindsForCanon (over_budget entry stage) = ⊥
FindsForCanon ready = Unit {0}

-- what `score` finds in a grammar and a word
abbrev pub FindsForScore : GrammarValue → List ℕ → Finding → Type 0
FindsForScore g word long_file = ⊥
FindsForScore g word (no_grammar line cause) = ⊥
FindsForScore g word (no_form number cause) = (number ≡ 2) × IsNotScored (length g.tiers) word cause
FindsForScore g word (long_second number) = ⊥
FindsForScore g word (no_rows row cause) = ⊥
FindsForScore g word (no_lexicon cause) = ⊥
FindsForScore g word (no_answer line cause) = ⊥
FindsForScore g word (over_budget entry stage) = ⊥
FindsForScore g word ready = (T : List (List Sym)) × IsScored (length g.tiers) word T

-- what `generate` and `show` find in a grammar, a form's word and a budget
abbrev pub FindsForAnswer : GrammarValue → List ℕ → ℕ → Finding → Type 0
FindsForAnswer g form budget long_file = ⊥
FindsForAnswer g form budget (no_grammar line cause) = ⊥
FindsForAnswer g form budget (no_form word cause) = (word ≡ 2) × IsRefusedFor (grammar_inputs g) g.letters form cause
FindsForAnswer g form budget (long_second word) = ⊥
FindsForAnswer g form budget (no_rows row cause) = ⊥
FindsForAnswer g form budget (no_lexicon cause) = ⊥
FindsForAnswer g form budget (no_answer line cause) = ⊥
FindsForAnswer g form budget (over_budget entry stage) = (entry ≡ 0) × IsOverBudget g form budget stage
FindsForAnswer g form budget ready = IsWithinBudget g form budget

-- what `tableau` finds in a grammar, a form's word, a budget and the bytes of a rows file
abbrev pub FindsForTableau : GrammarValue → List ℕ → ℕ → List ℕ → Finding → Type 0
FindsForTableau g form budget bytes long_file = ⊥
FindsForTableau g form budget bytes (no_grammar line cause) = ⊥
FindsForTableau g form budget bytes (no_form word cause) =
    (word ≡ 2) × IsRefusedFor (grammar_inputs g) g.letters form cause
FindsForTableau g form budget bytes (long_second word) = (word ≡ 3) × (HasForm g form × (4194304 < length bytes))
FindsForTableau g form budget bytes (no_rows row cause) = OnProblem (IsNoRowsFile bytes row cause) g form
FindsForTableau g form budget bytes (no_lexicon cause) = ⊥
FindsForTableau g form budget bytes (no_answer line cause) = ⊥
FindsForTableau g form budget bytes (over_budget entry stage) =
    (entry ≡ 0) × OnProblem (λ problem. IsRowsFile bytes problem × IsFirstOver problem budget stage) g form
FindsForTableau g form budget bytes ready =
    OnProblem (λ problem. IsRowsFile bytes problem × AreAllWithin problem budget) g form

-- what `once` finds in a grammar, a form's word and a budget: a single pass has all constraints at its one stage
abbrev pub FindsForOnce : GrammarValue → List ℕ → ℕ → Finding → Type 0
FindsForOnce g form budget long_file = ⊥
FindsForOnce g form budget (no_grammar line cause) = ⊥
FindsForOnce g form budget (no_form word cause) = (word ≡ 2) × IsRefusedFor (grammar_inputs g) g.letters form cause
FindsForOnce g form budget (long_second word) = ⊥
FindsForOnce g form budget (no_rows row cause) = ⊥
FindsForOnce g form budget (no_lexicon cause) = ⊥
FindsForOnce g form budget (no_answer line cause) = ⊥
FindsForOnce g form budget (over_budget entry stage) =
    (entry ≡ 0) × OnProblem (λ problem. (stage ≡ last_stage problem) × AreWholeKindsOver problem budget) g form
FindsForOnce g form budget ready = OnProblem (λ problem. AreWholeKindsWithin problem budget) g form

-- what `comprehend` finds in a grammar, a surface's word, a budget and the bytes of a lexicon file
abbrev pub FindsForHearing : GrammarValue → List ℕ → ℕ → List ℕ → Finding → Type 0
FindsForHearing g surface budget bytes long_file = ⊥
FindsForHearing g surface budget bytes (no_grammar line cause) = ⊥
FindsForHearing g surface budget bytes (no_form word cause) = (word ≡ 3) × IsNoSurface g surface cause
FindsForHearing g surface budget bytes (long_second word) =
    (word ≡ 2) × (HasSurfaceWord g surface × (4194304 < length bytes))
FindsForHearing g surface budget bytes (no_rows row cause) = ⊥
FindsForHearing g surface budget bytes (no_lexicon cause) = HasSurfaceWord g surface × IsNoLexiconFile g bytes cause
FindsForHearing g surface budget bytes (no_answer line cause) = ⊥
FindsForHearing g surface budget bytes (over_budget entry stage) =
    OnLexicon (λ ask entries s. IsFirstEntryOver ask (forms_in entries) budget entry stage) g surface bytes
FindsForHearing g surface budget bytes ready =
    OnLexicon (λ ask entries s. AreEntriesWithin ask (forms_in entries) budget) g surface bytes

-- what `check` finds in a grammar and the bytes of an answer's file
abbrev pub FindsForCheck : GrammarValue → List ℕ → Finding → Type 0
FindsForCheck g bytes long_file = ⊥
FindsForCheck g bytes (no_grammar line cause) = ⊥
FindsForCheck g bytes (no_form word cause) = ⊥
FindsForCheck g bytes (long_second word) = (word ≡ 2) × (268435456 < length bytes)
FindsForCheck g bytes (no_rows row cause) = ⊥
FindsForCheck g bytes (no_lexicon cause) = ⊥
FindsForCheck g bytes (no_answer line cause) = IsNoAnswer g bytes line cause
FindsForCheck g bytes (over_budget entry stage) = ⊥
FindsForCheck g bytes ready = HasAnswer g bytes

-- What a command finds in its grammar, where these are the bytes of its second file. `sample` finds what
-- `generate` finds for the form that its number makes.
abbrev pub FindsIn : Command → GrammarValue → List ℕ → Finding → Type 0
FindsIn (canon name) g second finding = FindsForCanon finding
FindsIn (score name word) g second finding = FindsForScore g word finding
FindsIn (generate name form budget) g second finding = FindsForAnswer g form budget finding
FindsIn (show name form budget) g second finding = FindsForAnswer g form budget finding
FindsIn (tableau name form rows budget) g second finding = FindsForTableau g form budget second finding
FindsIn (once name form budget) g second finding = FindsForOnce g form budget finding
FindsIn (comprehend name lexicon surface budget) g second finding = FindsForHearing g surface budget second finding
FindsIn (check name answer) g second finding = FindsForCheck g second finding
FindsIn (sample n) g second finding = FindsForAnswer g (sample_word n) 20000 finding

-- what a command finds, where these are the bytes of its grammar's file and of its second file
abbrev pub Finds : Command → List ℕ → List ℕ → Finding → Type 0
Finds command bytes second long_file = 65536 < length bytes
Finds command bytes second (no_grammar line cause) =
    (length bytes ≤ 65536) × (grammar_of bytes ≡ Err (record { line = line; cause = cause }))
Finds command bytes second (no_form word cause) = OnGrammar (λ g. FindsIn command g second (no_form word cause)) bytes
Finds command bytes second (long_second word) = OnGrammar (λ g. FindsIn command g second (long_second word)) bytes
Finds command bytes second (no_rows row cause) = OnGrammar (λ g. FindsIn command g second (no_rows row cause)) bytes
Finds command bytes second (no_lexicon cause) = OnGrammar (λ g. FindsIn command g second (no_lexicon cause)) bytes
Finds command bytes second (no_answer line cause) =
    OnGrammar (λ g. FindsIn command g second (no_answer line cause)) bytes
Finds command bytes second (over_budget entry stage) =
    OnGrammar (λ g. FindsIn command g second (over_budget entry stage)) bytes
Finds command bytes second ready = OnGrammar (λ g. FindsIn command g second ready) bytes

-- a command accepts in its grammar what stands before its second file, so that this file is loaded
abbrev pub ReachesSecondFile : Command → GrammarValue → Type 0
ReachesSecondFile (canon name) g = Unit {0}
ReachesSecondFile (score name word) g = Unit {0}
ReachesSecondFile (generate name form budget) g = Unit {0}
ReachesSecondFile (show name form budget) g = Unit {0}
ReachesSecondFile (tableau name form rows budget) g = HasForm g form
ReachesSecondFile (once name form budget) g = Unit {0}
ReachesSecondFile (comprehend name lexicon surface budget) g = HasSurfaceWord g surface
ReachesSecondFile (check name answer) g = Unit {0}
ReachesSecondFile (sample n) g = Unit {0}
