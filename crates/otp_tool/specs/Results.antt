-- What the commands write for a grammar.
use Rattle.std.specs.Prelude.{◌≡◌, ◌≤◌, ◌⊎◌, ◌↔◌, ℕ, Bool, IsTrue, List, map, length, filter}
use Rattle.tier_core.specs.declared.sym.Sym.{Sym}
use Rattle.grammar_reader.specs.Values.{GrammarValue}
use Rattle.grammar_reader.specs.Canonical.{canonical}
use Rattle.grammar_reader.specs.ShapeOf.{stretch_counts}
use Rattle.violation.specs.Counts.{viol}
use Rattle.answer_text.specs.declared.answer.Answer.{Answer}
use Rattle.answer_text.specs.Right.{IsRight}
use Rattle.answer_text.specs.Text.{Widths, answer_text, counts_text, shown_text}
use Rattle.kind_orders.specs.JoinedArcs.{HaveJoinedArcs}
use Rattle.command_line.specs.Commands.{Command, canon, score, generate, show, tableau, once, comprehend, check, sample}
use Rattle.tier_core.specs.Sides.{is_stretch}
use Rattle.answer_text.specs.declared.once_answer.OnceAnswer.{OnceAnswer}
use Rattle.answer_text.specs.OnceText.{OnceWidths, once_text}
use Rattle.answer_text.specs.RightOnce.{IsRightOnce}
use Rattle.lexicon.specs.Entries.{LexicalEntry, names_of}
use Rattle.comprehend.specs.declared.hit.Hit.{Hit}
use Rattle.comprehend.specs.Hears.{Hears}
use Rattle.comprehend.specs.HitText.{hits_text}
use Rattle.violation.specs.Problems.{Problem, last_stage}
use Rattle.cert_check.specs.declared.fault.Fault.{Fault}
use Rattle.cert_check.specs.declared.fault.Verdict.TheVariants.{Yes, No}
use Rattle.otp_tool.specs.Answers.{IsJudged, IsVerdictText}
use Rattle.otp_tool.specs.Samples.{sample_text, sample_word}
use Rattle.otp_tool.specs.Scored.{IsScored}
use Rattle.std.specs.Str.Lines.{lines}
use Rattle.tableau.specs.declared.table.Tableau.{Tableau}
use Rattle.tableau.specs.Layout.{tableau_text}
use Rattle.tableau.specs.Rows.{AreRowsOf}
use Rattle.tableau.specs.Tableaux.{IsTableauOf}
use Rattle.otp_tool.specs.Grammars.{IsAsked, constraint_names}
use Rattle.otp_tool.specs.Lexicons.{OnLexicon, forms_in}

-- the violation vector of a timeline: its violations of each constraint of the grammar, in ranked order
abbrev pub vector_of : GrammarValue → List (List Sym) → List ℕ
vector_of g T = map (λ c. viol c.family c.left c.right T) g.constraints

-- a text is the line of the counts of the timeline that a word is read as
pub record IsScoreText (g : GrammarValue) (word text : List ℕ) : Type 0 where
  pub timeline : List (List Sym)
  pub read : IsScored (length g.tiers) word timeline
  pub written : text ≡ counts_text (vector_of g timeline)

-- kinds are written over the free tiers, and over the stretch implications among the first r constraints at stage r
abbrev pub text_widths : Problem → Widths
text_widths problem = record { free = length problem.tiers.free; stretches = stretch_counts problem.constraints }

-- A text is what is written of a right answer for the grammar and the form that a word is read as. The
-- answer has joined arcs.
pub record IsOfRightAnswer (write : Problem → Answer → List ℕ) (g : GrammarValue) (form text : List ℕ) : Type 0 where
  pub problem : Problem
  pub is_asked : IsAsked g form problem
  pub answer : Answer
  pub right : IsRight problem answer
  pub joined : HaveJoinedArcs answer.automaton.states.items
  pub written : text ≡ write problem answer

-- the whole text of an answer
abbrev pub whole_text : Problem → Answer → List ℕ
whole_text problem answer = answer_text (text_widths problem) answer

-- A text is what `generate` writes: that of a right answer. If it is within the limit of an answer's file, it is
-- read as an answer under the same grammar, and the verdict on it is Yes.
pub record IsGeneratedText (g : GrammarValue) (form text : List ℕ) : Type 0 where
  pub right : IsOfRightAnswer whole_text g form text
  pub judged : length text ≤ 268435456 → IsJudged g text Yes

-- its lines `counts` and `example`
abbrev pub short_text : Problem → Answer → List ℕ
short_text problem answer = shown_text answer

-- A text is that of the tableau of the problem that is asked, under the names of the grammar's constraints,
-- with the rows of a rows file: the first optimal candidate, and then each of the rows.
pub record IsTableauText (g : GrammarValue) (form bytes text : List ℕ) : Type 0 where
  pub problem : Problem
  pub is_asked : IsAsked g form problem
  pub rows : List (List (List Sym))
  pub read : AreRowsOf problem (lines bytes) rows
  pub tableau : Tableau
  pub is_tableau : IsTableauOf (constraint_names g) problem rows tableau
  pub written : text ≡ tableau_text tableau

-- under all constraints, kinds are written over all stretch implications, and potentials have a number for each
-- constraint
abbrev pub once_widths : Problem → OnceWidths
once_widths problem = record {
  free = length problem.tiers.free;
  stretches = length (filter is_stretch problem.constraints);
  constraints = last_stage problem;
}

-- A text is that of an answer of a single pass that is right for the problem that is asked. The answer
-- has joined arcs.
pub record IsOnceText (g : GrammarValue) (form text : List ℕ) : Type 0 where
  pub problem : Problem
  pub is_asked : IsAsked g form problem
  pub answer : OnceAnswer
  pub right : IsRightOnce problem answer
  pub joined : HaveJoinedArcs answer.automaton.states.items
  pub written : text ≡ once_text (once_widths problem) answer

-- a text is that of the entries that are heard, each with its first optimal candidate with the surface
pub record IsTextOfHeard (text : List ℕ) (ask : List (List Sym) → Problem) (entries : List LexicalEntry)
    (surface : List (List Sym)) : Type 0 where
  pub hits : List Hit
  pub hears : Hears ask (forms_in entries) surface hits
  pub written : text ≡ hits_text (names_of entries) hits

abbrev pub IsHeardText : GrammarValue → List ℕ → List ℕ → List ℕ → Type 0
IsHeardText g surface bytes text = OnLexicon (IsTextOfHeard text) g surface bytes

-- a text is the verdict Yes on an answer that bytes are read as
abbrev pub IsYesText : GrammarValue → List ℕ → List ℕ → Type 0
IsYesText g bytes text = IsVerdictText text_widths Yes g bytes text

-- a text is the verdict No with the fault that comes first
abbrev pub IsNoText : GrammarValue → List ℕ → List ℕ → Type 0
IsNoText g bytes text = (fault : Fault) × IsVerdictText text_widths (No fault) g bytes text

-- A text is the summary of a right answer to the form that a number makes. It says `check Yes` exactly if
-- the answer's text, as a file, is one that `check` answers with Yes.
pub record IsSampleText (n : ℕ) (g : GrammarValue) (text : List ℕ) : Type 0 where
  pub problem : Problem
  pub is_asked : IsAsked g (sample_word n) problem
  pub answer : Answer
  pub right : IsRight problem answer
  pub joined : HaveJoinedArcs answer.automaton.states.items
  pub faultless : Bool
  pub checked : IsTrue faultless ↔ IsJudged g (whole_text problem answer) Yes
  pub written : text ≡ sample_text n answer faultless

-- A text is what a command writes for a grammar if it does everything that it is asked, where these are the bytes of
-- its second file.
abbrev pub IsResult : Command → GrammarValue → List ℕ → List ℕ → Type 0
IsResult (canon name) g second text = text ≡ canonical g
IsResult (score name word) g second text = IsScoreText g word text
IsResult (generate name form budget) g second text = IsGeneratedText g form text
IsResult (show name form budget) g second text = IsOfRightAnswer short_text g form text
IsResult (tableau name form rows budget) g second text = IsTableauText g form second text
IsResult (once name form budget) g second text = IsOnceText g form text
IsResult (comprehend name lexicon surface budget) g second text = IsHeardText g surface second text
IsResult (check name answer) g second text = IsYesText g second text
IsResult (sample n) g second text = IsSampleText n g text

-- a text is what a command writes that does everything, and says No
abbrev pub IsNoResult : Command → GrammarValue → List ℕ → List ℕ → Type 0
IsNoResult (canon name) g second text = ⊥
IsNoResult (score name word) g second text = ⊥
IsNoResult (generate name form budget) g second text = ⊥
IsNoResult (show name form budget) g second text = ⊥
IsNoResult (tableau name form rows budget) g second text = ⊥
IsNoResult (once name form budget) g second text = ⊥
IsNoResult (comprehend name lexicon surface budget) g second text = ⊥
IsNoResult (check name answer) g second text = IsNoText g second text
IsNoResult (sample n) g second text = ⊥

-- one or the other
abbrev pub IsAnyResult : Command → GrammarValue → List ℕ → List ℕ → Type 0
IsAnyResult command g second text = IsResult command g second text ⊎ IsNoResult command g second text
