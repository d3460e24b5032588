-- What the bytes of an answer's file are read as for a grammar, and the verdict on it.
use Rattle.std.specs.Prelude.{◌≡◌, ℕ, ◌≤◌, List, length, Result, Ok, Err}
use Rattle.tier_core.specs.declared.constraint.Constraint.{Constraint}
use Rattle.tier_core.specs.declared.shape.Shape.{Shape}
use Rattle.tier_core.specs.Tiers.{tiers_of as tiers_in}
use Rattle.grammar_reader.specs.Values.{GrammarValue}
use Rattle.grammar_reader.specs.Requirements.{requirements_of, requirements_seen}
use Rattle.grammar_reader.specs.ShapeOf.{stretch_counts}
use Rattle.violation.specs.Problems.{Problem}
use Rattle.answer_text.specs.declared.answer.Answer.{Answer}
use Rattle.answer_text.specs.Sound.{IsSound}
use Rattle.answer_text.specs.Text.{Widths}
use Rattle.answer_reader.specs.declared.answer_err.AnswerCause.{AnswerCause}
use Rattle.answer_reader.specs.Reading.{IsTextOf, answer_of}
use Rattle.answer_reader.specs.Steps.{At, at}
use Rattle.answer_text.specs.Values.{AnswerValue, answer_value}
use Rattle.cert_check.specs.declared.fault.Verdict.{Verdict}
use Rattle.cert_check.specs.declared.fault.Verdict.TheVariants.{Yes}
use Rattle.cert_check.specs.Verdicts.{IsVerdict}
use Rattle.verdict_text.specs.VerdictText.{verdict_text}
use Rattle.otp_tool.specs.Grammars.{grammar_tiers}

-- a shape is that of a grammar: its width, its input tiers, and its stretch implications
pub record IsShapeFor (g : GrammarValue) (shape : Shape) : Type 0 where
  pub constraints : List Constraint
  pub seen : requirements_seen constraints ≡ requirements_of g
  pub width : shape.width ≡ length g.tiers
  pub inputs : tiers_in shape.inputs ≡ (grammar_tiers g).input
  pub phases : shape.phases.items ≡ stretch_counts constraints

-- the bytes are within the limit of an answer's file, and this is what they are read as: the value of an
-- answer, or their first line with a cause
pub record IsAnswerFile (g : GrammarValue) (bytes : List ℕ) (read : Result AnswerValue At) : Type 0 where
  pub within : length bytes ≤ 268435456
  pub shape : Shape
  pub of_grammar : IsShapeFor g shape
  pub is : answer_of shape bytes ≡ read

-- the bytes are those of an answer
abbrev pub HasAnswer : GrammarValue → List ℕ → Type 0
HasAnswer g bytes = (value : AnswerValue) × IsAnswerFile g bytes (Ok value)

-- they are not: this line is the first that has a cause
abbrev pub IsNoAnswer : GrammarValue → List ℕ → ℕ → AnswerCause → Type 0
IsNoAnswer g bytes line cause = IsAnswerFile g bytes (Err (at line cause))

-- A problem is what a grammar is asked by the form of an answer: it has the grammar's tiers, constraints
-- that require what the grammar's do, in ranked order, and that form.
pub record IsAskedBy (g : GrammarValue) (answer : Answer) (problem : Problem) : Type 0 where
  pub tiers : problem.tiers ≡ grammar_tiers g
  pub constraints : requirements_seen problem.constraints ≡ requirements_of g
  pub form : problem.form ≡ answer.form

-- The bytes are read as this answer, and this problem is what the grammar is asked by it.
pub record IsReading (g : GrammarValue) (bytes : List ℕ) (answer : Answer) (problem : Problem) : Type 0 where
  pub shape : Shape
  pub of_grammar : IsShapeFor g shape
  pub read : IsTextOf shape bytes (answer_value shape answer)
  pub is_asked : IsAskedBy g answer problem

-- The bytes settle this verdict: it is the one on whatever answer they are read as.
abbrev pub IsSettled : GrammarValue → List ℕ → Verdict → Type 0
IsSettled g bytes verdict = (answer : Answer) (problem : Problem) → IsReading g bytes answer problem
    → IsVerdict problem answer verdict

-- The bytes are within the limit of an answer's file, and this is the verdict on an answer that they are read as.
pub record IsJudged (g : GrammarValue) (bytes : List ℕ) (verdict : Verdict) : Type 0 where
  pub within : length bytes ≤ 268435456
  pub answer : Answer
  pub problem : Problem
  pub reading : IsReading g bytes answer problem
  pub is_verdict : IsVerdict problem answer verdict

-- The bytes have this verdict: it is the one on an answer that they are read as, and they settle it.
pub record HasVerdict (g : GrammarValue) (bytes : List ℕ) (verdict : Verdict) : Type 0 where
  pub judged : IsJudged g bytes verdict
  pub settled : IsSettled g bytes verdict

-- A text is the line of a verdict on the answer that bytes are read as: Yes where no fault is in it, and No
-- with the fault that comes first. The bytes settle it, and an answer that gets Yes is sound.
pub record IsVerdictText (widths : Problem → Widths) (verdict : Verdict) (g : GrammarValue) (bytes text : List ℕ)
    : Type 0 where
  pub within : length bytes ≤ 268435456
  pub answer : Answer
  pub problem : Problem
  pub reading : IsReading g bytes answer problem
  pub is_verdict : IsVerdict problem answer verdict
  pub settled : IsSettled g bytes verdict
  pub sound : verdict ≡ Yes → IsSound problem answer
  pub written : text ≡ verdict_text (widths problem) verdict
