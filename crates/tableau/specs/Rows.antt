-- Rows files: what rows the lines of a text give, and the first line that has a cause.
-- This text is of this project's own making.
use Rattle.std.specs.Prelude.{◌≡◌, ℕ, ◌+◌, ◌<◌, ◌≤◌, ◌⊎◌, Bool, false, not, List, ◌∷◌, ◌++◌, length, map, filter, All}
use Rattle.std.specs.List.{list_all}
use Rattle.tier_core.specs.declared.sym.Sym.{Sym}
use Rattle.tier_core.specs.Tiers.{Tiers}
use Rattle.timeline_text.specs.Texts.{text_of, IsTextOf}
use Rattle.timeline_text.specs.Bytes.{is_space}
use Rattle.timeline_text.specs.Causes.{IsCause}
use Rattle.violation.specs.Candidates.{IsCandidate}
use Rattle.tableau.specs.declared.rows_err.RowsCause.{RowsCause}
use Rattle.tableau.specs.declared.rows_err.RowsCause.TheVariants.{Form, NotCandidate, TooMany}
use Rattle.tableau.specs.declared.rows_err.RowsErr.{RowsErr}
use Rattle.tableau.specs.declared.rows_err.RowsErr.TheVariants.{At, NoMemory}
use Rattle.violation.specs.Problems.{Problem}

-- a line that is empty or has only spaces
abbrev pub is_blank : List ℕ → Bool
is_blank line = list_all is_space line

-- the lines that are not ignored
abbrev pub filled_lines : List (List ℕ) → List (List ℕ)
filled_lines lines = filter (λ line. not (is_blank line)) lines

-- The rows of lines: the lines that are not ignored are their texts, one after another, and
-- each row is a candidate of the form u with at most 4,096 columns. There are at most 32.
pub record AreRowsOf (problem : Problem) (lines : List (List ℕ)) (rows : List (List (List Sym))) : Type 0 where
  pub texts : filled_lines lines ≡ map text_of rows
  pub candidates : All (IsCandidate problem) rows
  pub within : All (λ T. length T ≤ 4096) rows
  pub few : length rows ≤ 32

-- a line is the text of a candidate
pub record IsRowOf (problem : Problem) (line : List ℕ) (T : List (List Sym)) : Type 0 where
  pub text : IsTextOf problem.tiers.width 4096 line T
  pub candidate : IsCandidate problem T

-- a line is the text of a timeline that is not a candidate
pub record IsOther (problem : Problem) (line : List ℕ) : Type 0 where
  pub timeline : List (List Sym)
  pub text : IsTextOf problem.tiers.width 4096 line timeline
  pub other : ¬ IsCandidate problem timeline

-- The first cause of a line that is not ignored, after so many rows: it is the 33rd row, it is not the
-- text of a timeline, or its timeline is not a candidate.
abbrev pub IsLineCause : Problem → ℕ → List ℕ → RowsCause → Type 0
IsLineCause problem before line TooMany = 32 ≤ before
IsLineCause problem before line (Form cause) = (before < 32) × IsCause problem.tiers.width 4096 line cause
IsLineCause problem before line NotCandidate = (before < 32) × IsOther problem line

-- The line with this number, counted from 1, is the first that has a cause: the lines before it have
-- rows.
pub record IsRefusedAt (problem : Problem) (lines : List (List ℕ)) (number : ℕ) (cause : RowsCause) : Type 0 where
  pub front : List (List ℕ)
  pub line : List ℕ
  pub behind : List (List ℕ)
  pub whole : lines ≡ front ++ line ∷ behind
  pub counted : length front + 1 ≡ number
  pub rows : List (List (List Sym))
  pub read : AreRowsOf problem front rows
  pub has_row : is_blank line ≡ false
  pub comes : IsLineCause problem (length rows) line cause

-- what a refusal says of the lines of a text; that memory ran out says nothing
abbrev pub IsTextRefusal : Problem → List (List ℕ) → RowsErr → Type 0
IsTextRefusal problem lines (At number cause) = IsRefusedAt problem lines number cause
IsTextRefusal problem lines NoMemory = Unit {0}

-- what a refusal says of one line
abbrev pub IsLineRefusal : Problem → ℕ → ℕ → List ℕ → RowsErr → Type 0
IsLineRefusal problem number before line (At row cause) = (row ≡ number) × IsLineCause problem before line cause
IsLineRefusal problem number before line NoMemory = Unit {0}

-- lines have rows, or one of them has a cause
abbrev pub HasRows : Problem → List (List ℕ) → Type 0
HasRows problem lines =
    ((rows : List (List (List Sym))) × AreRowsOf problem lines rows)
    ⊎ ((number : ℕ) × ((cause : RowsCause) × IsRefusedAt problem lines number cause))
