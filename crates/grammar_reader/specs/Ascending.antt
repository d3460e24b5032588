-- The order of marks.
use Rattle.std.specs.Prelude.{ℕ, ◌+◌, ◌<◌, ◌≤◌, List, length, AllPairs}
use Rattle.grammar_reader.specs.Pieces.{Mark}

-- one mark begins and ends before another begins, on the same line or an earlier one
pub record Precedes (m n : Mark) : Type 0 where
  pub begins : m.at < n.at
  pub ends : m.at + length m.text ≤ n.at
  pub line : m.line ≤ n.line

-- each mark precedes all later ones
abbrev pub AreAscending : List Mark → Type 0
AreAscending marks = AllPairs Precedes marks
