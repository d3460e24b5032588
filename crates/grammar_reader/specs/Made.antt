-- What the reader has made so far, and what its steps give.
use Rattle.std.specs.Prelude.{◌≡◌, ℕ, List, ◌∷◌, [], map, Result, Err, Option, Some, None}
use Rattle.grammar_reader.specs.Values.{GrammarValue, NamedTier, NamedConstraint}
use Rattle.grammar_reader.specs.Reading.{At}
use Rattle.grammar_reader.specs.declared.made.Made.{Made}
use Rattle.grammar_reader.specs.declared.lexeme.LineErr.{LineErr}
use Rattle.grammar_reader.specs.declared.lexeme.LineErr.TheVariants.{Cause, NoMemory}
use Rattle.grammar_reader.specs.declared.grammar_err.GrammarErr.{GrammarErr}
use Rattle.grammar_reader.specs.declared.grammar_err.GrammarErr.TheVariants as text
use Rattle.grammar_reader.specs.declared.grammar_err.GrammarCause.{GrammarCause}
use Rattle.grammar_reader.specs.Seen.{tiers_seen, constraint_seen}

-- what the lines so far have made
abbrev pub made_value : Made → GrammarValue
made_value made = record {
  tiers = tiers_seen made.tiers.entries;
  letters = made.letters.items;
  constraints = map constraint_seen made.constraints.items;
}

-- None: no header has come yet
abbrev pub value_so_far : Option Made → Option GrammarValue
value_so_far None = None
value_so_far (Some made) = Some (made_value made)

-- the first cause, unless memory ran out
abbrev pub FailsCause : LineErr → Option GrammarCause → Type 0
FailsCause NoMemory o = Unit {0}
FailsCause (Cause c) o = o ≡ Some c

-- what a line gave, unless memory ran out
abbrev pub FailsAt : {X : Type 0} → LineErr → Result X GrammarCause → Type 0
FailsAt NoMemory read = Unit {0}
FailsAt (Cause c) read = read ≡ Err c

-- what reading the text gave, unless memory ran out
abbrev pub FailsText : GrammarErr → Result GrammarValue At → Type 0
FailsText text.NoMemory read = Unit {0}
FailsText (text.At number cause) read = read ≡ Err (record { line = number; cause = cause })
