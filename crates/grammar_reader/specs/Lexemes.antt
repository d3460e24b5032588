-- What the code's lexemes are, and what reading a line gives.
use Rattle.std.specs.Prelude.{◌≡◌, ℕ, List, ◌++◌, map, Option, Some, None, Result, Ok, Err}
use Rattle.grammar_reader.specs.Pieces as pieces
use Rattle.grammar_reader.specs.Pieces.{parts_of, lexeme_of}
use Rattle.grammar_reader.specs.Statements.{each_some}
use Rattle.grammar_reader.specs.declared.lexeme.Lexeme as code
use Rattle.grammar_reader.specs.declared.lexeme.Lexeme.TheVariants.{Opens, Closes, Equals, Clash, Implies, Word}
use Rattle.grammar_reader.specs.declared.lexeme.LineErr.{LineErr}
use Rattle.grammar_reader.specs.declared.lexeme.LineErr.TheVariants.{Cause, NoMemory}
use Rattle.grammar_reader.specs.declared.grammar_err.GrammarCause.{GrammarCause}
use Rattle.grammar_reader.specs.declared.grammar_err.GrammarCause.TheVariants.{BadByte}

abbrev pub lexeme_seen : code.Lexeme → pieces.Lexeme
lexeme_seen Opens = pieces.opens
lexeme_seen Closes = pieces.closes
lexeme_seen Equals = pieces.equals
lexeme_seen Clash = pieces.clash
lexeme_seen Implies = pieces.implies
lexeme_seen (Word w) = pieces.word w.now

-- the lexemes of a line, or None if a byte is bad
abbrev pub lexemes_of : List ℕ → Option (List pieces.Lexeme)
lexemes_of line = each_some lexeme_of (parts_of line)

-- a list appended to another, or None
abbrev pub with_front : {X : Type 0} → List X → Option (List X) → Option (List X)
with_front xs None = None
with_front xs (Some ys) = Some (xs ++ ys)

-- the line has no lexemes, unless memory ran out
abbrev pub FailsLine : List ℕ → LineErr → Type 0
FailsLine line NoMemory = Unit {0}
FailsLine line (Cause c) = (c ≡ BadByte) × (lexemes_of line ≡ None)

abbrev pub texts : List pieces.Mark → List (List ℕ)
texts marks = map (λ m. m.text) marks
