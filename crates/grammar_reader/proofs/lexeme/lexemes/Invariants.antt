use Rattle.std.proofs.Common.{◌≡◌, length, map}
use Rattle.grammar_reader.specs.{Pieces.{lexeme_of, marks_from}, Statements.each_some}
use Rattle.grammar_reader.specs.{Lexemes.{with_front, texts, lexeme_seen, lexemes_of}, Tokens.marks_left}
use Rattle.grammar_reader.proofs.lexeme.lexemes.Given as goal

-- the lexemes so far, and those of what is left
abbrev pub invariant-tokens : goal.invariant-tokens
invariant-tokens l = with_front (map lexeme_seen l.found.items) (each_some lexeme_of (texts (marks_left l.tokens)))
    ≡ lexemes_of l.line

abbrev pub decreases-tokens : goal.decreases-tokens
decreases-tokens l = length (marks_left l.tokens)
