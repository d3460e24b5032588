use Rattle.std.proofs.Common.{◌≡◌, map, drop}
use Rattle.grammar_reader.specs.{Statements.{each_some, word_of}, Lexemes.{lexeme_seen, with_front}}
use Rattle.grammar_reader.proofs.statement.words.Given as goal

abbrev pub invariant-loop-lexeme : goal.invariant-loop-lexeme
invariant-loop-lexeme l = with_front (map (λ w. w.now) l.found.items)
    (each_some word_of (map lexeme_seen (drop l.lexeme-index l.lexemes)))
    ≡ each_some word_of (map lexeme_seen l.lexemes)
