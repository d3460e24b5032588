use Rattle.std.proofs.Common.{map, ap, ◌∙◌}
use Rattle.grammar_reader.specs.{Pieces.lexeme_of, Statements.each_some, Lexemes.{with_front, texts, lexeme_seen}}
use Rattle.grammar_reader.specs.Tokens.{marks_left}
use Rattle.grammar_reader.proofs.Lexing.{front_nil, line_texts}
use Rattle.grammar_reader.proofs.lexeme.lexemes.Goals as goal

pub tokens-init : goal.tokens-init
tokens-init c = ap (λ xs. with_front (map lexeme_seen xs)
    (each_some lexeme_of (texts (marks_left c.from_line-tokens.result)))) c.new-found.ensures.items
    ∙ front_nil (each_some lexeme_of (texts (marks_left c.from_line-tokens.result)))
    ∙ ap (λ ms. each_some lexeme_of (texts ms)) c.from_line-tokens.ensures
    ∙ ap (each_some lexeme_of) (line_texts c.args.number c.args.line.now c.requires.whole)
