use Rattle.std.proofs.Common.{rules, tests, ◌≡◌, length, position, unwrap_or, sym, ap, ◌∙◌}
use Rattle.std.proofs.{lemmas.Iterator.YieldsList-from_slice, lemmas.Iterator.Search.position_from_yields_List}
use Rattle.grammar_reader.specs.{Statements.is_sign, Lexemes.lexeme_seen}
use Rattle.grammar_reader.proofs.{Positions.position_or, Lists.position_or_len-map}
use Rattle.grammar_reader.proofs.statement.before_sign.Goals as goal

pub returns-clause-place : goal.returns-clause-place
returns-clause-place c =
    let e : c.position.result ≡ position (λ l. is_sign (lexeme_seen l)) c.args.lexemes.now = position_from_yields_List
    (λ l. is_sign (lexeme_seen l)) _ _ c.position.result c.position.ensures.ran
    (YieldsList-from_slice c.args.lexemes.now cc) (λ x b q k. search (rules, tests)) in
    c.unwrap_or.ensures ∙ ap (λ o. unwrap_or o (length c.args.lexemes.now)) e
    ∙ position_or (λ l. is_sign (lexeme_seen l)) c.args.lexemes.now
    ∙ sym (position_or_len-map is_sign lexeme_seen c.args.lexemes.now)
