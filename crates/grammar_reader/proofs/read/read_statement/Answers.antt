use Rattle.std.proofs.Common.{map}
use Rattle.grammar_reader.specs.{Lexemes.lexeme_seen, Said.statement_seen, Made.made_value}
use Rattle.grammar_reader.proofs.{LawfulLines.has_parts, Stated.added}
use Rattle.grammar_reader.proofs.read.read_statement.Goals as goal

pub add-requires-clause-parts : goal.add-requires-clause-parts
add-requires-clause-parts c = has_parts (map lexeme_seen c.args.lexemes.now)
    (statement_seen c.in_ok-statement.statement) c.in_ok-statement.ensures

pub returns : goal.returns
returns c = added c.add.result (made_value c.args.made.now) (map lexeme_seen c.args.lexemes.now)
    (statement_seen c.in_ok-statement.statement)
    (made_value c.add.new.made) c.in_ok-statement.ensures c.in_ok-check.ensures c.add.ensures.ok c.add.ensures.err
