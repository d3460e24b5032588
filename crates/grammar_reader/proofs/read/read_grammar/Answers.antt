use Rattle.std.proofs.Common.{◌≡◌, Ok, ap, sym, ◌∙◌}
use Rattle.grammar_reader.specs.{Reading.finish, Made.{made_value, value_so_far}}
use Rattle.grammar_reader.proofs.LawfulLines.{read_is_lawful, whole_is}
use Rattle.grammar_reader.proofs.read.read_grammar.Goals as goal

pub finish-requires : goal.finish-requires
finish-requires c = read_is_lawful c.args.bytes.now (made_value c.in-Some.made)
    (c.in_ok-made.ensures ∙ ap (λ s. finish (value_so_far s)) c.in-Some.is
    ∙ whole_is (made_value c.in-Some.made) (sym c.has_input.ensures ∙ c.if-not-has_input.false)
    (sym c.has_overt.ensures ∙ c.if-not-has_overt.false))
