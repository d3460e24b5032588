use Rattle.std.proofs.{Common.{rules, tests, not, ◌||◌, map, ap, sym, ◌∙◌}, lemmas.Iterator.YieldsList-from_slice}
use Rattle.std.proofs.lemmas.Iterator.Search.{any_from_yields_List}
use Rattle.std.specs.List.{list_any}
use Rattle.grammar_reader.specs.{Names.{is_name, is_letter_byte}, Reading.has_bad_name, Said.statement_seen}
use Rattle.grammar_reader.proofs.Lists.{list_any-map}
use Rattle.grammar_reader.proofs.causes.has_bad_name.Goals as goal

pub returns-else-not-is_letter_byte : goal.returns-else-not-is_letter_byte
returns-else-not-is_letter_byte c = any_from_yields_List (λ n. not (is_name n.now)) _ _ c.any.result c.any.ensures.ran
    (YieldsList-from_slice c.in-Letter.names.items cc) (λ x b q k. search (rules, tests))
    ∙ sym (list_any-map (λ n. not (is_name n)) (λ n. n.now) c.in-Letter.names.items)
    ∙ ap (λ t. not t || list_any (λ n. not (is_name n)) (map (λ n. n.now) c.in-Letter.names.items))
    (sym (sym c.is_letter_byte.ensures ∙ c.if-not-is_letter_byte.false))
    ∙ ap (λ s. has_bad_name (statement_seen s)) (sym c.in-Letter.is)
