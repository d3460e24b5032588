use Rattle.std.proofs.{Common.{rules, tests, not, ap, sym, ◌∙◌}, lemmas.Iterator.YieldsList-from_slice}
use Rattle.std.proofs.lemmas.Iterator.Search.{any_from_yields_List}
use Rattle.grammar_reader.specs.{Seen.tiers_seen, Reading.{is_input_named, has_no_input}, Said.statement_seen}
use Rattle.grammar_reader.specs.Made.{made_value}
use Rattle.grammar_reader.proofs.Lists.{list_any-map}
use Rattle.grammar_reader.proofs.causes.has_no_input.Goals as goal

pub returns-in-Letter : goal.returns-in-Letter
returns-in-Letter c = any_from_yields_List
    (λ n. not (is_input_named (tiers_seen c.args.made.now.tiers.entries) n.now)) _ _ c.any.result c.any.ensures.ran
    (YieldsList-from_slice c.in-Letter.names.items cc) (λ x b q k. search (rules, tests))
    ∙ sym (list_any-map (λ n. not (is_input_named (tiers_seen c.args.made.now.tiers.entries) n))
    (λ n. n.now) c.in-Letter.names.items)
    ∙ ap (λ s. has_no_input (made_value c.args.made.now) (statement_seen s)) (sym c.in-Letter.is)
