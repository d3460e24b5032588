use Rattle.std.proofs.{Common.{rules, tests, sym, ◌∙◌}, lemmas.Iterator.Consumers.YieldsList-from_rest}
use Rattle.std.proofs.lemmas.Iterator.Search.{any_from_yields_List}
use Rattle.std.specs.Map.{values_of}
use Rattle.tier_core.specs.Tiers.{is_input}
use Rattle.grammar_reader.specs.Seen.{tier_seen}
use Rattle.grammar_reader.proofs.Lists.{list_any-map}
use Rattle.grammar_reader.proofs.read.has_input.Goals as goal

pub returns : goal.returns
returns c = any_from_yields_List is_input _ _ c.any.result c.any.ensures.ran
    (YieldsList-from_rest (values_of c.args.tiers.now.entries) cc) (λ x b q k. search (rules, tests))
    ∙ list_any-map is_input (λ e. e.1) c.args.tiers.now.entries
    ∙ sym (list_any-map (λ t. is_input t.kind) tier_seen c.args.tiers.now.entries)
