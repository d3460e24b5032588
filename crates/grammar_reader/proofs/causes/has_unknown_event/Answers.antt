use Rattle.std.proofs.{Common.{rules, tests, sym, ◌∙◌}, lemmas.Iterator.YieldsList-from_slice}
use Rattle.std.proofs.lemmas.Iterator.Search.{any_from_yields_List}
use Rattle.grammar_reader.specs.{Seen.tiers_seen, Events.seen_event, Reading.is_unknown}
use Rattle.grammar_reader.proofs.Lists.{list_any-map}
use Rattle.grammar_reader.proofs.causes.has_unknown_event.Goals as goal

pub returns : goal.returns
returns c = any_from_yields_List (λ e. is_unknown
    (tiers_seen c.args.tiers.now.entries) e.tier.now) _ _ c.any.result c.any.ensures.ran
    (YieldsList-from_slice c.args.events.now cc) (λ x b q k. search (rules, tests))
    ∙ sym (list_any-map (λ e. is_unknown (tiers_seen c.args.tiers.now.entries) e.tier) seen_event c.args.events.now)
