use Rattle.std.proofs.{Common.{rules, tests, map, ap, sym, ◌∙◌, length}, lemmas.List.length-map}
use Rattle.std.proofs.lemmas.Iterator.Consumers.{count_from_yields_List, YieldsList-from_rest}
use Rattle.std.proofs.lemmas.Iterator.Consumers.{YieldsList-from_filter}
use Rattle.std.specs.Map.{values_of}
use Rattle.tier_core.specs.Tiers.{is_free}
use Rattle.grammar_reader.specs.Seen.{tier_seen}
use Rattle.grammar_reader.proofs.Counts.{count_kinds}
use Rattle.grammar_reader.proofs.causes.free_count.Goals as goal

pub returns : goal.returns
returns c = count_from_yields_List c.filter.result _ c.count.ensures.ran
    (YieldsList-from_filter _ is_free (YieldsList-from_rest
    (values_of c.args.tiers.now.entries) cc) c.filter.ensures.closure (λ x b q k. search (rules, tests)))
    ∙ count_kinds is_free c.args.tiers.now.entries
