use Rattle.std.proofs.Common.{ap, map, ◌∙◌}
use Rattle.indexmap.proofs.CallerLemmas.{insert_entry-new}
use Rattle.grammar_reader.specs.{Values.GrammarValue, Seen.constraint_seen}
use Rattle.grammar_reader.proofs.Adding.{absent_by, tier_added, with_tiers}
use Rattle.grammar_reader.proofs.add.add_tier.Goals as goal

pub returns-clause-ok : goal.returns-clause-ok
returns-clause-ok c =
    let e = c.in_ok-insert.ensures.entries
    ∙ insert_entry-new _ c.args.made.now.tiers c.args.name c.args.kind
    (absent_by c.args.name.now c.args.made.now.tiers.entries c.requires.absent) in
    with_tiers _ _ c.args.made.now.letters.items (map constraint_seen c.args.made.now.constraints.items)
    (tier_added c.args.made.now.tiers.entries c.insert.new.self.entries c.args.name c.args.kind e)
