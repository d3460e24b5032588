use Rattle.std.proofs.Common.{ap, sym, ◌∙◌, unwrap_or}
use Rattle.grammar_reader.proofs.Known.{number_by}
use Rattle.grammar_reader.proofs.add.tier_index.Goals as goal

pub returns-in-Some-clause-number : goal.returns-in-Some-clause-number
returns-in-Some-clause-number c = ap (λ o. unwrap_or o 0)
    (sym c.in-Some.is ∙ c.get_index_of.ensures.index ∙ number_by c.args.name.now c.args.tiers.now.entries)

pub returns-in-None-clause-number : goal.returns-in-None-clause-number
returns-in-None-clause-number c = ap (λ o. unwrap_or o 0)
    (sym c.in-None.is ∙ c.get_index_of.ensures.index ∙ number_by c.args.name.now c.args.tiers.now.entries)
