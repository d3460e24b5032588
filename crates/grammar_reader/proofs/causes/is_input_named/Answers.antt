use Rattle.std.proofs.Common.{ap, sym, ◌∙◌, false}
use Rattle.std.specs.Option.{option_map_or, option_copied}
use Rattle.tier_core.specs.Tiers.{is_input}
use Rattle.grammar_reader.proofs.Known.{input_by}
use Rattle.grammar_reader.proofs.causes.is_input_named.Goals as goal

pub returns-in-Some : goal.returns-in-Some
returns-in-Some c = c.is_input.ensures
    ∙ ap (λ o. option_map_or is_input (option_copied o) false) (sym c.in-Some.is)
    ∙ ap (λ o. option_map_or is_input o false) c.get.ensures.value ∙ input_by c.args.name.now c.args.tiers.now.entries

pub returns-in-None : goal.returns-in-None
returns-in-None c = ap (λ o. option_map_or is_input (option_copied o) false) (sym c.in-None.is)
    ∙ ap (λ o. option_map_or is_input o false) c.get.ensures.value ∙ input_by c.args.name.now c.args.tiers.now.entries
