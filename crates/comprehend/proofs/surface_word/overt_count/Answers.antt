use Rattle.std.proofs.Common.{◌≡◌, ◌∙◌, sym, ap, count_by, rules}
use Rattle.tier_core.specs.Tiers.{is_overt}
use Rattle.tier_core.proofs.TableMasks.{numbers_count}
use Rattle.comprehend.proofs.surface_word.overt_count.Goals as goal

pub returns-clause-value : goal.returns-clause-value
returns-clause-value c =
    let counted : c.count.result ≡ count_by is_overt c.deref.result.now = search rules in
    counted ∙ ap (count_by is_overt) c.deref.ensures.value
    ∙ sym (numbers_count is_overt 0 c.args.tiers.now.kinds.items)
