use Rattle.std.proofs.{Common.{◌≡◌, ◌≤◌, length, ap, ◌∙◌, arith}, lemmas.List.length-map}
use Rattle.tier_core.specs.{Tiers.tiers_of, Timelines.symbol}
use Rattle.tier_core.proofs.MaskLemmas.{some_tier}
use Rattle.tier_core.proofs.projection.kept_tiers.Goals as goal

pub from_syms-requires-clause-some : goal.from_syms-requires-clause-some
from_syms-requires-clause-some c =
    let same : length c.syms.result.now ≡ length c.args.column.now = ap length c.syms.ensures.value in
    let long : length c.kept_syms-syms.result.items
    ≡ length (tiers_of c.args.keep) = ap length c.kept_syms-syms.ensures.syms
    ∙ length-map (tiers_of c.args.keep) (symbol c.syms.result.now) in
    let some : 1 ≤ length (tiers_of c.args.keep) = some_tier c.args.keep (length c.args.column.now) c.requires.some
    (omega arith) c.requires.within in
    omega (arith, ap length c.as_slice.ensures)
