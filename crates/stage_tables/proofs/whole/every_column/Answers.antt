use Rattle.std.proofs.Common.{◌≡◌, ◌≤◌, length, ap, ◌∙◌, arith}
use Rattle.tier_core.specs.Classes.{sets_have}
use Rattle.kind_moves.proofs.BoxSets.{front_have}
use Rattle.stage_tables.proofs.whole.every_column.Goals as goal

pub returns-clause-columns : goal.returns-clause-columns
returns-clause-columns c column wide =
    let tiers = c.args.frame.now.grammar.now.tiers in
    let few : c.len-width.result ≤ 12 = omega (arith, c.len-width.ensures, tiers.kinds.ok, tiers.few) in
    let same : length column ≡ c.len-width.result = omega (arith, wide, c.len-width.ensures, tiers.kinds.ok) in
    ap (λ sets. sets_have sets column) c.of_bits.ensures ∙ front_have _ _ few same
