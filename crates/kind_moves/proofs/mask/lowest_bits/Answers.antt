use Rattle.std.proofs.{Common.{◌<◌, ◌^◌, arith}, lemmas.Nat.pow_below}
use Rattle.kind_moves.proofs.MaskSteps.{lowest_at}
use Rattle.kind_moves.proofs.mask.lowest_bits.Goals as goal

pub returns-clause-bits : goal.returns-clause-bits
returns-clause-bits c t l =
    let few : 2 ^ c.args.count < 2 ^ 16 = pow_below c.args.count 16 (omega (arith, c.requires)) in
    lowest_at c.args.mask c.args.count _ t (omega (arith, few)) l
