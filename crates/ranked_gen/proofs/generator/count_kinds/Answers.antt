use Rattle.std.proofs.Common.{◌<◌, ◌*◌, ◌^◌, arith, mod-eq_of_lt}
use Rattle.ranked_gen.proofs.StageKinds.{first_small}
use Rattle.ranked_gen.proofs.generator.count_kinds.Goals as goal

pub returns : goal.returns
returns c =
    let small = first_small c.args.places c.args.free c.requires.places c.requires.few in
    let below : c.args.places * 2 ^ c.args.free < 2 ^ 32 = omega (arith, small.0) in
    mod-eq_of_lt below
