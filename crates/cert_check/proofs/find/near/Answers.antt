use Rattle.std.proofs.Common.{◌<◌, length, sym, ◌∙◌, arith}
use Rattle.cert_check.proofs.Searches.{at_middle}
use Rattle.cert_check.proofs.find.near.Goals as goal

pub returns-in-Equal : goal.returns-in-Equal
returns-in-Equal c =
    let inside : c.loop-number.number < length c.args.nodes.now = omega (
      arith,
      c.loop-number-test.true,
      c.min-end.ensures,
    ) in
    at_middle c.args.shape.now c.args.stage _ c.args.key.now c.requires.ascending _ _ inside
    (sym c.kind_cmp.ensures ∙ c.in-Equal.is)
