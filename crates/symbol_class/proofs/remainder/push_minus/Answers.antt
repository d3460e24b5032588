use Rattle.std.proofs.Common.{arith}
use Rattle.symbol_class.proofs.MinusSteps.{minus_more, minus_all}
use Rattle.symbol_class.proofs.remainder.push_minus.Goals as goal

pub loop-tier-preserved : goal.loop-tier-preserved
loop-tier-preserved c =
    minus_more c.args.pieces.now.items c.args.a.now c.args.b.now c.loop-tier.tier c.loop-tier.pieces.items
    c.push_filled.new.pieces.items c.loop-tier.rest c.restrict.result c.restrict-rest.result c.bits-set.result
    c.loop-tier.invariant
    (omega (
      arith,
      c.loop-tier-test.true,
      c.width-tier-end.ensures.value,
      c.requires,
    )) c.bits-set.ensures.value c.bits-set.ensures.set
    c.restrict.ensures.width c.restrict.ensures.columns c.restrict-rest.ensures.width c.restrict-rest.ensures.columns
    c.in_ok-push_filled.ensures.held c.in_ok-push_filled.ensures.few

pub returns-clause-held : goal.returns-clause-held
returns-clause-held c =
    minus_all c.args.pieces.now.items c.args.a.now c.args.b.now c.loop-tier.tier c.loop-tier.pieces.items
    c.loop-tier.rest c.loop-tier.invariant
    (omega (arith, c.loop-tier-test.false, c.width-tier-end.ensures.value, c.requires)) c.requires
