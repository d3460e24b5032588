use Rattle.std.proofs.Common.{arith}
use Rattle.cert_check.proofs.Gathering.{arc_more}
use Rattle.cert_check.proofs.differing.push_unmatched.Goals as goal

pub loop-arc-preserved : goal.loop-arc-preserved
loop-arc-preserved c = record {
  within = omega (arith, c.loop-arc-test.true);
  adds = arc_more _ _ _ _ _ _ _ c.loop-arc-test.true c.arc-item.is c.loop-arc.invariant.adds c.in_ok-push_rest.ensures;
}
