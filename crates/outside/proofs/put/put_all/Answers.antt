use Rattle.std.proofs.Common.{arith}
use Rattle.outside.proofs.Sending.{sends_first}
use Rattle.outside.proofs.put.put_all.Goals as goal

pub loop-rest-preserved : goal.loop-rest-preserved
loop-rest-preserved g c = record {
  sends = sends_first c.in_ok-taken.taken c.loop-rest.rest.now c.loop-rest.invariant.sends c.in_ok-taken.ensures.ok;
  later = omega arith;
}
