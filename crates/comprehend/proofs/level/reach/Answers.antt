use Rattle.std.proofs.Common.{arith}
use Rattle.first_paths.proofs.Reaching.{reaches_more}
use Rattle.comprehend.specs.{declared.entering.Entering.Entering, Entering.ComesBy}
use Rattle.comprehend.proofs.level.reach.Goals as goal

pub loop-entry-preserved : goal.loop-entry-preserved
loop-entry-preserved c = record {
  inside = omega (arith, c.loop-entry-test.true);
  reached = reaches_more (λ (entry : Entering) v. ComesBy c.args.tests.now entry.source entry.class c.args.place v)
      c.args.entries.now c.loop-entry.entry-index c.entry-item.result c.entry-item.result c.loop-entry-test.true
      c.entry-item.is c.args.n
      c.args.left.now.items c.loop-entry.left.items c.reach_by.new.left.items c.args.next.now.items
      c.loop-entry.next.items c.reach_by.new.next.items c.loop-entry.invariant.reached c.in_ok-reach_by.ensures;
}
