use Rattle.std.proofs.Common.{◌≡◌, [], ◌∷◌, ◌++◌, arith, length}
use Rattle.std.proofs.lemmas.List.Elements.{All-push, All-same}
use Rattle.tier_core.specs.{declared.class.Class.Class, Classes.sets_of}
use Rattle.cert_check.proofs.ArcLists.{led_elsewhere, led_there}
use Rattle.cert_check.proofs.differing.classes_to.Goals as goal

pub loop-arc-preserved-then-arc-target : goal.loop-arc-preserved-then-arc-target
loop-arc-preserved-then-arc-target c = record {
  within = omega (arith, c.loop-arc-test.true);
  columns = led_elsewhere _ _ _ c.loop-arc-test.true c.arc-item.is _ c.if-arc-target.true _
      c.loop-arc.invariant.columns;
  width = c.loop-arc.invariant.width;
}

pub loop-arc-preserved : goal.loop-arc-preserved
loop-arc-preserved c = record {
  within = omega (arith, c.loop-arc-test.true);
  columns = led_there _ _ _ c.loop-arc-test.true c.arc-item.is _ c.if-arc-target.false _ _ c.in_ok-push.ensures.items
      c.loop-arc.invariant.columns;
  width = λ width h. let P = λ (class : Class). length (sets_of class) ≡ width in
      All-same P c.push.new.self.items (c.loop-arc.classes.items ++ c.arc-item.result.class ∷ [])
      c.in_ok-push.ensures.items (All-push P c.loop-arc.classes.items c.arc-item.result.class
      (c.loop-arc.invariant.width width h)
      (rw c.arc-item.is (h c.loop-arc.arc-index c.arc-item.result c.loop-arc-test.true)));
}
