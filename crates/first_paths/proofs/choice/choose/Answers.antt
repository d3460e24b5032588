use Rattle.std.proofs.Common.{◌<◌, Option, None, Some, subst, arith}
use Rattle.first_paths.specs.{declared.choice.Choice.Choice, Counted.HasLeft}
use Rattle.first_paths.proofs.Choosing.{IsBestBelow, best-skip, best-take}
use Rattle.first_paths.proofs.choice.choose.Goals as goal

pub loop-arc-preserved-then-not-has_left : goal.loop-arc-preserved-then-not-has_left
loop-arc-preserved-then-not-has_left c = record {
  inside = omega (arith, c.loop-arc-test.true);
  best = best-skip c.args.left.now c.args.n c.args.arcs.now c.loop-arc.arc-index c.arc-item.result
      c.loop-arc-test.true c.arc-item.is
      (λ has. (let yes = c.has_left.ensures.1 has in let no = c.if-not-has_left.true in cc)) c.loop-arc.best
      c.loop-arc.invariant.best;
}

pub loop-arc-preserved : goal.loop-arc-preserved
loop-arc-preserved c =
    let made = c.better_choice.ensures in
    let has : HasLeft c.args.left.now c.args.n c.arc-item.result =
    (let yes = c.if-not-has_left.false in c.has_left.ensures.0 (cc)) in
    record {
      inside = omega (arith, c.loop-arc-test.true);
      best = best-take c.args.left.now c.args.n c.args.arcs.now c.loop-arc.arc-index c.arc-item.result
          c.loop-arc-test.true c.arc-item.is has c.loop-arc.best c.better_choice.result c.loop-arc.invariant.best
          made.of
          made.arc made.best;
    }

pub unreachable-requires : goal.unreachable-requires
unreachable-requires c =
    let arcs = c.args.arcs.now in
    let some = c.requires.some in
    let P : Option Choice → Type 0 = IsBestBelow c.args.left.now c.args.n arcs c.loop-arc.arc-index in
    let none : P None = subst P c.in-None.is c.loop-arc.invariant.best in
    let place = some.1 in
    let inside : place.0 < c.loop-arc.arc-index = omega (arith, place.1, c.loop-arc-test.false) in
    none place.0 some.0 inside (rw place.2 some.2)

pub returns : goal.returns
returns c =
    let arcs = c.args.arcs.now in
    let P : Option Choice → Type 0 = IsBestBelow c.args.left.now c.args.n arcs c.loop-arc.arc-index in
    let best : P (Some c.in-Some.choice) = subst P c.in-Some.is c.loop-arc.invariant.best in
    (best.0, best.1, best.2, best.3, λ j d l has. best.4 j d (omega (arith, l, c.loop-arc-test.false)) has)
