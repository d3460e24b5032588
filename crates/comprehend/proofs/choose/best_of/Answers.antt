use Rattle.std.proofs.{Common.{◌≡◌, None, Some, length, sym, ◌∙◌, arith}, lemmas.Option.slice_get_within}
use Rattle.std.specs.Prelude.{slice_get}
use Rattle.comprehend.proofs.{Cells.cells_inside, Alongs.{arc_nowhere, arc_more}}
use Rattle.comprehend.proofs.choose.best_of.Goals as goal

pub loop-arc-preserved-in_default : goal.loop-arc-preserved-in_default
loop-arc-preserved-in_default c = record {
  inside = omega (arith, c.loop-arc-test.true);
  best = arc_nowhere c.args.numbers.now.keys c.args.tests.now c.args.place c.args.left.now c.args.n c.args.arcs.now
      c.loop-arc.arc-index c.arc-item.result c.loop-arc-test.true c.arc-item.is
      (λ t at. c.in_default.not-Some t ((c.place_of.ensures t).1 at)) None c.loop-arc.best c.loop-arc.invariant.best;
}

pub along-best-requires-clause-cells : goal.along-best-requires-clause-cells
along-best-requires-clause-cells c =
    let keys = c.args.numbers.now.keys in
    let at : slice_get keys c.in-Some.target
    ≡ Some c.arc-item.result.target = (c.place_of.ensures c.in-Some.target).0 c.in-Some.is in
    omega (
      arith,
      cells_inside c.in-Some.target (length keys) (length c.args.tests.now)
          (slice_get_within keys c.in-Some.target c.arc-item.result.target at),
      c.requires.cells,
    )

pub loop-arc-preserved : goal.loop-arc-preserved
loop-arc-preserved c =
    let target = c.in-Some.target in
    record {
      inside = omega (arith, c.loop-arc-test.true);
      best = arc_more c.args.numbers.now.keys c.args.tests.now c.args.place c.args.left.now c.args.n c.args.arcs.now
          c.loop-arc.arc-index c.arc-item.result c.loop-arc-test.true c.arc-item.is
          target ((c.place_of.ensures target).0 c.in-Some.is)
          (λ t at. (let both : Some t ≡ Some target = sym ((c.place_of.ensures t).1 at)
          ∙ c.in-Some.is in let same : t ≡ target = cc in same))
          None c.loop-arc.best c.along-best.result c.loop-arc.invariant.best c.along-best.ensures;
    }
