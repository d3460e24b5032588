use Rattle.std.proofs.Common.{arith}
use Rattle.comprehend.proofs.Alongs.{last_place, any_place}
use Rattle.comprehend.proofs.choose.along.Goals as goal

pub returns-then-place-places : goal.returns-then-place-places
returns-then-place-places c =
    last_place c.args.tests.now c.args.place c.args.left.now c.args.n c.args.class.now c.args.target c.requires.place
    c.index-tests-0.result c.index-tests-0.is c.cell-stay.result c.cell-stay.ensures
    c.if-place-places.true c.args.best c.better_choice-stayed.result c.better_choice-stayed.ensures

pub returns : goal.returns
returns c =
    any_place c.args.tests.now c.args.place c.args.left.now c.args.n c.args.class.now c.args.target c.requires.place
    c.index-tests-0.result c.index-tests-0.is c.cell-stay.result c.cell-stay.ensures
    (omega (
      arith,
      c.requires.place,
      c.if-place-places.false,
    )) c.index-tests-place.result c.index-tests-place.is c.args.best c.better_choice-stayed.result
    c.better_choice.result c.better_choice-stayed.ensures c.better_choice.ensures
