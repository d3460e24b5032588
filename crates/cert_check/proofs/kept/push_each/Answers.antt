use Rattle.std.proofs.Common.{refl}
use Rattle.cert_check.proofs.KeptSteps.{adds_no_piece, adds_class, adds_all}
use Rattle.cert_check.proofs.kept.push_each.Goals as goal

pub loop-class-init : goal.loop-class-init
loop-class-init c = adds_no_piece _ _ _ _ _ _ (λ column. refl)

pub push_kept-requires-clause-width : goal.push_kept-requires-clause-width
push_kept-requires-clause-width c =
    rw c.class-item.is (c.requires.pieces.one_width c.loop-class.class-index c.class-item.result c.loop-class-test.true)

pub push_kept-requires-clause-filled : goal.push_kept-requires-clause-filled
push_kept-requires-clause-filled c =
    rw c.class-item.is (c.requires.pieces.filled c.loop-class.class-index c.class-item.result c.loop-class-test.true)

pub push_kept-requires-clause-alike : goal.push_kept-requires-clause-alike
push_kept-requires-clause-alike c =
    rw c.class-item.is (c.requires.alike c.loop-class.class-index c.class-item.result c.loop-class-test.true)

pub loop-class-preserved : goal.loop-class-preserved
loop-class-preserved c =
    adds_class _ _ _ _ _ _ _ _ _ _ c.loop-class-test.true c.class-item.is c.loop-class.invariant
    c.in_ok-push_kept.ensures

pub returns : goal.returns
returns c = adds_all _ _ _ _ _ _ _ _ c.loop-class-test.false c.loop-class.invariant
