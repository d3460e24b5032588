use Rattle.std.proofs.Common.{◌≡◌, ap, arith}
use Rattle.outside.proofs.Writing.{stop, up_to_as, up_to_end, up_to_more, up_to_none, up_to_stop}
use Rattle.tableau.specs.Layout.{spaces}
use Rattle.tableau.proofs.LengthLemmas.{spaces_next}
use Rattle.tableau.proofs.fields.push_spaces.Goals as goal

pub loop-rest-init : goal.loop-rest-init
loop-rest-init g c = up_to_none c.args.sink.now c.args.out.now _

pub loop-rest-preserved : goal.loop-rest-preserved
loop-rest-preserved g c =
    up_to_more (up_to_as (spaces_next c.loop-rest.rest (omega arith)) c.loop-rest.invariant) c.in_ok-push.ensures

pub returns-in_err-push : goal.returns-in_err-push
returns-in_err-push g c =
    let next = up_to_as (spaces_next c.loop-rest.rest (omega arith)) c.loop-rest.invariant in
    stop c.from_residual.ensures.1 (up_to_stop _ next c.in_err-push.ensures)

pub returns : goal.returns
returns g c =
    let none : c.loop-rest.rest ≡ 0 = omega arith in
    up_to_end (ap spaces none) c.loop-rest.invariant
