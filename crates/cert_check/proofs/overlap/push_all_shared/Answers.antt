use Rattle.std.proofs.{Common.sym, lemmas.Option.get_or_from_slice_get}
use Rattle.cert_check.proofs.Gathering.{one_there, twice_none, twice_more, twice_all}
use Rattle.cert_check.proofs.overlap.push_all_shared.Goals as goal

pub loop-place-init : goal.loop-place-init
loop-place-init c = twice_none _ _

pub loop-place-preserved : goal.loop-place-preserved
loop-place-preserved c =
    let there = one_there _ _ c.loop-place-test.true in
    twice_more _ _ _ _ _ _ c.loop-place-test.true
    (sym (get_or_from_slice_get c.args.arcs.now c.loop-place.place _ there.0 there.1)) c.loop-place.invariant
    (c.in_ok-push_shared.ensures there.0 there.1)

pub returns : goal.returns
returns c = twice_all _ _ _ _ c.loop-place-test.false c.loop-place.invariant
