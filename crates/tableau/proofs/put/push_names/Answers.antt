use Rattle.outside.proofs.Writing.{stop, up_to_as, up_to_end, up_to_more, up_to_none, up_to_stop}
use Rattle.tableau.specs.Layout.{tableau_lines}
use Rattle.tableau.proofs.Turns.{names_all, names_next}
use Rattle.tableau.proofs.put.push_names.Goals as goal

pub loop-place-init : goal.loop-place-init
loop-place-init g c = up_to_none c.args.sink.now c.args.out.now _

pub loop-place-preserved : goal.loop-place-preserved
loop-place-preserved g c =
    let next = names_next (tableau_lines c.args.tableau.now) _ _ _ _ _ c.loop-place-test.true c.index-names-place.is
    c.column_width-width.ensures c.as_bytes.ensures.value in
    up_to_more (up_to_as next c.loop-place.invariant) c.in_ok-push_name.ensures

pub returns-in_err-push_name : goal.returns-in_err-push_name
returns-in_err-push_name g c =
    let next = names_next (tableau_lines c.args.tableau.now) _ _ _ _ _ c.loop-place-test.true c.index-names-place.is
    c.column_width-width.ensures c.as_bytes.ensures.value in
    stop c.from_residual.ensures.1 (up_to_stop _ (up_to_as next c.loop-place.invariant) c.in_err-push_name.ensures)

pub returns : goal.returns
returns g c =
    let none = names_all (tableau_lines c.args.tableau.now) c.args.names.now c.loop-place.place
    c.loop-place-test.false in
    up_to_end none c.loop-place.invariant
