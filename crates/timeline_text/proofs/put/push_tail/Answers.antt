use Rattle.outside.proofs.Writing.{◌▹◌, cut, each_end, each_none, each_stop, each_turn, stop}
use Rattle.timeline_text.proofs.put.push_tail.Goals as goal

pub loop-column-init : goal.loop-column-init
loop-column-init g c = each_none c.args.sink.now c.args.out.now _ c.args.columns.now

pub loop-column-preserved : goal.loop-column-preserved
loop-column-preserved g c =
    let piece = c.in_ok-push.ensures ▹ c.in_ok-push_column.ensures in
    each_turn _ c.loop-column-test.true c.column-item.is c.loop-column.invariant piece

pub returns-in_err-push : goal.returns-in_err-push
returns-in_err-push g c =
    let piece = cut _ c.in_err-push.ensures in
    stop c.from_residual.ensures.1 (each_stop _ c.loop-column-test.true c.column-item.is c.loop-column.invariant piece)

pub returns-in_err-push_column : goal.returns-in_err-push_column
returns-in_err-push_column g c =
    let piece = c.in_ok-push.ensures ▹ c.in_err-push_column.ensures in
    stop c.from_residual-in_err-push_column.ensures.1
    (each_stop _ c.loop-column-test.true c.column-item.is c.loop-column.invariant piece)

pub returns : goal.returns
returns g c = each_end c.loop-column-test.false c.loop-column.invariant
