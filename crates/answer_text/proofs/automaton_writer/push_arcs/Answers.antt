use Rattle.std.proofs.Common.{sym}
use Rattle.answer_text.specs.Text.{arc_line}
use Rattle.answer_text.proofs.Lines.{lines_of_map}
use Rattle.outside.proofs.Writing.{each_end, each_none, each_stop, each_turn, pushes_as, stop}
use Rattle.answer_text.proofs.automaton_writer.push_arcs.Goals as goal

pub loop-arc-init : goal.loop-arc-init
loop-arc-init g c = each_none c.args.sink.now c.args.out.now _ c.args.arcs.now

pub loop-arc-preserved : goal.loop-arc-preserved
loop-arc-preserved g c = each_turn _ c.loop-arc-test.true c.arc-item.is c.loop-arc.invariant c.in_ok-push_arc.ensures

pub returns-in_err-push_arc : goal.returns-in_err-push_arc
returns-in_err-push_arc g c =
    stop c.from_residual.ensures.1
    (pushes_as (sym (lines_of_map arc_line c.args.arcs.now))
    (each_stop _ c.loop-arc-test.true c.arc-item.is c.loop-arc.invariant c.in_err-push_arc.ensures))

pub returns : goal.returns
returns g c =
    pushes_as (sym (lines_of_map arc_line c.args.arcs.now))
    (each_end c.loop-arc-test.false c.loop-arc.invariant)
