use Rattle.std.proofs.Common.{sym}
use Rattle.answer_text.specs.Text.{state_lines}
use Rattle.answer_text.proofs.Lines.{lines_of_each}
use Rattle.outside.proofs.Writing.{each_end, each_none, each_stop, each_turn, pushes_as, stop}
use Rattle.answer_text.proofs.automaton_writer.push_states.Goals as goal

pub loop-state-init : goal.loop-state-init
loop-state-init g c = each_none c.args.sink.now c.args.out.now _ c.args.states.now

pub loop-state-preserved : goal.loop-state-preserved
loop-state-preserved g c =
    each_turn _ c.loop-state-test.true c.state-item.is c.loop-state.invariant c.in_ok-push_state.ensures

pub returns-in_err-push_state : goal.returns-in_err-push_state
returns-in_err-push_state g c =
    stop c.from_residual.ensures.1
    (pushes_as (sym (lines_of_each state_lines c.args.states.now))
    (each_stop _ c.loop-state-test.true c.state-item.is c.loop-state.invariant c.in_err-push_state.ensures))

pub returns : goal.returns
returns g c =
    pushes_as (sym (lines_of_each state_lines c.args.states.now))
    (each_end c.loop-state-test.false c.loop-state.invariant)
