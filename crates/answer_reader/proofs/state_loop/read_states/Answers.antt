use Rattle.std.proofs.{Common.{◌-◌, ◌+◌, [], subst, sym, ◌∙◌, arith, map}, lemmas.Result.err_from_is_err_and}
use Rattle.answer_reader.specs.{Left.lines_left, States.{behind_states, states_from}}
use Rattle.answer_text.specs.Values.{state_value}
use Rattle.answer_reader.proofs.Going.{fails_from}
use Rattle.answer_reader.proofs.StateLoops.{AreStates, states_start, one_read, one_refused, none_left}
use Rattle.answer_reader.proofs.state_loop.read_states.Goals as goal

pub loop-init : goal.loop-init
loop-init c = states_start _ _ _ _ _ _ (omega arith) c.new-states.ensures.items

pub returns-in_err-state-clause-goes_on : goal.returns-in_err-state-clause-goes_on
returns-in_err-state-clause-goes_on c =
    let p = err_from_is_err_and c.from_residual.result c.from_residual.ensures.1 in
    rw (p.1, p.2) (one_refused c.args.width c.args.nodes c.args.count (c.args.count - c.loop.counter)
    (c.args.count - (c.loop.counter + 1)) c.args.lines.now c.loop.lines c.loop.states.items
    c.in_err-state.field-0.0 (omega arith) c.loop.invariant
    (rw c.deref.ensures.value at (c.in_err-state.ensures.goes_on (c.args.count - (c.loop.counter + 1)))))

pub loop-preserved : goal.loop-preserved
loop-preserved c = rw c.in_ok-push.ensures.items (one_read _ _ _ _ _ _ _ _ _ _ (omega arith) c.loop.invariant
    (rw c.deref.ensures.value at (c.in_ok-state.ensures.goes_on (c.args.count - (c.loop.counter + 1))))
    (rw c.deref.ensures.value at c.in_ok-state.ensures.follows) c.in_ok-state.ensures.readable)

pub returns-in_err-read_end-clause-goes_on : goal.returns-in_err-read_end-clause-goes_on
returns-in_err-read_end-clause-goes_on c =
    let p = err_from_is_err_and c.from_residual-in_err-read_end.result c.from_residual-in_err-read_end.ensures.1 in
    rw (p.1, p.2) (fails_from c.in_err-read_end.field-0.0
    (states_from c.args.width c.args.nodes (behind_states c.args.count []) c.args.lines.now.number
    (lines_left c.args.lines.now)) _
    (none_left c.args.width c.args.nodes c.args.count (c.args.count - c.loop.counter) c.args.lines.now c.loop.lines
    c.loop.states.items (omega arith) c.loop.invariant)
    (c.in_err-read_end.ensures c.args.width c.args.nodes (map state_value c.loop.states.items)))

pub returns-clause-goes_on : goal.returns-clause-goes_on
returns-clause-goes_on c = none_left _ _ _ _ _ _ _ (omega arith) c.loop.invariant ∙ c.in_ok-read_end.ensures
    c.args.width c.args.nodes (map state_value c.loop.states.items)
