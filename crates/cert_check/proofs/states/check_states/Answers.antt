use Rattle.std.proofs.Common.{◌≡◌, List, length, sym, ap, ◌∙◌, arith, true≢false}
use Rattle.std.proofs.{lemmas.Option.slice_get_within, lemmas.Result.err_from_is_err_and}
use Rattle.violation.specs.Problems.{last_stage}
use Rattle.answer_text.specs.{declared.automaton.StateLine.StateLine}
use Rattle.cert_check.specs.{Faults.IsState, Subjects.problem_of}
use Rattle.cert_check.proofs.LastArcs.{kept_at, number_within}
use Rattle.cert_check.proofs.StateSteps.{right_more, first_start, first_state, states_right, state_read, state_here}
use Rattle.cert_check.proofs.{StateSubjects.states_ascend, Stops.stop_says}
use Rattle.cert_check.proofs.states.check_states.Goals as goal

pub returns-then-not-has_state-clause-err : goal.returns-then-not-has_state-clause-err
returns-then-not-has_state-clause-err c =
    let s = c.args.subject.now in
    first_start _ _ (states_ascend s c.requires.staged) c.requires.staged.right
    (λ h. true≢false (sym (c.has_state.ensures.1 (rw c.as_slice-states.ensures.value h)) ∙ c.if-not-has_state.true))

pub check_state-requires-clause-at : goal.check_state-requires-clause-at
check_state-requires-clause-at c =
    let s = c.args.subject.now in
    let is : c.len.result ≡ last_stage (problem_of s) = omega (arith, c.len.ensures) in
    state_here _ s c.requires.staged c.as_slice-states.ensures.value _ _ c.loop-state-test.true c.state-item.is _ _ _ _
    c.as_slice-nodes.ensures.value is c.index.ensures c.index-nodes-number.is

pub bounds-left-number : goal.bounds-left-number
bounds-left-number c =
    let s = c.args.subject.now in
    let is : c.len.result ≡ last_stage (problem_of s) = omega (arith, c.len.ensures) in
    number_within s c.requires.staged _ _ (state_here _ s c.requires.staged c.as_slice-states.ensures.value _ _
    c.loop-state-test.true c.state-item.is _ _ _ _ c.as_slice-nodes.ensures.value is c.index.ensures
    c.index-nodes-number.is) _ c.requires.left

pub check_state-requires-clause-kept : goal.check_state-requires-clause-kept
check_state-requires-clause-kept c =
    let s = c.args.subject.now in
    let is : c.len.result ≡ last_stage (problem_of s) = omega (arith, c.len.ensures) in
    kept_at s c.requires.staged _ _ (state_here _ s c.requires.staged c.as_slice-states.ensures.value _ _
    c.loop-state-test.true c.state-item.is _ _ _ _ c.as_slice-nodes.ensures.value is c.index.ensures
    c.index-nodes-number.is) _ c.requires.left _ _ c.index-left-number.is c.deref.ensures.value

pub returns-in_err-check_state-clause-err : goal.returns-in_err-check_state-clause-err
returns-in_err-check_state-clause-err c =
    let s = c.args.subject.now in
    let start : IsState s.answer.now 0 = rw c.as_slice-states.ensures.value
    at (c.has_state.ensures.0 c.if-not-has_state.false) in
    let p = err_from_is_err_and c.from_residual.result c.from_residual.ensures.1 in
    rw (p.1, p.2) (stop_says _ _ (first_state _ _ (states_ascend s c.requires.staged) c.requires.staged.right start _ _
    (state_read _ s c.requires.staged c.as_slice-states.ensures.value _ _ c.loop-state-test.true c.state-item.is)
    c.loop-state.invariant) _ c.in_err-check_state.ensures.err)

pub loop-state-preserved : goal.loop-state-preserved
loop-state-preserved c =
    let s = c.args.subject.now in
    right_more _ _ (states_ascend s c.requires.staged) c.requires.staged.right _ _
    (state_read _ s c.requires.staged c.as_slice-states.ensures.value _ _ c.loop-state-test.true c.state-item.is)
    c.in_ok-check_state.ensures.ok c.loop-state.invariant

pub returns-clause-ok : goal.returns-clause-ok
returns-clause-ok c =
    let s = c.args.subject.now in
    let start : IsState s.answer.now 0 = rw c.as_slice-states.ensures.value
    at (c.has_state.ensures.0 c.if-not-has_state.false) in
    states_right _ _ (states_ascend s c.requires.staged) c.requires.staged.right start
    (λ n line e. c.loop-state.invariant n line (omega (
      arith,
      slice_get_within _ n _ e,
      c.loop-state-test.false,
      ap (λ (xs : List StateLine). length xs) c.as_slice-states.ensures.value,
    )) e)
