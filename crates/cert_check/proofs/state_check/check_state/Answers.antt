use Rattle.std.proofs.lemmas.Result.{on_ok_weaker}
use Rattle.cert_check.proofs.{StateFaults.state_right, StateSubjects.states_ascend}
use Rattle.cert_check.proofs.state_check.check_state.Goals as goal

pub returns-clause-ok : goal.returns-clause-ok
returns-clause-ok c =
    let s = c.args.subject.now in
    on_ok_weaker _ (state_right _ _ (states_ascend s c.requires.staged) _ c.requires.at.listed
    c.in_ok-check_targets.ensures.ok c.in_ok-check_mark.ensures.ok c.in_ok-check_once.ensures.ok)
    c.check_arcs.ensures.ok
