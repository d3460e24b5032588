use Rattle.std.proofs.lemmas.Result.{on_ok_weaker}
use Rattle.cert_check.proofs.CheckSteps.{ready_by, right_before, faultless_whole}
use Rattle.cert_check.proofs.whole.check_all.Goals as goal

pub check_stages-requires-clause-ready : goal.check_stages-requires-clause-ready
check_stages-requires-clause-ready c = ready_by _ c.requires c.in_ok-shape.ensures c.in_ok-check_head.ensures.ok

pub check_states-requires-clause-staged : goal.check_states-requires-clause-staged
check_states-requires-clause-staged c = record {
  ready = ready_by _ c.requires c.in_ok-shape.ensures c.in_ok-check_head.ensures.ok;
  right = right_before _ _ c.in_ok-check_head.ensures.ok c.in_ok-left.ensures.ok;
}

pub returns-clause-ok : goal.returns-clause-ok
returns-clause-ok c =
    on_ok_weaker _
    (faultless_whole _ _ (right_before _ _ c.in_ok-check_head.ensures.ok c.in_ok-left.ensures.ok))
    c.check_states.ensures.ok
