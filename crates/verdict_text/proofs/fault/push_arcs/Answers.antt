use Rattle.outside.proofs.Writing.{◌▹◌, cut, stop}
use Rattle.verdict_text.proofs.fault.push_arcs.Goals as goal

pub returns-in_err-push_numbered : goal.returns-in_err-push_numbered
returns-in_err-push_numbered g c =
    stop c.from_residual.ensures.1 (cut _ (cut _ (cut _ c.in_err-push_numbered.ensures)))

pub returns-in_err-push_column_after_space : goal.returns-in_err-push_column_after_space
returns-in_err-push_column_after_space g c =
    let pushed = c.in_ok-push_numbered.ensures ▹ c.in_err-push_column_after_space.ensures in
    stop c.from_residual-in_err-push_column_after_space.ensures.1 (cut _ (cut _ pushed))

pub returns-in_err-push_target : goal.returns-in_err-push_target
returns-in_err-push_target g c =
    let pushed = c.in_ok-push_numbered.ensures ▹ c.in_ok-push_column_after_space.ensures
    ▹ c.in_err-push_target.ensures in
    stop c.from_residual-in_err-push_target.ensures.1 (cut _ pushed)

pub returns : goal.returns
returns g c =
    c.in_ok-push_numbered.ensures ▹ c.in_ok-push_column_after_space.ensures ▹ c.in_ok-push_target.ensures
    ▹ c.push_target-2.ensures
