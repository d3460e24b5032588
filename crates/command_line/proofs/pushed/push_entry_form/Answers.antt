use Rattle.std.proofs.Common.{◌++◌, codes, sym, append_assoc}
use Rattle.std.specs.Fmt.{decimal}
use Rattle.command_line.specs.Lines.{form_cause_text}
use Rattle.outside.proofs.Writing.{◌▹◌, cut, pushes_as, stop}
use Rattle.command_line.proofs.pushed.push_entry_form.Goals as goal

pub returns-in_err-push_worded : goal.returns-in_err-push_worded
returns-in_err-push_worded g c =
    let whole = append_assoc ((codes "BadForm " ++ decimal c.args.index) ++ codes " ")
    (form_cause_text c.args.cause) (codes "\n") in
    stop c.from_residual.ensures.1 (pushes_as (sym whole) (cut _ c.in_err-push_worded.ensures))

pub returns : goal.returns
returns g c =
    let whole = append_assoc ((codes "BadForm " ++ decimal c.args.index) ++ codes " ")
    (form_cause_text c.args.cause) (codes "\n") in
    pushes_as (sym whole) (c.in_ok-push_worded.ensures ▹ c.push_form_cause.ensures)
