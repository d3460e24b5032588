use Rattle.std.proofs.Common.{ap, ◌∙◌}
use Rattle.tier_core.specs.Kinds.{prefix_kind}
use Rattle.outside.proofs.Writing.{◌▹◌, cut, pushes_as, stop}
use Rattle.answer_text.specs.{Shape.widths_of, Text.kind_text}
use Rattle.verdict_text.proofs.fault.push_closed.Goals as goal

pub returns-in_err-push_numbered : goal.returns-in_err-push_numbered
returns-in_err-push_numbered g c = stop c.from_residual.ensures.1 (cut _ (cut _ c.in_err-push_numbered.ensures))

pub returns-in_err-push : goal.returns-in_err-push
returns-in_err-push g c =
    stop c.from_residual-in_err-push.ensures.1 (cut _ (c.in_ok-push_numbered.ensures ▹ c.in_err-push.ensures))

pub returns : goal.returns
returns g c =
    let free = (widths_of c.args.shape.now).free in
    let same = ap (λ f. kind_text (prefix_kind f c.stretch_count.result c.args.missing.now)) c.free_count.ensures.value
    ∙ ap (λ s. kind_text (prefix_kind free s c.args.missing.now)) c.stretch_count.ensures.value in
    c.in_ok-push_numbered.ensures ▹ c.in_ok-push.ensures ▹ (pushes_as same c.push_kind.ensures)
