use Rattle.std.proofs.Common.{refl, sym, ◌∙◌}
use Rattle.tier_core.specs.EmptyKind.{empty_kind}
use Rattle.cert_check.proofs.Starts.{start_by}
use Rattle.cert_check.proofs.start.is_start.Goals as goal

pub returns : goal.returns
returns c =
    let by = start_by _ _ c.requires.ready c.requires.stage c.args.kind.now empty_kind refl refl refl refl _
    c.kind_cmp.ensures in
    (λ h. by.0 (sym c.is_eq.ensures ∙ h), λ e. c.is_eq.ensures ∙ by.1 e)
