use Rattle.std.proofs.Common.{◌≤◌, arith, sym, ap₂, ◌∙◌}
use Rattle.tier_core.specs.Kinds.{kind_order}
use Rattle.cert_check.proofs.{Searches.less_is, Subjects.number_read}
use Rattle.cert_check.proofs.order.comes_after.Goals as goal

pub returns : goal.returns
returns c =
    let s = c.args.subject.now in
    let some : 1 ≤ c.args.number = omega (arith, c.if-number-eq0.false) in
    let same =
    c.kind_cmp.ensures ∙ ap₂ kind_order
    (number_read s c.requires.ready _ c.requires.stage _ _ _ c.requires.nodes (omega (arith, c.requires.within)))
    (number_read s c.requires.ready _ c.requires.stage _ _ _ c.requires.nodes c.requires.within) in
    let is = less_is _ in (
      λ h one. sym same ∙ is.0 (sym c.is_lt.ensures ∙ h),
      λ h. c.is_lt.ensures ∙ is.1 (same ∙ h some),
    )
