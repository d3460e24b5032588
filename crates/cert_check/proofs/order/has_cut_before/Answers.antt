use Rattle.std.proofs.Common.{◌-◌, ◌≤◌, arith, sym, subst, Contains}
use Rattle.cert_check.specs.Subjects.{stage_kinds}
use Rattle.cert_check.proofs.Subjects.{cut_fits, cut_before_told}
use Rattle.cert_check.proofs.order.has_cut_before.Goals as goal

pub has_kind-requires-clause-fits : goal.has_kind-requires-clause-fits
has_kind-requires-clause-fits c =
    cut_fits _ c.requires.ready _ c.requires.stage _ _ _ (omega (arith, c.if-stage-eq0.false)) c.index.ensures
    c.requires.fits c.cut_to-cut.ensures.opened c.cut_to-cut.ensures.stretches

pub returns : goal.returns
returns c =
    let s = c.args.subject.now in
    let some : 1 ≤ c.args.stage = omega (arith, c.if-stage-eq0.false) in
    let same = cut_before_told s c.requires.ready _ c.requires.stage c.args.kind.now c.cut_to-cut.result
    c.index.result.now some c.index.ensures c.cut_to-cut.ensures.place c.cut_to-cut.ensures.opened
    c.cut_to-cut.ensures.phases in (
      λ h one. subst (Contains (stage_kinds s (c.args.stage - 1))) same (c.has_kind.ensures.0 h),
      λ h. c.has_kind.ensures.1 (subst (Contains (stage_kinds s (c.args.stage - 1))) (sym same) (h some)),
    )
