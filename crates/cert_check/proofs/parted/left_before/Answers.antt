use Rattle.std.proofs.Common.{◌-◌, sym, subst, arith, Contains}
use Rattle.std.proofs.lemmas.Option.{slice_get_within}
use Rattle.cert_check.specs.Subjects.{stage_kinds}
use Rattle.cert_check.proofs.Subjects.{cut_fits, cut_before_told}
use Rattle.cert_check.proofs.{LeftSteps.kinds_few, PartedSteps.left_at}
use Rattle.cert_check.proofs.parted.left_before.Goals as goal

pub find_kind-requires-clause-fits : goal.find_kind-requires-clause-fits
find_kind-requires-clause-fits c =
    cut_fits _ c.requires.ready _ c.requires.stage _ _ _ c.requires.some c.index.ensures c.requires.fits
    c.cut_to-cut.ensures.opened c.cut_to-cut.ensures.stretches

pub unreachable-requires : goal.unreachable-requires
unreachable-requires c =
    let s = c.args.subject.now in
    c.in_default.ensures (subst (Contains (stage_kinds s (c.args.stage - 1))) (sym
    (cut_before_told s c.requires.ready _ c.requires.stage c.args.kind.now c.cut_to-cut.result _ c.requires.some
    c.index.ensures c.cut_to-cut.ensures.place c.cut_to-cut.ensures.opened c.cut_to-cut.ensures.phases))
    c.requires.before.cut)

pub bounds-before-number : goal.bounds-before-number
bounds-before-number c =
    let s = c.args.subject.now in
    omega (
      arith,
      slice_get_within (stage_kinds s (c.args.stage - 1)) _ _ c.in-Some.ensures,
      c.requires.before.left.number,
    )

pub offset_bounds-before-number : goal.offset_bounds-before-number
offset_bounds-before-number c =
    let s = c.args.subject.now in
    omega (
      arith,
      kinds_few s c.requires.ready (c.args.stage - 1) (omega (arith, c.requires.stage)) _ _ c.in-Some.ensures,
    )

pub returns : goal.returns
returns c =
    let s = c.args.subject.now in
    left_at s _ c.args.kind.now _ _ _ _ _ c.in-Some.ensures (cut_before_told s c.requires.ready _ c.requires.stage
    c.args.kind.now c.cut_to-cut.result _ c.requires.some c.index.ensures c.cut_to-cut.ensures.place
    c.cut_to-cut.ensures.opened c.cut_to-cut.ensures.phases) c.requires.before.left c.index-before-number.is
    c.as_slice.ensures.value
