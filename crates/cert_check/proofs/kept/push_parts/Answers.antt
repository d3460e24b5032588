use Rattle.std.proofs.Common.{List, length, ap}
use Rattle.tier_core.specs.{declared.tier.TierKind.TierKind}
use Rattle.cert_check.specs.Subjects.{problem_of}
use Rattle.cert_check.proofs.{KeptSteps.{adds_as, one_piece, parts_held}, PartedSteps.{part_alike, parts_alike}}
use Rattle.cert_check.proofs.PartedSteps.{tests_wide}
use Rattle.cert_check.proofs.kept.push_parts.Goals as goal

pub is_uniform-requires : goal.is_uniform-requires
is_uniform-requires c =
    let s = c.args.subject.now in
    rw c.deref.ensures.value (tests_wide (problem_of s) _ _ _ c.requires.tests c.requires.width)

pub push_kept-requires-clause-alike : goal.push_kept-requires-clause-alike
push_kept-requires-clause-alike c =
    let s = c.args.subject.now in
    part_alike (problem_of s) _ _ _ _ _ _ c.requires.some c.requires.stage c.requires.tests c.requires.leads
    (λ column h. h) c.requires.width (rw c.deref.ensures.value at (c.is_uniform.ensures c.if-is_uniform.true))

pub parted_by_tests-requires-clause-pieces : goal.parted_by_tests-requires-clause-pieces
parted_by_tests-requires-clause-pieces c =
    let same =
    ap (λ (ks : List TierKind). length ks) c.as_slice.ensures.value in
    rw same (rw c.in_ok-only.ensures (one_piece _ _ c.requires.width c.requires.filled))

pub parted_by_tests-requires-clause-tests : goal.parted_by_tests-requires-clause-tests
parted_by_tests-requires-clause-tests c =
    let same =
    ap (λ (ks : List TierKind). length ks) c.as_slice.ensures.value in
    rw c.deref-2.ensures.value (rw same (rw c.requires.tests.new_is c.requires.tests.one_width))

pub push_each-requires-clause-pieces : goal.push_each-requires-clause-pieces
push_each-requires-clause-pieces c =
    let same =
    ap (λ (ks : List TierKind). length ks) c.as_slice.ensures.value in
    rw c.deref-3.ensures.value (rw same at c.in_ok-parts.ensures.pieces)

pub push_each-requires-clause-alike : goal.push_each-requires-clause-alike
push_each-requires-clause-alike c =
    let s = c.args.subject.now in
    let same =
    ap (λ (ks : List TierKind). length ks) c.as_slice.ensures.value in
    rw c.deref-3.ensures.value (parts_alike (problem_of s) _ _ _ _ _ _ _ c.requires.some c.requires.stage
    c.requires.tests c.requires.leads same (rw c.in_ok-only.ensures at
    (rw c.deref-2.ensures.value at c.in_ok-parts.ensures)))

pub returns : goal.returns
returns c =
    let s = c.args.subject.now in
    adds_as (problem_of s) _ _ _ _ _ _ _ (parts_held _ _ _ _ (rw c.in_ok-only.ensures at c.in_ok-parts.ensures))
    (rw c.deref-3.ensures.value at c.in_ok-push_each.ensures)
