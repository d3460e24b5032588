use Rattle.std.proofs.Common.{ℕ, ◌<◌, take, length, length-take, get_or, ap, ◌∙◌, arith}
use Rattle.std.proofs.{lemmas.List.get_or-take, lemmas.List.Elements.All-from_recursion}
use Rattle.tier_core.specs.{declared.constraint.Constraint.Constraint, Tiers.{numbers_from}}
use Rattle.violation.specs.Conditions.{IsOverTiers}
use Rattle.grammar_reader.proofs.OverTiers.{over_tiers}
use Rattle.cert_check.proofs.MovedSteps.{moved_told}
use Rattle.cert_check.proofs.moves.next_kind.Goals as goal

pub with_phases-requires-clause-over : goal.with_phases-requires-clause-over
with_phases-requires-clause-over c k d l =
    let g = c.args.subject.now.grammar.now in
    let xs = c.as_slice.result.now in
    let same = c.as_slice.ensures.value in
    let size = length-take c.args.stage xs in
    let within : k < c.args.stage = omega (arith, l, size) in
    let below : k < length g.constraints.items = omega (arith, l, size, ap length same) in
    let at =
    get_or-take _ xs k d within ∙ ap (λ ys. get_or ys k d) same in
    let Over : ℕ → Constraint → Type 0 = λ w x. IsOverTiers w x in
    rw at (rw c.requires.width
    (All-from_recursion (IsOverTiers (length g.tiers.kinds.items)) g.constraints.items (over_tiers g) k d below))

pub returns : goal.returns
returns c =
    let same = c.as_slice-kinds.ensures.value in
    moved_told _ _ c.args.kind.now _ _ _ _ _ _ _ (ap (numbers_from _ 0) same) (ap (numbers_from _ 0) same)
    (ap (take c.args.stage) c.as_slice.ensures.value) c.with_phases.ensures.place c.place_after-place.ensures
    c.with_phases.ensures.opened c.opened_after.ensures.flags c.opened_after.ensures.within c.with_phases.ensures.phases
    c.with_phases.ensures.stretches
