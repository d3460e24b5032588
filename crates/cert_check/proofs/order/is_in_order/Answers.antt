use Rattle.std.proofs.Common.{◌-◌, ◌<◌, List, length, arith, sym, ap, subst, Contains, ◌≤◌}
use Rattle.violation.specs.{Moves.cut_kind}
use Rattle.answer_text.specs.{declared.stage.Node.Node}
use Rattle.tier_core.specs.Kinds.{PrefixKind}
use Rattle.cert_check.specs.Subjects.{stage_nodes, problem_of, stage_kinds}
use Rattle.cert_check.proofs.{Orders.in_order_by, Subjects.number_bits}
use Rattle.cert_check.proofs.order.is_in_order.Goals as goal

pub returns : goal.returns
returns c =
    let s = c.args.subject.now in
    let stage = c.args.stage in
    let n = c.args.number in
    let inside : n < length (stage_nodes s stage) = omega
    (arith, c.requires.within, ap (λ (xs : List Node). length xs) c.requires.nodes) in
    let bits =
    number_bits s c.requires.ready _ c.requires.stage _ n _ c.requires.nodes c.requires.within in
    let Cut : PrefixKind → Type 0 = λ k. 1 ≤ stage
    → Contains (stage_kinds s (stage - 1)) (cut_kind (problem_of s) (stage - 1) k) in (
      λ h. in_order_by s _ n inside (rw bits at (c.is_possible.ensures.0 c.if-not-is_possible.false))
          (c.comes_after.ensures.0 c.if-not-comes_after.false) (subst Cut bits (c.has_cut_before.ensures.0 h)),
      λ o. c.has_cut_before.ensures.1 (subst Cut (sym bits) o.cut_before),
    )
