use Rattle.std.proofs.{Common.{◌≡◌, List, length, subst, sym, arith, inl, inr}, lemmas.Bool.cases_eq}
use Rattle.tier_core.specs.declared.class.Class.{Class}
use Rattle.symbol_class.specs.Held.{width_of, ArePieces}
use Rattle.symbol_class.proofs.JoinedClasses.{pieces_of_width}
use Rattle.answer_text.specs.ArcClasses.{arc_classes}
use Rattle.kind_orders.specs.JoinedLines.{AddsJoined}
use Rattle.kind_orders.proofs.GroupSteps.{AreJoinedSoFar, same_group, other_group, lines_joined, arcs_rise}
use Rattle.kind_orders.proofs.joined_arcs.joined_lines.Goals as goal

pub group_after-requires : goal.group_after-requires
group_after-requires c = pieces_of_width (width_of (arc_classes c.args.lines.now)) c.loop-line.group.classes.items
    c.loop-line.invariant.pieces

pub loop-line-preserved : goal.loop-line-preserved
loop-line-preserved c =
    let lines = c.args.lines.now in
    let n = c.loop-line.line-index in
    let line = c.line-item.result in
    let group = c.loop-line.group in
    let next = c.in_ok-group.group in
    let done = c.loop-line.arcs.items in
    let new = c.group_after.new.arcs.items in
    elim (cases_eq line.target group.target) [
      | inl same ↦
          (let is = c.in_ok-group.ensures.same same in
          rw (is.0, is.1, is.2) (same_group lines c.requires.pieces c.requires.sorted n line c.loop-line-test.true
          c.line-item.is done group.target group.classes.items same c.loop-line.invariant))
      | inr other ↦
          (let is = c.in_ok-group.ensures.other other in
          rw (is.1, is.2) (other_group lines c.requires.pieces c.requires.sorted n line c.loop-line-test.true
          c.line-item.is done new group.target group.classes.items other c.loop-line.invariant is.0))
    ]

pub push_joined-requires : goal.push_joined-requires
push_joined-requires c = subst (λ (cs : List Class). ArePieces (width_of cs) cs) (sym c.deref.ensures.value)
    (pieces_of_width (width_of (arc_classes c.args.lines.now)) c.loop-line.group.classes.items
    c.loop-line.invariant.pieces)

pub returns-clause-joined : goal.returns-clause-joined
returns-clause-joined c =
    let lines = c.args.lines.now in
    let done = c.loop-line.arcs.items in
    let new = c.push_joined.new.arcs.items in
    let group = c.loop-line.group in
    let last : c.loop-line.line-index ≡ length lines = omega
    (arith, c.loop-line-test.false, c.loop-line.auto.line-index-end) in
    lines_joined lines done new group.target group.classes.items
    (subst (λ n. AreJoinedSoFar lines n done group.target group.classes.items) last c.loop-line.invariant)
    (subst (λ cs. AddsJoined group.target cs done new) c.deref.ensures.value c.in_ok-push_joined.ensures)

pub returns-clause-sorted : goal.returns-clause-sorted
returns-clause-sorted c =
    let done = c.loop-line.arcs.items in
    let new = c.push_joined.new.arcs.items in
    let group = c.loop-line.group in
    arcs_rise c.args.lines.now c.loop-line.line-index done new group.target group.classes.items
    c.loop-line.invariant
    (subst (λ cs. AddsJoined group.target cs done new) c.deref.ensures.value c.in_ok-push_joined.ensures)
