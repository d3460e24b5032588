use Rattle.std.proofs.Common.{refl, arith, sym, ap, ◌∙◌}
use Rattle.std.proofs.{lemmas.List.{get_or-map, length-map}}
use Rattle.answer_text.specs.{declared.automaton.ArcLine.ArcLine, ArcClasses.arc_classes}
use Rattle.cert_check.proofs.KeptSteps.{adds_no_piece, adds_class, adds_all, kept_by}
use Rattle.cert_check.proofs.PartedSteps.{arc_class_at, left_kept}
use Rattle.cert_check.proofs.kept.later_kept.Goals as goal

pub loop-arc-init : goal.loop-arc-init
loop-arc-init c = rw c.new-kept.ensures.items (adds_no_piece _ _ _ _ _ _ (λ column. refl))

pub push_parts-requires-clause-width : goal.push_parts-requires-clause-width
push_parts-requires-clause-width c =
    (arc_class_at _ _ _ _ _ c.requires.before _ _ c.loop-arc-test.true c.arc-item.is).0

pub push_parts-requires-clause-filled : goal.push_parts-requires-clause-filled
push_parts-requires-clause-filled c =
    (arc_class_at _ _ _ _ _ c.requires.before _ _ c.loop-arc-test.true c.arc-item.is).1.0

pub push_parts-requires-clause-leads : goal.push_parts-requires-clause-leads
push_parts-requires-clause-leads c =
    (arc_class_at _ _ _ _ _ c.requires.before _ _ c.loop-arc-test.true c.arc-item.is).1.1

pub loop-arc-preserved : goal.loop-arc-preserved
loop-arc-preserved c =
    let arcs = c.args.before.now in
    adds_class _ _ _ _ (arc_classes arcs) _ _ _ _ _
    (omega (arith, c.loop-arc-test.true, length-map arcs (λ (arc : ArcLine). arc.class)))
    (ap (λ (arc : ArcLine). arc.class) c.arc-item.is
    ∙ sym (get_or-map (λ (arc : ArcLine). arc.class) arcs c.loop-arc.arc-index c.arc-item.result _
    c.loop-arc-test.true))
    c.loop-arc.invariant c.in_ok-push_parts.ensures

pub returns : goal.returns
returns c =
    let arcs = c.args.before.now in
    kept_by _ _ _ _ _ _ c.requires.before.pieces (left_kept _ _ _ _ _ c.requires.some c.requires.before)
    (adds_all _ _ _ _ (arc_classes arcs) _ _ _ (omega (
      arith,
      c.loop-arc-test.false,
      length-map arcs (λ (arc : ArcLine). arc.class),
    )) c.loop-arc.invariant)
