use Rattle.std.proofs.Common.{sym, ◌∙◌}
use Rattle.tier_core.specs.Kinds.{phase_at}
use Rattle.violation.proofs.KindBits.{met_at}
use Rattle.kind_moves.proofs.PhaseParts.{phased_none, phased_more, phased_same}
use Rattle.kind_moves.proofs.parting.parts_by_phases.Goals.{then-is_stretch+in_ok-parts, else-is_stretch}
use Rattle.kind_moves.proofs.parting.parts_by_phases.Goals as goal

pub loop-constraint-init : goal.loop-constraint-init
loop-constraint-init c = phased_none c.args.width c.args.constraints.now c.args.kind.now c.args.classes.items
    c.requires.pieces

pub loop-constraint-preserved : goal.loop-constraint-preserved
loop-constraint-preserved c =
    let item = c.constraint-item.result in
    let kind = c.args.kind.now in
    let next = c.loop-constraint.next in
    elim c.if-is_stretch.branch [
      | then-is_stretch+in_ok-parts w ↦ rw (w.parts-is, w.next-is)
          (phased_more c.args.width c.args.constraints.now kind c.loop-constraint.constraint-index next
          c.args.classes.items c.loop-constraint.parts.items w.in_ok-parts.parts.items
          item c.loop-constraint.invariant c.loop-constraint-test.true c.constraint-item.is (sym c.is_stretch.ensures
          ∙ w.if-is_stretch.true)
          (w.in_ok-parts.ensures (phase_at kind next) (w.has_bit-was_met.ensures ∙ met_at kind next)))
      | else-is_stretch w ↦ rw (w.parts-is, w.next-is) (phased_same c.args.width c.args.constraints.now kind
          c.loop-constraint.constraint-index next c.args.classes.items c.loop-constraint.parts.items
          item c.loop-constraint.invariant c.loop-constraint-test.true c.constraint-item.is (sym c.is_stretch.ensures
          ∙ w.if-is_stretch.false))
    ]
