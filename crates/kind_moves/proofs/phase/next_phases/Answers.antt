use Rattle.std.proofs.Common.{sym, ◌∙◌}
use Rattle.tier_core.specs.Kinds.{phase_at}
use Rattle.violation.proofs.{KindBits.met_at, NextPhases.{next_more, next_same, next_all}}
use Rattle.kind_moves.specs.Phases.{phase_of}
use Rattle.kind_moves.proofs.phase.next_phases.Goals.{then-is_stretch, else-is_stretch}
use Rattle.kind_moves.proofs.phase.next_phases.Goals as goal

pub loop-constraint-preserved : goal.loop-constraint-preserved
loop-constraint-preserved c =
    let item = c.constraint-item.result in
    let kind = c.args.kind.now in
    let next = c.loop-constraint.next in
    elim c.if-is_stretch.branch [
      | then-is_stretch w ↦ rw (w.unmet-is, w.met-is, w.next-is)
          (next_more c.args.constraints.now kind c.args.column.now c.loop-constraint.constraint-index next
          c.loop-constraint.unmet c.loop-constraint.met
          w.with_bit-unmet.result w.with_bit-met.result item
          (phase_of w.phase_after-phase.result) c.loop-constraint.invariant c.loop-constraint-test.true
          c.constraint-item.is (sym c.is_stretch.ensures ∙ w.if-is_stretch.true)
          (record {
            within = w.with_bit-unmet.ensures.within;
            here = w.with_bit-unmet.ensures.here
                ∙ w.is_unmet.ensures;
            others = w.with_bit-unmet.ensures.others;
          })
          (record {
            within = w.with_bit-met.ensures.within;
            here = w.with_bit-met.ensures.here
                ∙ w.is_met.ensures;
            others = w.with_bit-met.ensures.others;
          })
          (w.phase_after-phase.ensures (phase_at kind next) (w.has_bit.ensures ∙ met_at kind next)))
      | else-is_stretch w ↦ rw (w.unmet-is, w.met-is, w.next-is)
          (next_same c.args.constraints.now kind c.args.column.now c.loop-constraint.constraint-index next
          c.loop-constraint.unmet c.loop-constraint.met
          item c.loop-constraint.invariant c.loop-constraint-test.true c.constraint-item.is (sym c.is_stretch.ensures
          ∙ w.if-is_stretch.false))
    ]

pub returns-clause-phases : goal.returns-clause-phases
returns-clause-phases c = (next_all _ _ _ _ _ _ _ c.loop-constraint.invariant c.loop-constraint-test.false).told

pub returns-clause-unmet : goal.returns-clause-unmet
returns-clause-unmet c = (next_all _ _ _ _ _ _ _ c.loop-constraint.invariant
    c.loop-constraint-test.false).unmet_within

pub returns-clause-met : goal.returns-clause-met
returns-clause-met c = (next_all _ _ _ _ _ _ _ c.loop-constraint.invariant c.loop-constraint-test.false).met_within
