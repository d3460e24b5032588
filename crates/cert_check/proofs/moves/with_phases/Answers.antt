use Rattle.std.proofs.Common.{refl, sym, ◌∙◌}
use Rattle.tier_core.specs.Kinds.{phase_at}
use Rattle.violation.proofs.{KindBits.met_at, NextPhases.{next_more, next_same, next_all}}
use Rattle.cert_check.proofs.moves.with_phases.Goals.{then-is_stretch, else-is_stretch}
use Rattle.cert_check.proofs.moves.with_phases.Goals as goal

pub loop-constraint-preserved : goal.loop-constraint-preserved
loop-constraint-preserved c =
    let kind = c.args.kind.now in
    let next = c.loop-constraint.next in
    elim c.if-is_stretch.branch [
      | then-is_stretch w ↦
          let was = w.has_bit-was_met.ensures ∙ met_at kind _ in
          rw (w.unmet-is, w.met-is, w.next-is) (next_more _ _ _ _ _ _ _ _ _ _ _ c.loop-constraint.invariant
          c.loop-constraint-test.true c.constraint-item.is (sym c.is_stretch.ensures ∙ w.if-is_stretch.true) (record {
            within = w.with_bit-unmet.ensures.within;
            here = w.with_bit-unmet.ensures.here ∙ w.is_unmet_after.ensures (phase_at kind next) was;
            others = w.with_bit-unmet.ensures.others;
          })
          (record {
            within = w.with_bit-met.ensures.within;
            here = w.with_bit-met.ensures.here ∙ w.is_met_after.ensures (phase_at kind next) was;
            others = w.with_bit-met.ensures.others;
          })
          refl)
      | else-is_stretch w ↦ rw (w.unmet-is, w.met-is, w.next-is) (next_same _ _ _ _ _ _ _ _ c.loop-constraint.invariant
          c.loop-constraint-test.true c.constraint-item.is (sym c.is_stretch.ensures ∙ w.if-is_stretch.false))
    ]

pub returns-clause-phases : goal.returns-clause-phases
returns-clause-phases c = (next_all _ _ _ _ _ _ _ c.loop-constraint.invariant c.loop-constraint-test.false).told

pub returns-clause-stretches : goal.returns-clause-stretches
returns-clause-stretches c =
    let all = next_all _ _ _ _ _ _ _ c.loop-constraint.invariant c.loop-constraint-test.false in
    record { unmet = all.unmet_within; met = all.met_within }
