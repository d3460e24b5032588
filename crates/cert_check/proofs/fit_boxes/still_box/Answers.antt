use Rattle.std.proofs.Common.{sym, ◌∙◌}
use Rattle.cert_check.proofs.FitSteps.{still_more, still_same}
use Rattle.cert_check.proofs.fit_boxes.still_box.Goals.{then-is_input, else-is_input}
use Rattle.cert_check.proofs.fit_boxes.still_box.Goals as goal

pub loop-tier-preserved : goal.loop-tier-preserved
loop-tier-preserved c =
    elim c.if-is_input.branch [
      | then-is_input w ↦ rw (w.class-is) (record {
        width = w.restrict-class.ensures.width ∙ c.loop-tier.invariant.width;
        columns = λ column l. still_more _ _ _ _ _ _ _ c.loop-tier-test.true
            (sym c.is_input.ensures ∙ w.if-is_input.true) (w.restrict-class.ensures.columns column)
            (c.loop-tier.invariant.columns column l);
      })
      | else-is_input w ↦ rw (w.class-is) (record {
        width = c.loop-tier.invariant.width;
        columns = λ column l. still_same _ _ _ _ _ _ c.loop-tier-test.true
            (sym c.is_input.ensures ∙ w.if-is_input.false) (c.loop-tier.invariant.columns column l);
      })
    ]
