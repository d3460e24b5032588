use Rattle.std.proofs.Common.{◌∙◌}
use Rattle.tier_core.proofs.KnownSets.{in_edgeless}
use Rattle.cert_check.proofs.FitSteps.{tier_more}
use Rattle.cert_check.proofs.fit_boxes.edgeless_box.Goals as goal

pub loop-tier-preserved : goal.loop-tier-preserved
loop-tier-preserved c =
    record {
      width = c.restrict-class.ensures.width ∙ c.loop-tier.invariant.width;
      columns = λ column l. tier_more _ _ _ _ _ (c.restrict-class.ensures.columns column) (in_edgeless _)
          (c.loop-tier.invariant.columns column l);
    }
