use Rattle.std.proofs.Common.{ap, ◌∙◌}
use Rattle.tier_core.specs.{Scan.fits, Timelines.symbol}
use Rattle.cert_check.proofs.FitSteps.{tier_more}
use Rattle.cert_check.proofs.fit_boxes.coming_box.Goals as goal

pub loop-tier-preserved : goal.loop-tier-preserved
loop-tier-preserved c =
    let tier = c.loop-tier.tier in
    record {
      width = c.restrict-class.ensures.width ∙ c.loop-tier.invariant.width;
      columns = λ column l. tier_more _ _ _ _ _ (c.restrict-class.ensures.columns column)
          (c.next_set.ensures.symbols (symbol column tier) ∙ ap (λ b. fits b (symbol column tier)) c.has_bit.ensures)
          (c.loop-tier.invariant.columns column l);
    }
