use Rattle.std.proofs.Common.{ap, ◌∙◌}
use Rattle.tier_core.specs.{Classes.has, Scan.fits, Sets.is_in, Tiers.has_tier, Timelines.symbol}
use Rattle.kind_moves.proofs.FitBoxSteps.{tier_more}
use Rattle.kind_moves.proofs.fit_boxes.following.Goals as goal

pub loop-tier-preserved : goal.loop-tier-preserved
loop-tier-preserved c =
    let tier = c.loop-tier.tier in
    record {
      width = c.restrict-rest.ensures.width ∙ c.loop-tier.invariant.width;
      columns = λ column. tier_more (has c.restrict-rest.result column) (has c.loop-tier.rest column)
          (is_in c.fitting_set.result (symbol column tier)) (has c.args.class.now column)
          (λ t. fits (has_tier c.args.opened t) (symbol column t)) tier
          (c.restrict-rest.ensures.columns column) (c.fitting_set.ensures.symbols (symbol column tier)
          ∙ ap (λ b. fits b (symbol column tier)) c.has_bit.ensures)
          (c.loop-tier.invariant.columns column);
    }
