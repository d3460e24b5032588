use Rattle.std.specs.Prelude.{refl}
use Rattle.violation.specs.Counts.{viol}
use Rattle.violation.proofs.examples.counts.three_tiers.Goals as goal

pub returns : goal.returns
unfolding viol
returns c = record {
  together = refl;
  never_together = refl;
  met_too_late = refl;
  met_later = refl;
  starts_together = refl;
  starts_apart = refl;
  three_left = refl;
  four = refl;
}
