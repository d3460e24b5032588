use Rattle.std.specs.Prelude.{refl}
use Rattle.violation.specs.Counts.{viol}
use Rattle.violation.proofs.examples.counts.overlaps.Goals as goal

pub returns : goal.returns
unfolding viol
returns c = record {
  long = refl;
  one_over_two = refl;
  chain = refl;
}
