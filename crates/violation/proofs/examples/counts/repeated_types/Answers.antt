use Rattle.std.specs.Prelude.{refl}
use Rattle.violation.specs.Counts.{viol}
use Rattle.violation.proofs.examples.counts.repeated_types.Goals as goal

pub returns : goal.returns
unfolding viol
returns c = record {
  once = refl;
  twice = refl;
  start_twice = refl;
  left_twice = refl;
}
