use Rattle.std.specs.Prelude.{refl}
use Rattle.violation.specs.Counts.{viol}
use Rattle.violation.proofs.examples.counts.edges_and_interiors.Goals as goal

pub returns : goal.returns
unfolding viol
returns c = record {
  start_at_start = refl;
  start_inside = refl;
  end_inside = refl;
  end_at_end = refl;
  missing_end = refl;
  present_end = refl;
  missing_start = refl;
  each_end = refl;
}
