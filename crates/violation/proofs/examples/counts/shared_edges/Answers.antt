use Rattle.std.specs.Prelude.{refl}
use Rattle.violation.specs.Counts.{viol}
use Rattle.violation.proofs.examples.counts.shared_edges.Goals as goal

pub returns : goal.returns
unfolding viol
returns c = record {
  each_itself = refl;
  touching = refl;
  apart = refl;
  last_end = refl;
}
