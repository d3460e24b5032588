use Rattle.std.specs.Prelude.{refl}
use Rattle.violation.specs.Counts.{viol}
use Rattle.violation.proofs.examples.counts.right_types.Goals as goal

pub returns : goal.returns
unfolding viol
returns c = record {
  either = refl;
  first_alone = refl;
  second_alone = refl;
  only_edges = refl;
  two_missed = refl;
}
