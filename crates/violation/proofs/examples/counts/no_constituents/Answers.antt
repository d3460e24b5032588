use Rattle.std.specs.Prelude.{refl}
use Rattle.violation.specs.Counts.{viol}
use Rattle.violation.proofs.examples.counts.no_constituents.Goals as goal

pub returns : goal.returns
unfolding viol
returns c = record {
  left_none = refl;
  clash_none = refl;
  right_none = refl;
  no_columns = refl;
}
