use Rattle.std.specs.Prelude.{refl}
use Rattle.violation.specs.Counts.{viol}
use Rattle.violation.proofs.examples.counts.worked_counts.Goals as goal

pub returns : goal.returns
unfolding viol
returns c = record {
  unparsed = refl;
  second = refl;
  one = refl;
  own_start = refl;
  inner = refl;
}
