use Rattle.std.specs.Prelude.{refl}
use Rattle.violation.specs.Counts.{viol}
use Rattle.violation.proofs.examples.counts.tableau_rows.Goals as goal

pub returns : goal.returns
unfolding viol
returns c = record {
  whole_max = refl;
  whole_dep = refl;
  whole_one = refl;
  none_max = refl;
  none_dep = refl;
  none_one = refl;
  two_max = refl;
  two_dep = refl;
  two_one = refl;
}
