use Rattle.std.specs.Prelude.{refl}
use Rattle.violation.specs.Counts.{viol}
use Rattle.violation.proofs.examples.counts.narrow_interiors.Goals as goal

pub returns : goal.returns
unfolding viol
returns c = record {
  side_by_side = refl;
  second = refl;
  in_turn = refl;
  unmet = refl;
}
