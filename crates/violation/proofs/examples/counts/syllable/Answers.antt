use Rattle.std.specs.Prelude.{refl}
use Rattle.violation.specs.Counts.{viol}
use Rattle.violation.proofs.examples.counts.syllable.Goals as goal

pub returns : goal.returns
unfolding viol
returns c = record {
  max_left = refl;
  parse = refl;
  onset = refl;
  coda = refl;
  inner = refl;
}
