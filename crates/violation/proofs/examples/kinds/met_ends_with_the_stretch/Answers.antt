use Rattle.std.specs.Prelude.{refl}
use Rattle.violation.specs.Counts.{so_far}
use Rattle.violation.proofs.examples.kinds.met_ends_with_the_stretch.Goals as goal

pub returns-clause-not_yet : goal.returns-clause-not_yet
unfolding so_far
returns-clause-not_yet c = refl

pub returns-clause-counted : goal.returns-clause-counted
unfolding so_far
returns-clause-counted c = refl
