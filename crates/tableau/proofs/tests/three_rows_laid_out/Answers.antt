use Rattle.std.proofs.Common.{refl}
use Rattle.std.specs.Fmt.{digits}
use Rattle.tableau.proofs.tests.three_rows_laid_out.Goals as goal

pub returns : goal.returns
unfolding digits
returns c = refl
