use Rattle.std.proofs.Common.{refl}
use Rattle.violation.proofs.CutLemmas.{cut_kind-next_kind, cut_kind-kind_of, fits-cut}
use Rattle.kind_tables.proofs.next.cut_kinds_go_alike.Goals as goal

pub returns-clause-moves : goal.returns-clause-moves
returns-clause-moves c problem r s k column fewer = cut_kind-next_kind problem r s fewer k column

pub returns-clause-fits : goal.returns-clause-fits
returns-clause-fits c = fits-cut

pub returns-clause-ends : goal.returns-clause-ends
returns-clause-ends c problem r k = refl

pub returns-clause-prefixes : goal.returns-clause-prefixes
returns-clause-prefixes c problem r s p fewer = cut_kind-kind_of problem r s fewer p
