use Rattle.std.proofs.Common.{◌≤◌, arith}
use Rattle.kind_tables.proofs.Exploring.{fits_from_cut, cut_leads}
use Rattle.kind_tables.proofs.found.cut_kinds_go_by_pruned_moves.Goals as goal

pub returns-clause-fits : goal.returns-clause-fits
returns-clause-fits c problem r names pruned named =
    let same : r ≤ r = omega arith in
    fits_from_cut problem r r same names pruned named

pub returns-clause-leads : goal.returns-clause-leads
returns-clause-leads c problem r n names pruned further named = cut_leads problem r n further names pruned named
