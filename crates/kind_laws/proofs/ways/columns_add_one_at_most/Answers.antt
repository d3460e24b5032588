use Rattle.std.proofs.Common.{◌+◌, ◌≤◌, subst, sym, add-one}
use Rattle.violation.specs.Counts.{violations_so_far}
use Rattle.kind_laws.proofs.ColumnCosts.{adds_one, whole_few}
use Rattle.kind_laws.proofs.ways.columns_add_one_at_most.Goals as goal

pub returns-clause-column : goal.returns-clause-column
returns-clause-column x width c over T well n l =
    subst (λ m. violations_so_far c T m ≤ violations_so_far c T n + 1) (sym (add-one n))
    (adds_one width T well c over n l)

pub returns-clause-whole : goal.returns-clause-whole
returns-clause-whole x width c over T well = whole_few width T well c over
