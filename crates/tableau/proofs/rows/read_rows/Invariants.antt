use Rattle.std.proofs.Common.{length}
use Rattle.tier_core.specs.Tables.{tiers_of_table}
use Rattle.tableau.proofs.RowLemmas.{IsReadTo}
use Rattle.violation.specs.Problems.{problem_from}
use Rattle.tableau.proofs.rows.read_rows.Given as goal

-- the lines in front of the rest have the rows so far
abbrev pub invariant-loop-rest : goal.invariant-loop-rest
invariant-loop-rest l = IsReadTo
    (problem_from l.grammar.tiers l.grammar.constraints.items l.form) l.bytes l.rest l.number l.rows.items

abbrev pub decreases-loop-rest : goal.decreases-loop-rest
decreases-loop-rest l = length l.rest
