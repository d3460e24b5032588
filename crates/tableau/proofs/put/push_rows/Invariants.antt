use Rattle.tableau.specs.Layout.{line_text, row_line, tableau_lines}
use Rattle.outside.proofs.Writing.{PushesEach}
use Rattle.tableau.proofs.put.push_rows.Given as goal

abbrev pub invariant-loop-row : goal.invariant-loop-row
invariant-loop-row g l =
    PushesEach g.O.Sink l.fn.sink l.sink l.fn.out l.out
    (λ row. line_text (tableau_lines l.tableau) (row_line row)) l.rows l.row-index
