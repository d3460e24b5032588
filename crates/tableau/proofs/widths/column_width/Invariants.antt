use Rattle.std.proofs.Common.{◌≡◌, ◌∷◌, drop, map, max}
use Rattle.tableau.specs.Layout.{column, head_line, row_line, widest}
use Rattle.tableau.proofs.widths.column_width.Given as goal

-- the widest of the texts so far and of those that are left
abbrev pub invariant-loop-row : goal.invariant-loop-row
invariant-loop-row l = max l.width (widest (column l.place (map row_line (drop l.row-index l.rows))))
    ≡ widest (column l.place (head_line l.tableau ∷ map row_line l.rows))
