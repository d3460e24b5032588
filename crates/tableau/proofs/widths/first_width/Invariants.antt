use Rattle.std.proofs.Common.{◌≡◌, ◌∷◌, drop, map, max}
use Rattle.tableau.specs.Layout.{firsts, head_line, row_line, widest}
use Rattle.tableau.proofs.widths.first_width.Given as goal

-- the widest of the texts so far and of those that are left
abbrev pub invariant-loop-row : goal.invariant-loop-row
invariant-loop-row l = max l.width (widest (firsts (map row_line (drop l.row-index l.rows))))
    ≡ widest (firsts (head_line l.tableau ∷ map row_line l.rows))
