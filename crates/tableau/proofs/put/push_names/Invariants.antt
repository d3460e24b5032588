use Rattle.std.proofs.Common.{drop, map, string_bytes}
use Rattle.outside.proofs.Writing.{PushesUpTo}
use Rattle.tableau.specs.Layout.{fields, tableau_lines}
use Rattle.tableau.proofs.put.push_names.Given as goal

abbrev pub invariant-loop-place : goal.invariant-loop-place
invariant-loop-place g l =
    PushesUpTo g.O.Sink l.fn.sink l.sink l.fn.out l.out
    (fields (tableau_lines l.tableau) 0 (map string_bytes l.names))
    (fields (tableau_lines l.tableau) l.place (map string_bytes (drop l.place l.names)))
