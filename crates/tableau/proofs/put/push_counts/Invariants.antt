use Rattle.std.proofs.Common.{drop}
use Rattle.outside.proofs.Writing.{PushesUpTo}
use Rattle.tableau.specs.Layout.{count_texts, fields, tableau_lines}
use Rattle.tableau.proofs.put.push_counts.Given as goal

abbrev pub invariant-loop-place : goal.invariant-loop-place
invariant-loop-place g l =
    PushesUpTo g.O.Sink l.fn.sink l.sink l.fn.out l.out
    (fields (tableau_lines l.tableau) 0 (count_texts l.worse 0 l.counts))
    (fields (tableau_lines l.tableau) l.place (count_texts l.worse l.place (drop l.place l.counts)))
