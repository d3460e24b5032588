use Rattle.std.proofs.Common.{◌≡◌, ◌∷◌, map, take, All}
use Rattle.tier_core.specs.Tables.{tiers_of_table}
use Rattle.tableau.specs.Tableaux.{IsTableauRow}
use Rattle.violation.specs.Problems.{problem_from}
use Rattle.tableau.proofs.make.rows_of.Given as goal

-- the rows so far
abbrev pub invariant-loop-timeline : goal.invariant-loop-timeline
invariant-loop-timeline l = record {
  timelines : map (λ row. row.timeline) l.rows.items ≡ l.answer.example ∷ take l.timeline-index l.timelines;
  each : All
      (IsTableauRow
      (problem_from l.grammar.tiers l.grammar.constraints.items l.answer.form) l.answer.counts.items) l.rows.items;
}
