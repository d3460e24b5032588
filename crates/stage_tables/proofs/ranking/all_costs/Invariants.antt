use Rattle.std.proofs.Common.{◌≡◌}
use Rattle.kind_moves.specs.Frames.{problem_in}
use Rattle.stage_tables.specs.Ranking.{costs_at}
use Rattle.stage_tables.proofs.FirstParts.{AreFirst}
use Rattle.violation.specs.Problems.{last_stage}
use Rattle.stage_tables.proofs.ranking.all_costs.Given as goal

abbrev pub invariant-loop-place : goal.invariant-loop-place
invariant-loop-place l = record {
  all : l.number ≡ last_stage (problem_in l.frame);
  first : AreFirst (costs_at l.frame l.kind l.column) l.parts l.place;
}
