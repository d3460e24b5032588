use Rattle.std.proofs.Common.{◌≤◌, length}
use Rattle.arc_table.specs.States.{states_of}
use Rattle.ranked_gen.specs.{KindsLeft.AreKindsLeft, Left.IsRanked}
use Rattle.kind_moves.specs.Frames.{problem_in}
use Rattle.ranked_gen.proofs.ranked.all_ranked.Given as goal

abbrev pub invariant-loop-number : goal.invariant-loop-number
invariant-loop-number l = record {
  ranked : IsRanked (problem_in l.frame) l.budget l.number l.ranked.stages.items l.ranked.counts.items
      (states_of l.ranked.left.kept.table) l.ranked.left.kept.states.items l.ranked.left.order.items;
  kinds : AreKindsLeft l.frame l.number (states_of l.ranked.left.kept.table) l.ranked.kinds.items;
  few : length l.ranked.kinds.items ≤ l.budget;
}
