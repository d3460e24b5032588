-- Stage 0 of a frame, whose candidates are all.
use Rattle.std.proofs.{Common.{ℕ, ◌≤◌, List, ◌++◌, map, length, arith}, lemmas.List.length-map}
use Rattle.std.proofs.lemmas.List.Elements.{All-contains}
use Rattle.std.specs.List.{range_with_len}
use Rattle.weight_law.specs.{declared.Weight.Ghosts, declared.count.Count.Count}
use Rattle.tier_core.specs.{declared.kind.Kind.Kind, Kinds.PrefixKind}
use Rattle.arc_table.specs.declared.state.TableState.{TableState}
use Rattle.violation.specs.{Candidates.IsCandidate, Stages.IsPassed}
use Rattle.violation.proofs.{StageLemmas.all_optimal, CutCandidates.prefix_passed}
use Rattle.kind_moves.specs.{declared.frame.Frame.Frame, Frames.{problem_in, kind_at_stage}}
use Rattle.kind_tables.specs.StageTables.{IsStageTable}
use Rattle.kind_tables.proofs.{Following.first_table, Naming.names_law}
use Rattle.stage_tables.specs.Explored.{names_at, IsComplete, IsMet, HasMoreKinds}
use Rattle.stage_tables.proofs.Named.{frame_stage}
use Rattle.ranked_gen.specs.{Budgets.{IsOver, IsStageWithin}, Listed.kind_count, Numbers.kind_of_number}
use Rattle.tier_core.proofs.Differing.{differ_from_pairs, no_longer}
use Rattle.ranked_gen.proofs.{FewKinds.stage_few, NumberedKinds.free_distinct, StageKinds.numbered_kinds}

module _ (frame : Frame) where
  -- a table of all candidates is that of stage 0
  pub zero_table : {g : Ghosts Count} (kinds : List Kind) (states : List (TableState Count g))
      → IsComplete frame 0 kinds states → IsStageTable (problem_in frame) 0 (names_at frame 0 kinds) states
  zero_table kinds states complete =
      first_table (problem_in frame) (names_at frame 0 kinds) states complete.named complete.weighed complete.accepts
      complete.on_runs

  -- with no more kinds than the budget it is within the budget
  pub zero_within : {g : Ghosts Count} (kinds : List Kind) (states : List (TableState Count g)) (budget : ℕ)
      → IsComplete frame 0 kinds states → length kinds ≤ budget → IsStageWithin (problem_in frame) budget 0
  zero_within kinds states budget complete few ks are =
      let table = zero_table kinds states complete in
      let law = names_law (problem_in frame) 0 (frame_stage frame 0 (omega arith))
      (names_at frame 0 kinds) states table.named 0 table.accepts table.on_runs in
      let most = stage_few (problem_in frame) 0 (names_at frame 0 kinds) (λ k p. (law k).1 p) ks are in
      omega (arith, most, few, length-map kinds (kind_at_stage frame 0))

  -- and it is over the budget where more kinds are met
  pub zero_over : (budget : ℕ) → HasMoreKinds frame 0 (IsCandidate (problem_in frame)) budget
      → IsOver (problem_in frame) budget 0
  zero_over budget over =
      let problem = problem_in frame in
      let stage = frame_stage frame 0 (omega arith) in
      let all = map (kind_of_number (length problem.tiers.free)) (range_with_len 0 (kind_count problem)) in
      let are = numbered_kinds problem stage.split (free_distinct frame.grammar.now.tiers.kinds.items) stage.form in
      let most : length over.kinds ≤ length all = no_longer all over.kinds
      (λ k c. (are.members k).1 (passed k (All-contains (IsMet frame 0 (IsCandidate problem)) over.kinds k over.met c)))
      (differ_from_pairs over.kinds over.distinct) in
      record { kinds = all; are = are; more = omega (arith, most, over.more) }
    where
      passed : (k : PrefixKind) → IsMet frame 0 (IsCandidate (problem_in frame)) k → IsPassed (problem_in frame) 0 0 k
      passed k m = prefix_passed (problem_in frame) 0 0 m.prefix m.rest
          (all_optimal (problem_in frame) (m.prefix ++ m.rest) m.accepted) m.of_kind
