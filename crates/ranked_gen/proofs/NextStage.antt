-- The next stage of a frame, from a kept table that is explored.
use Rattle.std.proofs.Common.{◌≡◌, ◌≢◌, ℕ, ◌+◌, ◌-◌, ◌<◌, ◌≤◌, List, [], ◌∷◌, length, ◌∙◌, subst, arith}
use Rattle.std.proofs.{lemmas.List.length-map, lemmas.List.Elements.All-contains}
use Rattle.std.specs.Prelude.{◌↔◌}
use Rattle.weight_law.specs.{declared.Weight.Ghosts, declared.count.Count.Count}
use Rattle.weight_law.specs.declared.unit_weight.UnitWeight.{UnitWeight}
use Rattle.tier_core.specs.{declared.kind.Kind.Kind, declared.sym.Sym.Sym}
use Rattle.arc_table.specs.{declared.state.TableState.TableState, Conditions.{TargetsExist, ClassesFilled}}
use Rattle.arc_table.specs.Runs.{Accepts}
use Rattle.violation.specs.{Candidates.IsOptimalFor, Problems.last_stage}
use Rattle.kind_moves.specs.{declared.frame.Frame.Frame, Frames.{kind_at_stage, problem_in}}
use Rattle.kind_tables.specs.StageTables.{IsStageTable}
use Rattle.kind_tables.proofs.Naming.{names_law}
use Rattle.stage_tables.specs.{Kept.IsKeptTable, Explored.{names_at, IsExplored, IsMet, HasMoreKinds}}
use Rattle.ranked_gen.specs.Budgets.{IsOver, IsStageWithin}
use Rattle.tier_core.proofs.Differing.{differ_from_pairs}
use Rattle.ranked_gen.proofs.{FewKinds.stage_few, OverBudget.over_budget}
use Rattle.stage_tables.proofs.Named.{frame_stage}

module _ (frame : Frame) (stage : ℕ) (ranked : 1 ≤ stage) (within : stage ≤ last_stage (problem_in frame))
    {h : Ghosts UnitWeight} (kept : List (TableState UnitWeight h))
    (accepts : (T : List (List Sym)) → Accepts kept T ↔ IsOptimalFor (problem_in frame) (stage - 1) T) where
  -- a table that is explored is that of the stage
  pub stage_table : {g : Ghosts Count} (kinds : List Kind) (states : List (TableState Count g))
      → IsExplored frame stage kept kinds states
      → IsStageTable (problem_in frame) stage (names_at frame stage kinds) states
  stage_table kinds states explored = record {
    named = explored.named;
    weighed = explored.weighed;
    accepts = λ T. (λ a. (accepts T).0 ((explored.accepts T).0 a), λ o. (explored.accepts T).1 ((accepts T).1 o));
    on_runs = explored.on_runs;
  }

  -- with no more kinds than the budget it is within the budget
  pub stage_within : {g : Ghosts Count} (kinds : List Kind) (states : List (TableState Count g)) (budget : ℕ)
      → IsExplored frame stage kept kinds states → length kinds ≤ budget → IsStageWithin (problem_in frame) budget stage
  stage_within kinds states budget explored few ks are =
      let table = stage_table kinds states explored in
      let law = names_law (problem_in frame) stage (frame_stage frame stage within)
      (names_at frame stage kinds) states table.named (stage - 1) table.accepts table.on_runs in
      let most = stage_few (problem_in frame) stage (names_at frame stage kinds) (λ k p. (law k).1 p) ks are in
      omega (arith, most, few, length-map kinds (kind_at_stage frame stage))

-- and a stage of which more kinds than the budget are found is over it
module _ (frame : Frame) (r : ℕ) (within : r + 1 ≤ last_stage (problem_in frame)) {h : Ghosts UnitWeight}
    (kept : List (TableState UnitWeight h)) (some : 0 < length kept) (targets : TargetsExist kept)
    (filled : ClassesFilled kept)
    (by : IsKeptTable (problem_in frame) r kept)
    (accepts : (T : List (List Sym)) → Accepts kept T ↔ IsOptimalFor (problem_in frame) r T) (budget : ℕ) where
  next_over : HasMoreKinds frame (r + 1) (Accepts kept) budget → IsOver (problem_in frame) budget (r + 1)
  next_over over =
      over_budget (problem_in frame) r (frame_stage frame r (omega arith))
      (frame_stage frame (r + 1) within) by.0 kept some targets filled by.1 accepts budget over.kinds
      (differ_from_pairs over.kinds over.distinct)
      (λ k c. let m = All-contains (IsMet frame (r + 1) (Accepts kept)) over.kinds k over.met c in
      (m.prefix, (m.rest, (m.accepted, m.of_kind))))
      over.more

  pub stage_over : (stage : ℕ) → r + 1 ≡ stage → HasMoreKinds frame stage (Accepts kept) budget
      → IsOver (problem_in frame) budget stage
  stage_over stage e = subst (λ n. HasMoreKinds frame n (Accepts kept) budget → IsOver (problem_in frame) budget n) e
      next_over
