-- All candidates explored under all constraints.
use Rattle.std.proofs.{Common.{◌≡◌, ◌↔◌, ℕ, ◌≤◌, List, length, subst, arith}, lemmas.List.length-map}
use Rattle.weight_law.specs.{declared.Weight.Ghosts, declared.count.Count.Count}
use Rattle.tier_core.specs.{declared.kind.Kind.Kind, declared.sym.Sym.Sym}
use Rattle.arc_table.specs.{declared.state.TableState.TableState, Runs.Accepts}
use Rattle.violation.specs.{Candidates.{IsCandidate, IsOptimalFor}, Problems.last_stage}
use Rattle.violation.specs.Rests.{AreWholeKindsWithin, AreWholeKindsOver}
use Rattle.violation.proofs.StageLemmas.{all_optimal}
use Rattle.kind_moves.specs.{declared.frame.Frame.Frame, Frames.{problem_in, kind_at_stage}}
use Rattle.kind_tables.proofs.Naming.{names_law}
use Rattle.stage_tables.specs.{Explored.{names_at, IsComplete, HasMoreKinds}, Ranking.IsWholeTable}
use Rattle.stage_tables.proofs.Named.{frame_stage}
use Rattle.ranked_gen.proofs.OnceBudgets.{names_within, met_over_whole}

module _ (frame : Frame) where
  last_table : {h : Ghosts Count} (kinds : List Kind) (states : List (TableState Count h))
      → IsComplete frame (last_stage (problem_in frame)) kinds states → IsWholeTable frame kinds states
  last_table kinds states complete = record {
    named = complete.named;
    fit = complete.fit;
    accepts = complete.accepts;
    on_runs = complete.on_runs;
    alike = complete.alike;
  }

  -- what is explored is the table of all candidates
  pub whole_table : {h : Ghosts Count} (stage : ℕ) → stage ≡ last_stage (problem_in frame)
      → (kinds : List Kind) (states : List (TableState Count h)) → IsComplete frame stage kinds states
      → IsWholeTable frame kinds states
  whole_table stage is kinds states complete = last_table kinds states
      (subst (λ n. IsComplete frame n kinds states) is complete)

  -- and has no more kinds than the budget where no more are found
  pub whole_within : {h : Ghosts Count} (kinds : List Kind) (states : List (TableState Count h))
      → IsWholeTable frame kinds states → (budget : ℕ) → length kinds ≤ budget
      → AreWholeKindsWithin (problem_in frame) budget
  whole_within kinds states whole budget few =
      let problem = problem_in frame in
      let all : last_stage problem ≤ last_stage problem = omega arith in
      let names = names_at frame (last_stage problem) kinds in
      let zero_words : (T : List (List Sym))
      → Accepts states T ↔ IsOptimalFor problem 0 T = λ T.
      (λ a. all_optimal problem T ((whole.accepts T).0 a), λ o. (whole.accepts T).1 o.candidate) in
      let law = names_law problem (last_stage problem)
      (frame_stage frame (last_stage problem) all) names states whole.named 0 zero_words whole.on_runs in
      names_within problem budget names law
      (omega (arith, few, length-map kinds (kind_at_stage frame (last_stage problem))))

  pub whole_over : (stage : ℕ) → stage ≡ last_stage (problem_in frame) → (budget : ℕ)
      → HasMoreKinds frame stage (IsCandidate (problem_in frame)) budget
      → AreWholeKindsOver (problem_in frame) budget
  whole_over stage is budget over = met_over_whole frame budget
      (subst (λ n. HasMoreKinds frame n (IsCandidate (problem_in frame)) budget) is over)
