-- The stages one after another, with what the last of them leaves, and the answer of all.
use Rattle.std.specs.Prelude.{MatchOption, IsSome}
use Rattle.std.proofs.Common.{◌≡◌, ℕ, ◌+◌, ◌<◌, List, [], ◌∷◌, ◌++◌, Option, None, Some, length, refl, sym, subst}
use Rattle.std.proofs.Common.{arith}
use Rattle.weight_law.specs.{declared.Weight.Ghosts, declared.unit_weight.UnitWeight.UnitWeight}
use Rattle.tier_core.specs.{declared.sym.Sym.Sym, Orders.IsFirst}
use Rattle.arc_table.specs.{declared.state.TableState.TableState, Conditions.ClassesFilled, Runs.Accepts}
use Rattle.first_paths.specs.First.{AcceptsNone}
use Rattle.arc_table.proofs.SomeWord.{some_word}
use Rattle.violation.specs.{Candidates.IsOptimal, Problems.{last_stage, Problem}}
use Rattle.answer_text.specs.{declared.stage.Node.Node, declared.stage.Stage.Stage}
use Rattle.ranked_gen.specs.{Budgets.IsStageWithin, Left.{IsStageOutcome, IsCountedOutcome, AreStages, IsRanked}}
use Rattle.ranked_gen.specs.OptimalParts.{IsOptimalPart}
use Rattle.ranked_gen.proofs.StageList.{nodes_last, next_stages}

-- what a stage leaves, whatever its nodes' potentials are
pub part_of : (problem : Problem) (r : ℕ) (nodes : List Node) {g : Ghosts UnitWeight}
    (kept : List (TableState UnitWeight g)) (states order : List ℕ)
    → IsStageOutcome problem r nodes kept states order → IsOptimalPart problem r nodes kept states order
part_of problem r nodes kept states order left = record {
  names = left.kept_by.0;
  named = left.kept_by.1.named;
  on_runs = left.kept_by.1.on_runs;
  accepts = left.accepts;
  ordered = left.ordered;
  start = left.start;
  tells = left.tells;
}

-- and one more
pub ranked_next : (problem : Problem) (budget r : ℕ) (stages : List Stage) (counts : List ℕ)
    → AreStages problem budget r stages counts
    → (stage : Stage) (count next : ℕ) → next ≡ r + 1 → r < last_stage problem
    → {g : Ghosts UnitWeight} (kept : List (TableState UnitWeight g)) (states order : List ℕ)
    → IsCountedOutcome problem next stage.nodes.items count kept states order → IsStageWithin problem budget next
    → IsRanked problem budget next (stages ++ stage ∷ []) (counts ++ count ∷ []) kept states order
ranked_next problem budget r stages counts so_far stage count next is inside kept states order staged within = record {
  so_far = next_stages problem budget r stages counts so_far stage count next is inside staged.left.right
      staged.left.fit (λ T o. staged.counted T o (omega (arith, is))) within;
  left = subst (λ ns. IsStageOutcome problem next ns kept states order)
      (sym (nodes_last stages stage next (omega (arith, is, so_far.stage_count)))) staged.left;
}

module _ (problem : Problem) {g : Ghosts UnitWeight} (nodes : List Node) (kept : List (TableState UnitWeight g))
    (filled : ClassesFilled kept) (some : 0 < length kept) (states order : List ℕ)
    (left : IsOptimalPart problem (last_stage problem) nodes kept states order) where
  -- some timeline is left, and the first of them is found
  pub some_left : (found : Option (List (List Sym))) → MatchOption found (AcceptsNone kept) (IsFirst (Accepts kept))
      → IsSome found
  some_left None none =
      let on = left.on_runs 0 some in
      let q = some_word kept filled 0 on.2.0 on.2.1 in
      absurd (none q.0 (on.2.0, record { run = on.2.1; reads = q.1 }))
  some_left (Some T) first = refl

  pub first_optimal : (found : Option (List (List Sym))) (T : List (List Sym))
      → MatchOption found (AcceptsNone kept) (IsFirst (Accepts kept)) → found ≡ Some T → IsFirst (IsOptimal problem) T
  first_optimal found T match same =
      let first : IsFirst (Accepts kept) T = subst
      (λ o. MatchOption o (AcceptsNone kept) (IsFirst (Accepts kept))) same match in
      record { member = (left.accepts T).0 first.member; least = λ U o. first.least U ((left.accepts U).1 o) }
