-- The stages one after another, and the answer at their end.
use Rattle.std.proofs.Common.{◌≡◌, ℕ, ◌+◌, ◌-◌, ◌<◌, ◌≤◌, List, [], ◌∷◌, ◌++◌, map, take, length, get_or, refl, sym}
use Rattle.std.proofs.{Common.{ap, ap₂, ◌∙◌, subst, arith, ⊎_elim, All}, lemmas.Bool.cases_lt}
use Rattle.std.proofs.lemmas.List.{length-map, length-append, map-append, take_more, get_or_append_left}
use Rattle.std.proofs.Math.Seq.{get_or-append_seam, take-length}
use Rattle.tier_core.specs.{declared.sym.Sym.Sym, Orders.IsFirst}
use Rattle.violation.specs.{Candidates.{IsOptimal, IsOptimalFor, counts_on, count_at}, Counts.violations_of}
use Rattle.violation.specs.Problems.{last_stage, Problem}
use Rattle.answer_text.specs.{declared.stage.Node.Node, declared.stage.Stage.Stage, declared.answer.Answer.Answer}
use Rattle.answer_text.specs.Right.{IsRightStage, IsRightAutomaton, IsRight, kinds_at, nodes_at}
use Rattle.violation.proofs.StageLemmas.{optimal_for_fewer}
use Rattle.ranked_gen.specs.{Budgets.{IsStageWithin, IsOver, IsFirstOver, HasFewKinds}, FittingKinds.FitsStage}
use Rattle.ranked_gen.specs.Left.{AreStages}

nodes_kept : (stages : List Stage) (stage : Stage) (s : ℕ) → s < length stages
    → nodes_at (stages ++ stage ∷ []) s ≡ nodes_at stages s
nodes_kept stages stage s l =
    ap (λ ns. get_or ns s []) (map-append (λ (stage : Stage). stage.nodes.items) stages (stage ∷ []))
    ∙ get_or_append_left (map (λ (stage : Stage). stage.nodes.items) stages) (stage.nodes.items ∷ []) [] s
    (omega (arith, length-map stages (λ (stage : Stage). stage.nodes.items)))

pub nodes_last : (stages : List Stage) (stage : Stage) (s : ℕ) → s ≡ length stages
    → nodes_at (stages ++ stage ∷ []) s ≡ stage.nodes.items
nodes_last stages stage s e =
    ap (λ ns. get_or ns s []) (map-append (λ (stage : Stage). stage.nodes.items) stages (stage ∷ []))
    ∙ ap (λ n. get_or (map (λ (stage : Stage). stage.nodes.items) stages ++ stage.nodes.items ∷ []) n [])
    (e ∙ sym (length-map stages (λ (stage : Stage). stage.nodes.items)))
    ∙ get_or-append_seam (map (λ (stage : Stage). stage.nodes.items) stages) stage.nodes.items [] []

module _ (problem : Problem) (budget : ℕ) where
  pub first_stages : (stage : Stage) → IsRightStage problem 0 stage.nodes.items
      → All (λ node. FitsStage problem 0 node.kind) stage.nodes.items → IsStageWithin problem budget 0
      → AreStages problem budget 0 (stage ∷ []) []
  first_stages stage right fit within = record {
    stage_count = refl;
    each_stage = λ s l. let first : 0 ≡ s = omega arith in subst
        (λ i. IsRightStage problem i (nodes_at (stage ∷ []) i)) first right;
    fit = λ s l. let first : 0 ≡ s = omega arith in subst
        (λ i. All (λ node. FitsStage problem i node.kind) (nodes_at (stage ∷ []) i)) first fit;
    numbers = λ T o. refl;
    within = λ s l. let first : 0 ≡ s = omega arith in subst (IsStageWithin problem budget) first within;
  }

  module _ (r : ℕ) (stages : List Stage) (counts : List ℕ) (so_far : AreStages problem budget r stages counts) where
    pub next_stages : (stage : Stage) (count next : ℕ) → next ≡ r + 1 → r < last_stage problem
        → IsRightStage problem next stage.nodes.items
        → All (λ node. FitsStage problem next node.kind) stage.nodes.items
        → ((T : List (List Sym)) → IsOptimalFor problem next T → count_at problem next T ≡ count)
        → IsStageWithin problem budget next
        → AreStages problem budget next (stages ++ stage ∷ []) (counts ++ count ∷ [])
    next_stages stage count next is inside right fit counted within = record {
      stage_count = omega (arith, length-append stages (stage ∷ []), so_far.stage_count);
      each_stage = λ s l. ⊎_elim
          (λ less. subst (IsRightStage problem s)
          (sym (nodes_kept stages stage s (omega (arith, less, so_far.stage_count))))
          (so_far.each_stage s (omega (arith, less))))
          (λ last. let same : next ≡ s = omega (arith, last) in
          subst (λ i. IsRightStage problem i (nodes_at (stages ++ stage ∷ []) i)) same
          (subst (IsRightStage problem next)
          (sym (nodes_last stages stage next (omega (arith, so_far.stage_count)))) right))
          (cases_lt s (r + 1));
      fit = λ s l. ⊎_elim
          (λ less. subst (All (λ (node : Node). FitsStage problem s node.kind))
          (sym (nodes_kept stages stage s (omega (arith, less, so_far.stage_count))))
          (so_far.fit s (omega (arith, less))))
          (λ last. let same : next ≡ s = omega (arith, last) in
          subst (λ i. All (λ (node : Node). FitsStage problem i node.kind) (nodes_at (stages ++ stage ∷ []) i)) same
          (subst (All (λ (node : Node). FitsStage problem next node.kind))
          (sym (nodes_last stages stage next (omega (arith, so_far.stage_count)))) fit))
          (cases_lt s (r + 1));
      numbers = λ T o.
          let fewer = optimal_for_fewer problem r next (omega arith) T o in
          let long : r < length (counts_on problem T) = omega
          (arith, length-map problem.constraints (λ c. violations_of c T)) in
          let place : next - 1 ≡ r = omega arith in
          ap (λ n. take n (counts_on problem T)) is
          ∙ take_more (counts_on problem T) r 0 long
          ∙ ap₂ (λ xs x. xs ++ x ∷ []) (so_far.numbers T fewer)
          (ap (λ i. get_or (counts_on problem T) i 0) (sym place) ∙ counted T o);
      within = λ s l. ⊎_elim
          (λ less. so_far.within s (omega (arith, less)))
          (λ last. let same : next ≡ s = omega (arith, last) in subst (IsStageWithin problem budget) same within)
          (cases_lt s (r + 1));
    }

    -- each stage so far has its list of kinds
    pub has_few : (s : ℕ) → s ≤ r → HasFewKinds problem budget s
    has_few s l =
        let right = so_far.each_stage s l in
        record {
          kinds = kinds_at problem s (nodes_at stages s);
          are = right.kinds;
          few = so_far.within s l (kinds_at problem s (nodes_at stages s)) right.kinds;
        }

    -- a stage that is over the budget is the first
    pub first_over : (next : ℕ) → next ≡ r + 1 → r < last_stage problem → IsOver problem budget next
        → IsFirstOver problem budget next
    first_over next is inside over = record {
      stage = omega arith;
      over = over;
      before = λ s l. so_far.within s (omega arith);
      listed = λ s l. has_few s (omega arith);
    }

    module _ (all : r ≡ last_stage problem) where
      whole : (T : List (List Sym)) → IsOptimal problem T → counts_on problem T ≡ counts
      whole T o =
          let long : r ≡ length (counts_on problem T) = all
          ∙ sym (length-map problem.constraints (λ c. violations_of c T)) in
          sym (ap (λ n. take n (counts_on problem T)) long ∙ take-length (counts_on problem T))
          ∙ so_far.numbers T (subst (λ n. IsOptimalFor problem n T) (sym all) o)

      -- the answer with these stages is right
      pub right_answer : (answer : Answer) → answer.form ≡ problem.form → answer.counts.items ≡ counts
          → IsFirst (IsOptimal problem) answer.example → answer.stages.items ≡ stages
          → IsRightAutomaton problem (nodes_at stages r) answer.automaton.states.items → IsRight problem answer
      right_answer answer form same first lists automaton = record {
        form = form;
        counts = record {
          some = (answer.example, (first.member, whole answer.example first.member ∙ sym same));
          shared = λ T o. whole T o ∙ sym same;
        };
        example = first;
        stage_count = ap length lists ∙ so_far.stage_count ∙ ap (λ n. n + 1) all;
        each_stage = λ s l. subst (λ ss. IsRightStage problem s (nodes_at ss s)) (sym lists)
            (so_far.each_stage s (omega arith));
        automaton =
            subst (λ ss. IsRightAutomaton problem (nodes_at ss (last_stage problem)) answer.automaton.states.items)
            (sym lists)
            (subst (λ n. IsRightAutomaton problem (nodes_at stages n) answer.automaton.states.items) all automaton);
      }
