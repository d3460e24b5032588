-- Prefixes of one kind go on alike.
use Rattle.std.proofs.Common.{◌≡◌, ℕ, zero, suc, ◌-◌, ◌≤◌, List, ◌++◌, length, sym, ap, ◌∙◌, subst, arith}
use Rattle.tier_core.specs.declared.sym.Sym.{Sym}
use Rattle.violation.specs.{Candidates.{IsCandidate, IsOptimalFor, count_at, count_so_far_at}, Prefixes.kind_of}
use Rattle.violation.specs.{Stages.IsStage, Problems.Problem}
use Rattle.violation.proofs.{CostLemmas.exchange, StageLemmas.{all_optimal, optimal_for_fewer, over_first}}
use Rattle.violation.proofs.{WalkSums.{walk_cost, violations_on, so_far_walk}, Ranks.{least_count, optimal_by_count}}
use Rattle.violation.proofs.FewerStages.{same_fewer}
use Rattle.kind_laws.specs.Follows.{Adds}

-- the same as a stage, for fewer constraints
pub lower : (problem : Problem) (i r : ℕ) → i ≤ r → IsStage problem r → IsStage problem i
lower problem i r l stage = record {
  split = stage.split;
  form = stage.form;
  over = stage.over;
  within = omega (arith, stage.within);
}

module _ (problem : Problem) (r : ℕ) (stage : IsStage problem r) where
  pub candidate_exchanged : (p q v w : List (List Sym)) → IsCandidate problem (p ++ q) → IsCandidate problem (v ++ w)
      → kind_of problem r p ≡ kind_of problem r v → IsCandidate problem (p ++ w)
  candidate_exchanged p q v w c d same =
      exchange problem r stage.split stage.form (over_first problem r stage) p q v w c d same

  module _ (ranked : 1 ≤ r) where
    -- what the columns cost at stage r after a prefix
    abbrev pub rest : List (List Sym) → List (List Sym) → ℕ
    rest p q = walk_cost problem r stage (r - 1) (kind_of problem r p) q

    pub adds_rest : (p q : List (List Sym)) → IsCandidate problem (p ++ q) → Adds problem r p q (rest p q)
    adds_rest p q c = violations_on problem r stage ranked p q c

    -- it hangs on the kind alone
    pub rest_alike : (p v q : List (List Sym)) → kind_of problem r p ≡ kind_of problem r v → rest p q ≡ rest v q
    rest_alike p v q same = ap (λ k. walk_cost problem r stage (r - 1) k q) same

    -- and what is counted so far, on the prefix alone
    pub so_far_alike : (p q w : List (List Sym)) → IsCandidate problem (p ++ q) → IsCandidate problem (p ++ w)
        → count_so_far_at problem r (p ++ q) (length p) ≡ count_so_far_at problem r (p ++ w) (length p)
    so_far_alike p q w c d = so_far_walk problem r stage ranked p q c ∙ sym (so_far_walk problem r stage ranked p w d)

    pub adds_alike : (p q v w : List (List Sym)) → IsCandidate problem (p ++ q) → IsCandidate problem (v ++ w)
        → kind_of problem r p ≡ kind_of problem r v → (m : ℕ) → Adds problem r v w m → Adds problem r p w m
    adds_alike p q v w c d same m a =
        omega (
          arith,
          a,
          adds_rest v w d,
          adds_rest p w (candidate_exchanged p q v w c d same),
          rest_alike p v w same,
        )

    step_optimal : (p q v w : List (List Sym)) → IsOptimalFor problem r (p ++ q) → IsOptimalFor problem r (v ++ w)
        → kind_of problem r p ≡ kind_of problem r v → IsOptimalFor problem (r - 1) (p ++ w)
        → IsOptimalFor problem (r - 1) (v ++ q) → IsOptimalFor problem r (p ++ w)
    step_optimal p q v w o u same a b =
        let count_same : count_at problem r (p ++ w) ≤ count_at problem r (p ++ q) =
        omega (
          arith,
          least_count problem r stage.within ranked (v ++ w) (v ++ q) u b,
          adds_rest p q o.candidate,
          adds_rest p w a.candidate,
          adds_rest v q b.candidate,
          adds_rest v w u.candidate,
          rest_alike p v q same,
          rest_alike p v w same,
          so_far_alike p q w o.candidate a.candidate,
          so_far_alike v q w b.candidate u.candidate,
        ) in
        optimal_by_count problem r stage.within ranked (p ++ w) a
        (λ U d. omega (arith, count_same, least_count problem r stage.within ranked (p ++ q) U o d))

-- What follows an optimal candidate's prefix may follow any other one of its kind.
pub optimal_exchanged : (problem : Problem) (r : ℕ) → IsStage problem r → (p q v w : List (List Sym))
    → IsOptimalFor problem r (p ++ q) → IsOptimalFor problem r (v ++ w)
    → kind_of problem r p ≡ kind_of problem r v → IsOptimalFor problem r (p ++ w)
optimal_exchanged problem zero stage p q v w o u same =
    all_optimal problem (p ++ w) (candidate_exchanged problem zero stage p q v w o.candidate u.candidate same)
optimal_exchanged problem (suc i) stage p q v w o u same =
    let before : suc i - 1 ≡ i = omega arith in
    let few : i ≤ suc i = omega arith in
    let under : IsStage problem i = lower problem i (suc i) few stage in
    let alike : kind_of problem i p ≡ kind_of problem i v = same_fewer problem i (suc i) few p v same in
    let first : IsOptimalFor problem i (p ++ q) = optimal_for_fewer problem i (suc i) few (p ++ q) o in
    let second : IsOptimalFor problem i (v ++ w) = optimal_for_fewer problem i (suc i) few (v ++ w) u in
    let a : IsOptimalFor problem i (p ++ w) = optimal_exchanged problem i under p q v w first second alike in
    let b : IsOptimalFor problem i (v ++ q) = optimal_exchanged problem i under v w p q second first (sym alike) in
    step_optimal problem (suc i) stage (omega arith) p q v w o u same
    (subst (λ n. IsOptimalFor problem n (p ++ w)) (sym before) a)
    (subst (λ n. IsOptimalFor problem n (v ++ q)) (sym before) b)
