-- Optimal candidates go by tight steps.
use Rattle.std.proofs.Common.{◌≡◌, ℕ, zero, suc, ◌+◌, ◌-◌, ◌≤◌, List, [], ◌∷◌, ◌++◌, take, drop, length, refl, sym}
use Rattle.std.proofs.Common.{ap, ◌∙◌, subst, arith, append_assoc}
use Rattle.tier_core.specs.{declared.sym.Sym.Sym, Kinds.PrefixKind}
use Rattle.violation.specs.{Candidates.{IsCandidate, IsOptimalFor, count_at, count_so_far_at}, Moves.cost_of}
use Rattle.violation.specs.{Prefixes.kind_of, Stages.{IsStage, Passes, IsLeastRest, IsRemaining}, Problems.Problem}
use Rattle.violation.proofs.{StageLemmas.{optimal_for_fewer, over_stretches}, WalkLemmas.moved_is}
use Rattle.violation.proofs.WalkSums.{none_at, walk_cost, walk_step, violations_walk}
use Rattle.violation.proofs.{Ranks.{least_count, optimal_by_count}, FewerStages.{same_fewer, least_rest}}
use Rattle.violation.proofs.CutCandidates.{prefix_passes, optimal_cut, violations_cut}
use Rattle.kind_laws.specs.Steps.{IsTightStep, HasTightSteps}
use Rattle.kind_laws.proofs.GoingOn.{optimal_exchanged, lower, rest, adds_rest, rest_alike, so_far_alike}

from_rest : (problem : Problem) (r : ℕ) (k : PrefixKind) (m : ℕ) → 1 ≤ r → IsLeastRest problem r k m
    → IsRemaining problem r k m
from_rest problem zero k m l h = absurd (omega arith)
from_rest problem (suc i) k m l h = h

-- the least rest of a kind is one number
least_once : (problem : Problem) (r : ℕ) (k : PrefixKind) (m n : ℕ) → IsLeastRest problem r k m
    → IsLeastRest problem r k n → m ≤ n
least_once problem r k m n a b =
    omega (arith, a.least b.some.0 b.some.1.0 b.some.1.1.0, b.some.1.1.1)

module _ (problem : Problem) (r : ℕ) (stage : IsStage problem r) (ranked : 1 ≤ r) where
  module _ (p q : List (List Sym)) (o : IsOptimalFor problem r (p ++ q)) where
    before_last : IsOptimalFor problem (r - 1) (p ++ q)
    before_last = optimal_for_fewer problem (r - 1) r (omega arith) (p ++ q) o

    -- what follows the prefix in any other candidate costs no less
    no_less : (v w : List (List Sym)) → IsOptimalFor problem (r - 1) (v ++ w)
        → kind_of problem r v ≡ kind_of problem r p → rest problem r stage ranked p q ≤ rest problem r stage ranked v w
    no_less v w u same =
        let few : r - 1 ≤ r = omega arith in
        let a : IsOptimalFor problem (r - 1) (p ++ w) =
        optimal_exchanged problem (r - 1) (lower problem (r - 1) r few stage) p q v w before_last u
        (same_fewer problem (r - 1) r few p v (sym same)) in
        omega (
          arith,
          least_count problem r stage.within ranked (p ++ q) (p ++ w) o a,
          adds_rest problem r stage ranked p q o.candidate,
          adds_rest problem r stage ranked p w a.candidate,
          so_far_alike problem r stage ranked p q w o.candidate a.candidate,
          rest_alike problem r stage ranked v p w same,
        )

    least_here : (T : List (List Sym)) (n : ℕ) → Passes problem (r - 1) r (kind_of problem r p) T n
        → count_so_far_at problem r T n + rest problem r stage ranked p q ≤ count_at problem r T
    least_here T n passes =
        omega (
          arith,
          no_less (take n T) (drop n T) (optimal_cut problem T n (r - 1) passes.optimal) passes.of_kind,
          violations_cut problem T n r stage ranked passes.within passes.optimal.candidate,
        )

    -- what remains after a prefix of an r-optimal candidate is what follows it
    remains_here : IsRemaining problem r (kind_of problem r p) (rest problem r stage ranked p q)
    remains_here = from_rest problem r (kind_of problem r p) (rest problem r stage ranked p q) ranked (record {
      some = (
        p ++ q,
        (
          length p,
          (
            prefix_passes problem (r - 1) r p q before_last refl,
            adds_rest problem r stage ranked p q o.candidate,
          ),
        ),
      );
      least = least_here;
    })

  as_longer : (p : List (List Sym)) (column : List Sym) (q : List (List Sym)) (P : List (List Sym) → Type 0)
      → P (p ++ column ∷ q) → P ((p ++ column ∷ []) ++ q)
  as_longer p column q P h = subst P (sym (append_assoc p (column ∷ []) q)) h

  rest_step : (p : List (List Sym)) (column : List Sym) (q : List (List Sym)) → IsCandidate problem (p ++ column ∷ q)
      → rest problem r stage ranked p (column ∷ q)
      ≡ cost_of problem r (kind_of problem r p) column + rest problem r stage ranked (p ++ column ∷ []) q
  rest_step p column q c =
      walk_step problem r stage (r - 1) (kind_of problem r p) column q
      ∙ ap (λ k. cost_of problem r (kind_of problem r p) column + walk_cost problem r stage (r - 1) k q)
      (moved_is problem r stage.split stage.form (over_stretches problem r stage) p column
      (q, as_longer p column q (IsCandidate problem) c))

  step_here : (p : List (List Sym)) (column : List Sym) (q : List (List Sym)) → IsOptimalFor problem r (p ++ column ∷ q)
      → IsTightStep problem r p column
  step_here p column q o = record {
    before = rest problem r stage ranked p (column ∷ q);
    after = rest problem r stage ranked (p ++ column ∷ []) q;
    leaves = remains_here p (column ∷ q) o;
    arrives = remains_here (p ++ column ∷ []) q (as_longer p column q (IsOptimalFor problem r) o);
    falls = rest_step p column q o.candidate;
  }

  pub tight_from_optimal : (T : List (List Sym)) → IsOptimalFor problem r T → HasTightSteps problem r T
  tight_from_optimal T o p column q e = step_here p column q (subst (IsOptimalFor problem r) e o)

  -- along tight steps the rest costs what remains
  sum_of_steps : (q p : List (List Sym)) (m : ℕ) → IsCandidate problem (p ++ q) → HasTightSteps problem r (p ++ q)
      → IsRemaining problem r (kind_of problem r p) m → rest problem r stage ranked p q ≤ m
  sum_of_steps [] p m c t h = omega (arith, none_at (take r problem.constraints) (r - 1))
  sum_of_steps (column ∷ q) p m c t h =
      let here = t p column q refl in
      let same : here.before ≤ m =
      least_once problem r (kind_of problem r p) here.before m
      (least_rest problem r (kind_of problem r p) here.before ranked here.leaves)
      (least_rest problem r (kind_of problem r p) m ranked h) in
      let later : rest problem r stage ranked (p ++ column ∷ []) q ≤ here.after =
      sum_of_steps q (p ++ column ∷ []) here.after (as_longer p column q (IsCandidate problem) c)
      (as_longer p column q (HasTightSteps problem r) t) here.arrives in
      omega (arith, rest_step p column q c, here.falls, same, later)

  -- what remains at the start is at most each count
  start_least : (m : ℕ) → IsRemaining problem r (kind_of problem r []) m → (U : List (List Sym))
      → IsOptimalFor problem (r - 1) U → m ≤ count_at problem r U
  start_least m h U o =
      let low = (least_rest problem r (kind_of problem r []) m ranked h).least U 0
      (record { optimal = o; within = omega arith; of_kind = refl }) in
      omega (arith, low)

  whole_least : (T : List (List Sym)) → IsCandidate problem T → HasTightSteps problem r T → (U : List (List Sym))
      → IsOptimalFor problem (r - 1) U → rest problem r stage ranked [] T ≤ count_at problem r U
  whole_least [] c t U o = omega (arith, none_at (take r problem.constraints) (r - 1))
  whole_least (column ∷ T) c t U o =
      let here = t [] column T refl in
      omega (
        arith,
        sum_of_steps (column ∷ T) [] here.before c t here.leaves,
        start_least here.before here.leaves U o,
      )

  pub optimal_from_tight : (T : List (List Sym)) → IsOptimalFor problem (r - 1) T → HasTightSteps problem r T
      → IsOptimalFor problem r T
  optimal_from_tight T o t =
      optimal_by_count problem r stage.within ranked T o
      (λ U d. omega (arith, violations_walk problem r stage ranked T o.candidate, whole_least T o.candidate t U d))
