-- What the stages of a grammar and a form share.
use Rattle.std.proofs.Common.{ℕ, ◌≡◌, ◌≤◌, List, take, refl}
use Rattle.std.proofs.lemmas.List.Elements.{All-from_recursion, recursion_from_All, All-take, All-filter}
use Rattle.std.specs.{declared.cmp.Ordering.TheVariants.Equal, List.AllByRecursion}
use Rattle.tier_core.specs.{declared.sym.Sym.Sym, Tiers.Tiers, Sides.is_stretch}
use Rattle.violation.specs.{Candidates.{IsCandidate, IsOptimalFor, counts_on, vec_cmp}, Conditions.IsOverTiers}
use Rattle.violation.specs.{Prefixes.stretches, Stages.IsStage, Problems.Problem}
use Rattle.violation.proofs.VectorLemmas.{at_most_fewer, equal_at_most}

-- each candidate is 0-optimal
pub all_optimal : (problem : Problem) (T : List (List Sym)) → IsCandidate problem T → IsOptimalFor problem 0 T
all_optimal problem T c = record { candidate = c; least = λ U d. refl }

-- what is optimal for more constraints is so for fewer
pub optimal_for_fewer : (problem : Problem) (n m : ℕ) → n ≤ m → (T : List (List Sym)) → IsOptimalFor problem m T
    → IsOptimalFor problem n T
optimal_for_fewer problem n m l T opt = record {
  candidate = opt.candidate;
  least = λ U c. at_most_fewer n m (counts_on problem T) (counts_on problem U) l (opt.least U c);
}

-- a candidate that the first n constraints do not tell from an optimal one is optimal for them
pub alike_optimal : (problem : Problem) (n : ℕ) (T U : List (List Sym)) → IsOptimalFor problem n T
    → IsCandidate problem U → vec_cmp (take n (counts_on problem T)) (take n (counts_on problem U)) ≡ Equal
    → IsOptimalFor problem n U
alike_optimal problem n T U opt c same = record {
  candidate = c;
  least = λ V d. equal_at_most (take n (counts_on problem T)) (take n (counts_on problem U))
      (take n (counts_on problem V)) same (opt.least V d);
}

-- the stretches of constraints over tiers are over these
pub stretches_over_tiers : (problem : Problem) (r : ℕ)
    → AllByRecursion (IsOverTiers problem.tiers.width) (take r problem.constraints)
    → AllByRecursion (IsOverTiers problem.tiers.width) (stretches problem r)
stretches_over_tiers problem r over = recursion_from_All (IsOverTiers problem.tiers.width) (stretches problem r)
    (All-filter is_stretch (IsOverTiers problem.tiers.width) (take r problem.constraints)
    (All-from_recursion (IsOverTiers problem.tiers.width) (take r problem.constraints) over))

module _ (problem : Problem) (r : ℕ) (stage : IsStage problem r) where
  pub over_first : AllByRecursion (IsOverTiers problem.tiers.width) (take r problem.constraints)
  over_first = recursion_from_All (IsOverTiers problem.tiers.width) (take r problem.constraints)
      (All-take (IsOverTiers problem.tiers.width) r problem.constraints
      (All-from_recursion (IsOverTiers problem.tiers.width) problem.constraints stage.over))

  pub over_stretches : AllByRecursion (IsOverTiers problem.tiers.width) (stretches problem r)
  over_stretches = stretches_over_tiers problem r over_first
