-- Optimal candidates of one stage and of the stage before.
use Rattle.std.proofs.{Common.{◌≡◌, ℕ, ◌-◌, ◌≤◌, List, take, length, arith}, lemmas.List.length-map}
use Rattle.std.specs.declared.cmp.Ordering.TheVariants.{Equal}
use Rattle.tier_core.specs.declared.sym.Sym.{Sym}
use Rattle.violation.specs.Candidates.{vec_cmp, IsCandidate, IsOptimalFor, counts_on, count_at}
use Rattle.violation.specs.{Counts.violations_of, Problems.{Problem, last_stage}}
use Rattle.violation.proofs.StageLemmas.{optimal_for_fewer}
use Rattle.violation.proofs.VectorLemmas.{both_equal, equal_at_most, at_most_last, at_most_by_last}

module _ (problem : Problem) (r : ℕ) (within : r ≤ last_stage problem) (ranked : 1 ≤ r) where
  long : (T : List (List Sym)) → r ≤ length (counts_on problem T)
  long T = omega (arith, within, length-map problem.constraints (λ c. violations_of c T))

  -- an r-optimal candidate has the least count of constraint r that is left
  pub least_count : (T U : List (List Sym)) → IsOptimalFor problem r T → IsOptimalFor problem (r - 1) U
      → count_at problem r T ≤ count_at problem r U
  least_count T U o u =
      let same : vec_cmp (take (r - 1) (counts_on problem T)) (take (r - 1) (counts_on problem U)) ≡ Equal =
      both_equal (take (r - 1) (counts_on problem T)) (take (r - 1) (counts_on problem U))
      ((optimal_for_fewer problem (r - 1) r (omega arith) T o).least U u.candidate) (u.least T o.candidate) in
      at_most_last r ranked (counts_on problem T) (counts_on problem U) (long T) (long U) (o.least U u.candidate) same

  -- and what has it is r-optimal
  pub optimal_by_count : (T : List (List Sym)) → IsOptimalFor problem (r - 1) T
      → ((U : List (List Sym)) → IsOptimalFor problem (r - 1) U → count_at problem r T ≤ count_at problem r U)
      → IsOptimalFor problem r T
  optimal_by_count T o h = record {
    candidate = o.candidate;
    least = λ U c. at_most_by_last r ranked (counts_on problem T) (counts_on problem U) (long T) (long U) (o.least U c)
        (no_less U c);
  }
    where
      no_less : (U : List (List Sym)) → IsCandidate problem U
          → vec_cmp (take (r - 1) (counts_on problem T)) (take (r - 1) (counts_on problem U)) ≡ Equal
          → count_at problem r T ≤ count_at problem r U
      no_less U c same = h U (record {
        candidate = c;
        least = λ V d. equal_at_most (take (r - 1) (counts_on problem T)) (take (r - 1) (counts_on problem U))
            (take (r - 1) (counts_on problem V)) same (o.least V d);
      })
