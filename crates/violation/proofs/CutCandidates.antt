-- Candidates that are cut in two: what is counted on them, and the kinds that are passed.
use Rattle.std.proofs.Common.{◌≡◌, ℕ, ◌+◌, ◌-◌, ◌≤◌, List, ◌++◌, take, drop, length, refl, sym, ap, ◌∙◌, subst}
use Rattle.std.proofs.{Common.{arith, take_at}, lemmas.List.{length-append, length-take-le, take-append-drop}}
use Rattle.tier_core.specs.{declared.sym.Sym.Sym, Kinds.PrefixKind}
use Rattle.violation.specs.{Candidates.{IsCandidate, IsOptimalFor, count_at, count_so_far_at}, Prefixes.kind_of}
use Rattle.violation.specs.{Problems.Problem, Stages.{IsStage, Passes, IsPassed}}
use Rattle.violation.proofs.WalkSums.{walk_cost, violations_on}

-- a prefix of an optimal candidate passes its kind
pub prefix_passes : (problem : Problem) (r s : ℕ) {k : PrefixKind} (p q : List (List Sym))
    → IsOptimalFor problem r (p ++ q) → kind_of problem s p ≡ k → Passes problem r s k (p ++ q) (length p)
prefix_passes problem r s p q o same = record {
  optimal = o;
  within = omega (arith, length-append p q);
  of_kind = ap (kind_of problem s) (take_at p q (length p) refl) ∙ same;
}

pub prefix_passed : (problem : Problem) (r s : ℕ) {k : PrefixKind} (p q : List (List Sym))
    → IsOptimalFor problem r (p ++ q) → kind_of problem s p ≡ k → IsPassed problem r s k
prefix_passed problem r s p q o same =
    record { candidate = p ++ q; columns = length p; passes = prefix_passes problem r s p q o same }

module _ (problem : Problem) (T : List (List Sym)) (n : ℕ) where
  pub candidate_cut : IsCandidate problem T → IsCandidate problem (take n T ++ drop n T)
  candidate_cut c = subst (IsCandidate problem) (sym (take-append-drop n T)) c

  module _ (r : ℕ) where
    pub optimal_cut : IsOptimalFor problem r T → IsOptimalFor problem r (take n T ++ drop n T)
    optimal_cut o = subst (IsOptimalFor problem r) (sym (take-append-drop n T)) o

    pub count_cut : count_at problem r (take n T ++ drop n T) ≡ count_at problem r T
    count_cut = ap (count_at problem r) (take-append-drop n T)

    pub so_far_cut : n ≤ length T
        → count_so_far_at problem r (take n T ++ drop n T) (length (take n T)) ≡ count_so_far_at problem r T n
    so_far_cut l = ap (λ (v : List (List Sym)). count_so_far_at problem r v (length (take n T))) (take-append-drop n T)
        ∙ ap (count_so_far_at problem r T) (length-take-le n T l)

    -- what is counted is what is counted up to the cut, and what the columns after it cost
    pub violations_cut : (stage : IsStage problem r) → 1 ≤ r → n ≤ length T → IsCandidate problem T
        → count_at problem r T
        ≡ count_so_far_at problem r T n + walk_cost problem r stage (r - 1) (kind_of problem r (take n T)) (drop n T)
    violations_cut stage ranked l c =
        omega (
          arith,
          count_cut,
          so_far_cut l,
          violations_on problem r stage ranked (take n T) (drop n T) (candidate_cut c),
        )
