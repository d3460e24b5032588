-- What remains at a kind is what the least rest of a walk costs.
use Rattle.std.proofs.Common.{◌≡◌, ℕ, ◌-◌, ◌≤◌, List, ◌++◌, take, drop, length, arith}
use Rattle.tier_core.specs.{declared.sym.Sym.Sym, Kinds.PrefixKind}
use Rattle.violation.specs.{Candidates.IsOptimalFor, Prefixes.kind_of, Stages.{IsStage, IsLeastRest}}
use Rattle.violation.specs.Problems.{Problem}
use Rattle.violation.proofs.WalkSums.{walk_cost, violations_on}
use Rattle.violation.proofs.CutCandidates.{prefix_passes, optimal_cut, violations_cut}

module _ (problem : Problem) (r : ℕ) (stage : IsStage problem r) where
  -- an (r-1)-optimal candidate that goes on from the kind k at the cost p
  pub record HasRest (k : PrefixKind) (p : ℕ) : Type 0 where
    pub before : List (List Sym)
    pub rest : List (List Sym)
    pub optimal : IsOptimalFor problem (r - 1) (before ++ rest)
    pub of_kind : kind_of problem r before ≡ k
    pub costs : walk_cost problem r stage (r - 1) (kind_of problem r before) rest ≡ p

  module _ (ranked : 1 ≤ r) (k : PrefixKind) (p : ℕ) (least : IsLeastRest problem r k p) where
    pub rest_some : HasRest k p
    rest_some =
        let T : List (List Sym) = least.some.0 in
        let n : ℕ = least.some.1.0 in
        let passes = least.some.1.1.0 in
        record {
          before = take n T;
          rest = drop n T;
          optimal = optimal_cut problem T n (r - 1) passes.optimal;
          of_kind = passes.of_kind;
          costs = omega (
            arith,
            violations_cut problem T n r stage ranked passes.within passes.optimal.candidate,
            least.some.1.1.1,
          );
        }

    pub rest_least : (v q : List (List Sym)) → IsOptimalFor problem (r - 1) (v ++ q) → kind_of problem r v ≡ k
        → p ≤ walk_cost problem r stage (r - 1) (kind_of problem r v) q
    rest_least v q o same =
        let low = least.least (v ++ q) (length v)
        (prefix_passes problem (r - 1) r v q o same) in
        omega (arith, low, violations_on problem r stage ranked v q o.candidate)
