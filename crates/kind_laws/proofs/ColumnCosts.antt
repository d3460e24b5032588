-- Each column adds at most 1 to each count.
use Rattle.std.proofs.Common.{◌≡◌, ℕ, zero, suc, ◌+◌, ◌-◌, ◌<◌, ◌≤◌, Bool, true, false, List, [], ◌∷◌, map, take}
use Rattle.std.proofs.Common.{length, get_or, arith}
use Rattle.std.specs.List.{AllByRecursion}
use Rattle.tier_core.specs.{declared.sym.Sym.Sym, declared.constraint.Constraint.Constraint, Timelines.IsWellFormed}
use Rattle.tier_core.proofs.CountLemmas.{bit}
use Rattle.violation.specs.Candidates.{IsCandidate, count_at, count_so_far_at}
use Rattle.violation.specs.{Conditions.{IsCountable, IsOverTiers}, Counts.{violations_of, violations_so_far}}
use Rattle.violation.specs.{Moves.costs, Prefixes.phase, Problems.Problem, Stages.IsStage}
use Rattle.violation.proofs.{Countable.countable_over, CountSteps.whole, MoveLemmas.{opened_after, column_costs}}
use Rattle.violation.proofs.WholeCounts.{so_far_none}

few_bit : (b : Bool) → bit b ≤ 1
few_bit true = omega arith
few_bit false = omega arith

module _ (width : ℕ) (T : List (List Sym)) (well : IsWellFormed width T) where
  module _ (c : Constraint) (over : IsOverTiers width c) where
    countable : IsCountable c.left c.right T
    countable = countable_over over well

    pub adds_one : (n : ℕ) → n < length T → violations_so_far c T (suc n) ≤ violations_so_far c T n + 1
    adds_one n l =
        omega (
          arith,
          column_costs c.family c.left c.right T n countable l,
          few_bit (costs c.family c.left c.right (opened_after T n) (phase c.left c.right (take n T)) (get_or T n [])),
        )

    -- m more columns add at most m
    pub rest_few : (m n : ℕ) → n + m ≡ length T → violations_of c T ≤ violations_so_far c T n + m
    rest_few zero n e =
        omega (arith, whole c.family c.left c.right T n countable (omega (arith, e)) (omega (arith, e)))
    rest_few (suc m) n e =
        omega (arith, rest_few m (suc n) (omega (arith, e)), adds_one n (omega (arith, e)))

    pub whole_few : violations_of c T ≤ length T
    whole_few =
        let none : violations_so_far c T 0 ≡ 0 = so_far_none c.family c.left c.right T in
        omega (arith, rest_few (length T) 0 (omega arith), none)

  each_few : (m n : ℕ) → n + m ≡ length T → (cs : List Constraint) → AllByRecursion (IsOverTiers width) cs → (i : ℕ)
      → get_or (map (λ c. violations_of c T) cs) i 0 ≤ get_or (map (λ c. violations_so_far c T n) cs) i 0 + m
  each_few m n e [] over i = omega arith
  each_few m n e (c ∷ cs) over zero = rest_few c over.0 m n e
  each_few m n e (c ∷ cs) over (suc i) = each_few m n e cs over.1 i

-- behind the first n columns, a stage counts at most one for each column
pub stage_few : (problem : Problem) (r : ℕ) → IsStage problem r → (T : List (List Sym)) → IsCandidate problem T
    → (m n : ℕ) → n + m ≡ length T → count_at problem r T ≤ count_so_far_at problem r T n + m
stage_few problem r stage T c m n e =
    each_few problem.tiers.width T c.well_formed m n e problem.constraints stage.over (r - 1)
