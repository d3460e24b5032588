-- The kinds of a stage are among the names.
use Rattle.std.proofs.Common.{ℕ, zero, suc, ◌+◌, ◌*◌, ◌^◌, ◌≤◌, Bool, true, false, cond, List, [], ◌∷◌, ◌++◌, map}
use Rattle.std.proofs.{Common.{filter, take, drop, length, ap, subst, arith, Contains}, lemmas.List.length-take}
use Rattle.std.proofs.lemmas.Nat.{mul-le}
use Rattle.tier_core.specs.{declared.sym.Sym.Sym, Kinds.PrefixKind, Sides.is_stretch, Timelines.tier_word}
use Rattle.violation.specs.{Candidates.IsCandidate, Prefixes.{is_open, phase, kind_of, stretches}}
use Rattle.violation.specs.Stages.{IsStage, IsKindOfStage, AreKindsOfStage}
use Rattle.violation.specs.Problems.{Problem, last_stage, last_place}
use Rattle.violation.proofs.{PrefixLemmas.{IsBegun, input_part}, StageLemmas.over_stretches, WalkLemmas.begun_of}
use Rattle.violation.proofs.{ClosedPhases.phases_closed, CutCandidates.candidate_cut}
use Rattle.tier_core.proofs.AscendingKinds.{ascending_few}
use Rattle.kind_laws.proofs.Names.{names, name_count, name_in}

module _ (problem : Problem) (r : ℕ) (stage : IsStage problem r) where
  module _ (p : List (List Sym)) (begun : IsBegun problem p) where
    prefix_named : Contains (names problem r) (kind_of problem r p)
    prefix_named =
        name_in problem r (length (input_part problem.tiers p)) (λ t. is_open (tier_word p t))
        (map (λ c. phase c.left c.right p) (stretches problem r))
        (omega (arith, ap length begun.place, length-take (length (input_part problem.tiers p)) problem.form))
        (phases_closed problem stage.split stage.form r p begun (stretches problem r)
        (over_stretches problem r stage))

  kind_named : (k : PrefixKind) → IsKindOfStage problem r k → Contains (names problem r) k
  kind_named k h =
      let T : List (List Sym) = h.candidate in
      let whole : IsCandidate problem (take h.columns T ++ drop h.columns T) =
      candidate_cut problem T h.columns h.passes.optimal.candidate in
      subst (Contains (names problem r)) h.passes.of_kind
      (prefix_named (take h.columns T) (begun_of problem (take h.columns T) (drop h.columns T) whole))

  pub kinds_few : (ks : List PrefixKind) → AreKindsOfStage problem r ks
      → length ks ≤ (last_place problem + 1) * 2 ^ length problem.tiers.free * 2 ^ length (stretches problem r)
  kinds_few ks are =
      subst (λ n. length ks ≤ n) (name_count problem r)
      (ascending_few ks (names problem r) are.ascending (λ k c. kind_named k ((are.members k).0 c)))

-- fewer constraints have fewer stretch implications
filter_fewer : {X : Type 0} (f : X → Bool) (r s : ℕ) (xs : List X) → r ≤ s
    → length (filter f (take r xs)) ≤ length (filter f (take s xs))
filter_fewer f zero s xs l = omega arith
filter_fewer f (suc r) zero xs l = absurd (omega arith)
filter_fewer f (suc r) (suc s) [] l = omega arith
filter_fewer f (suc r) (suc s) (x ∷ xs) l = step (f x) (filter_fewer f r s xs (omega arith))
  where
    step : (b : Bool) → length (filter f (take r xs)) ≤ length (filter f (take s xs))
        → length (cond b (x ∷ filter f (take r xs)) (filter f (take r xs)))
        ≤ length (cond b (x ∷ filter f (take s xs)) (filter f (take s xs)))
    step true h = omega (arith, h)
    step false h = h

pub power_more : (a b : ℕ) → a ≤ b → 2 ^ a ≤ 2 ^ b
power_more zero zero l = omega arith
power_more zero (suc b) l = omega (arith, power_more zero b (omega arith))
power_more (suc a) zero l = absurd (omega arith)
power_more (suc a) (suc b) l = omega (arith, power_more a b (omega arith))

pub all_few : (problem : Problem) (r : ℕ) (stage : IsStage problem r) (ks : List PrefixKind)
    → AreKindsOfStage problem r ks
    → length ks ≤ (last_place problem + 1) * 2 ^ length problem.tiers.free
    * 2 ^ length (stretches problem (last_stage problem))
all_few problem r stage ks are =
    let n : ℕ = (last_place problem + 1) * 2 ^ length problem.tiers.free in
    omega (
      arith,
      kinds_few problem r stage ks are,
      mul-le n (2 ^ length (stretches problem r)) n (2 ^ length (stretches problem (last_stage problem))) (omega arith)
          (power_more (length (stretches problem r)) (length (stretches problem (last_stage problem)))
          (filter_fewer is_stretch r (last_stage problem) problem.constraints stage.within)),
    )
