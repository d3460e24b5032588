-- How many kinds a stage has at most.
use Rattle.std.proofs.Common.{ℕ, ◌≤◌, List, [], length, Contains}
use Rattle.tier_core.specs.Kinds.{PrefixKind}
use Rattle.violation.specs.{Stages.{IsKindOfStage, AreKindsOfStage}, Problems.Problem}
use Rattle.tier_core.proofs.AscendingKinds.{ascending_few}

-- a stage has no more kinds than there are names, where all its kinds are names
pub stage_few : (problem : Problem) (r : ℕ) (names : List PrefixKind)
    → ((k : PrefixKind) → IsKindOfStage problem r k → Contains names k)
    → (ks : List PrefixKind) → AreKindsOfStage problem r ks → length ks ≤ length names
stage_few problem r names all ks a = ascending_few ks names a.ascending (λ k c. all k ((a.members k).0 c))
