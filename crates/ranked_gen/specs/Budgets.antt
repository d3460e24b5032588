-- Which stages have more kinds of prefix than a budget.
use Rattle.std.specs.Prelude.{ℕ, ◌<◌, ◌≤◌, List, length}
use Rattle.tier_core.specs.Kinds.{PrefixKind}
use Rattle.violation.specs.Stages.{AreKindsOfStage}
use Rattle.violation.specs.Problems.{last_stage, Problem}

-- stage r has more kinds than the budget
pub record IsOver (problem : Problem) (budget r : ℕ) : Type 0 where
  pub kinds : List PrefixKind
  pub are : AreKindsOfStage problem r kinds
  pub more : budget < length kinds

-- stage r has no more kinds than the budget
abbrev pub IsStageWithin : Problem → ℕ → ℕ → Type 0
IsStageWithin problem budget r = (kinds : List PrefixKind) → AreKindsOfStage problem r kinds → length kinds ≤ budget

-- stage r has its list of kinds, and that is no longer than the budget
pub record HasFewKinds (problem : Problem) (budget r : ℕ) : Type 0 where
  pub kinds : List PrefixKind
  pub are : AreKindsOfStage problem r kinds
  pub few : length kinds ≤ budget

-- each stage has its list of kinds, and that is no longer than the budget
abbrev pub HaveFewKinds : Problem → ℕ → Type 0
HaveFewKinds problem budget = (r : ℕ) → r ≤ last_stage problem → HasFewKinds problem budget r

-- no stage has more kinds than the budget
abbrev pub AreAllWithin : Problem → ℕ → Type 0
AreAllWithin problem budget = (r : ℕ) → r ≤ last_stage problem → IsStageWithin problem budget r

-- stage r is the first that has more kinds than the budget; those before have their lists
pub record IsFirstOver (problem : Problem) (budget r : ℕ) : Type 0 where
  pub stage : r ≤ last_stage problem
  pub over : IsOver problem budget r
  pub before : (s : ℕ) → s < r → IsStageWithin problem budget s
  pub listed : (s : ℕ) → s < r → HasFewKinds problem budget s
