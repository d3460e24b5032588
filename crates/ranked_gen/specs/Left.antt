-- What a stage leaves of the candidates, and how the states of the table that accepts them relate
-- to the nodes of the stage.
use Rattle.std.specs.Prelude.{ℕ, ◌+◌, ◌≡◌, ◌≢◌, ◌<◌, ◌≤◌, ◌↔◌, List, length, take, slice_get, slice_index, Some, Option, None, All, AllPairs}
use Rattle.tier_core.specs.declared.sym.Sym.{Sym}
use Rattle.tier_core.specs.Kinds.{PrefixKind}
use Rattle.weight_law.specs.declared.Weight.{Ghosts}
use Rattle.weight_law.specs.declared.count.Count.{Count}
use Rattle.weight_law.specs.declared.unit_weight.UnitWeight.{UnitWeight}
use Rattle.arc_table.specs.declared.state.TableState.{TableState}
use Rattle.arc_table.specs.Runs.{Accepts}
use Rattle.violation.specs.Candidates.{IsOptimalFor, counts_on, count_at}
use Rattle.violation.specs.Prefixes.{kind_of, kind_of_bits}
use Rattle.answer_text.specs.declared.stage.Node.{Node}
use Rattle.answer_text.specs.declared.stage.Stage.{Stage}
use Rattle.answer_text.specs.Right.{IsRightStage, nodes_at}
use Rattle.kind_orders.specs.Orderings.{IsOrdering}
use Rattle.kind_orders.specs.Automata.{ReadsTo}
use Rattle.stage_tables.specs.Kept.{IsKeptTable}
use Rattle.ranked_gen.specs.Budgets.{IsStageWithin}
use Rattle.ranked_gen.specs.FittingKinds.{FitsStage}
use Rattle.violation.specs.Problems.{Problem}

-- the number of a weight that is found, or 0 if there is none
abbrev pub weight_number : Option Count → ℕ
weight_number None = 0
weight_number (Some w) = w.0

-- node number n encodes this kind, under the first r constraints
pub record IsNodeOfKind (problem : Problem) (r : ℕ) (nodes : List Node) (n : ℕ) (k : PrefixKind) : Type 0 where
  pub node : Node
  pub numbered : slice_get nodes n ≡ Some node
  pub tells : kind_of_bits problem r node.kind ≡ k

-- Each of so many states has a number of the order, and no two have the same.
pub record AreOrdered (order states : List ℕ) (count : ℕ) : Type 0 where
  pub numbers : IsOrdering (length order) order
  pub each_state : length states ≡ count
  pub inside : All (λ number. number < length order) states
  pub once : AllPairs (λ a b. a ≢ b) states

-- What stage r leaves: its nodes are right, with kinds that fit, and the kept table accepts exactly the r-optimal
-- candidates. Its states have numbers of an order, of which the start's is the first, and the node
-- at the place of a state's number encodes the kind of each prefix that leads to the state.
pub record IsStageOutcome {g : Ghosts UnitWeight} (problem : Problem) (r : ℕ) (nodes : List Node)
    (kept : List (TableState UnitWeight g)) (states order : List ℕ) : Type 0 where
  pub right : IsRightStage problem r nodes
  pub fit : All (λ node. FitsStage problem r node.kind) nodes
  pub kept_by : IsKeptTable problem r kept
  pub accepts : (T : List (List Sym)) → Accepts kept T ↔ IsOptimalFor problem r T
  pub ordered : AreOrdered order states (length kept)
  pub start : slice_index order 0 ≡ slice_index states 0
  pub tells : (p : List (List Sym)) (s place : ℕ) → s < length kept → ReadsTo kept p s → place < length order
      → slice_index order place ≡ slice_index states s
      → IsNodeOfKind problem r nodes place (kind_of problem r p)

-- and the count is the number of constraint r, counted from 1, of each r-optimal candidate, where r is
-- not 0
pub record IsCountedOutcome {g : Ghosts UnitWeight} (problem : Problem) (r : ℕ) (nodes : List Node) (count : ℕ)
    (kept : List (TableState UnitWeight g)) (states order : List ℕ) : Type 0 where
  pub left : IsStageOutcome problem r nodes kept states order
  pub counted : (T : List (List Sym)) → IsOptimalFor problem r T → 1 ≤ r → count_at problem r T ≡ count

-- The stages up to r are right and within the budget, their kinds fit them, and the counts are the first r numbers of
-- each r-optimal candidate.
pub record AreStages (problem : Problem) (budget r : ℕ) (stages : List Stage) (counts : List ℕ) : Type 0 where
  pub stage_count : length stages ≡ r + 1
  pub each_stage : (s : ℕ) → s ≤ r → IsRightStage problem s (nodes_at stages s)
  pub fit : (s : ℕ) → s ≤ r → All (λ node. FitsStage problem s node.kind) (nodes_at stages s)
  pub numbers : (T : List (List Sym)) → IsOptimalFor problem r T → take r (counts_on problem T) ≡ counts
  pub within : (s : ℕ) → s ≤ r → IsStageWithin problem budget s

-- These are the stages up to r, the counts of their constraints, and what the last of them leaves.
pub record IsRanked {g : Ghosts UnitWeight} (problem : Problem) (budget r : ℕ) (stages : List Stage) (counts : List ℕ)
    (kept : List (TableState UnitWeight g)) (states order : List ℕ) : Type 0 where
  pub so_far : AreStages problem budget r stages counts
  pub left : IsStageOutcome problem r (nodes_at stages r) kept states order
