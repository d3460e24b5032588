-- The table of what some constraints leave, and how its states stand among some nodes.
use Rattle.std.specs.Prelude.{ℕ, ◌≡◌, ◌<◌, ◌↔◌, List, length, slice_index}
use Rattle.tier_core.specs.declared.sym.Sym.{Sym}
use Rattle.tier_core.specs.Kinds.{PrefixKind}
use Rattle.weight_law.specs.declared.Weight.{Ghosts}
use Rattle.weight_law.specs.declared.unit_weight.UnitWeight.{UnitWeight}
use Rattle.arc_table.specs.declared.state.TableState.{TableState}
use Rattle.arc_table.specs.Runs.{Accepts, IsOnRun}
use Rattle.violation.specs.Candidates.{IsOptimalFor}
use Rattle.violation.specs.Prefixes.{kind_of}
use Rattle.answer_text.specs.declared.stage.Node.{Node}
use Rattle.kind_orders.specs.Automata.{ReadsTo}
use Rattle.kind_tables.specs.StageTables.{AreNamedByKinds}
use Rattle.ranked_gen.specs.Left.{IsNodeOfKind, AreOrdered}
use Rattle.violation.specs.Problems.{Problem}

-- The kept table accepts exactly the r-optimal candidates. Its states are named by kinds and are on
-- runs. They have numbers of an order, of which the start's is the first, and the node at the place of
-- a state's number tells the kind of each prefix that leads to the state.
pub record IsOptimalPart {g : Ghosts UnitWeight} (problem : Problem) (r : ℕ) (nodes : List Node)
    (kept : List (TableState UnitWeight g)) (states order : List ℕ) : Type 0 where
  pub names : List PrefixKind
  pub named : AreNamedByKinds problem r names kept
  pub on_runs : (s : ℕ) → s < length kept → IsOnRun kept s
  pub accepts : (T : List (List Sym)) → Accepts kept T ↔ IsOptimalFor problem r T
  pub ordered : AreOrdered order states (length kept)
  pub start : slice_index order 0 ≡ slice_index states 0
  pub tells : (p : List (List Sym)) (s place : ℕ) → s < length kept → ReadsTo kept p s → place < length order
      → slice_index order place ≡ slice_index states s
      → IsNodeOfKind problem r nodes place (kind_of problem r p)
