-- What a single pass finds.
use Rattle.std.specs.Prelude.{ℕ, List, Option, None, Some, map, replicate, slice_index_or, All}
use Rattle.weight_law.specs.declared.Weight.{Ghosts}
use Rattle.weight_law.specs.declared.ranked.Ranked.{Ranked}
use Rattle.weight_law.specs.declared.unit_weight.UnitWeight.{UnitWeight}
use Rattle.weight_law.specs.Ranked.{ranked_of}
use Rattle.tier_core.specs.declared.kind.Kind.{Kind}
use Rattle.arc_table.specs.declared.state.TableState.{TableState}
use Rattle.violation.specs.Candidates.{IsLeastVector}
use Rattle.violation.specs.Rests.{AreWholeKinds}
use Rattle.kind_moves.specs.declared.frame.Frame.{Frame}
use Rattle.kind_moves.specs.Frames.{problem_in}
use Rattle.answer_text.specs.declared.once_answer.OnceNode.{OnceNode}
use Rattle.answer_text.specs.RightOnce.{kind_told, bare_nodes, IsRightPotential}
use Rattle.tier_core.specs.KindNumbers.{kind_numbered}
use Rattle.ranked_gen.specs.FittingKinds.{FitsStage}
use Rattle.ranked_gen.specs.OptimalParts.{IsOptimalPart}
use Rattle.violation.specs.Problems.{last_stage}

-- a weight that is found, and zeros where there is none
abbrev pub weight_found : Option Ranked → Ranked
weight_found None = ranked_of (replicate 24 0)
weight_found (Some w) = w

-- the node of a number: its kind and its least weight
abbrev pub once_node : List Kind → List (Option Ranked) → ℕ → OnceNode
once_node kinds least number = record {
  kind = kind_numbered kinds number;
  potential = weight_found (slice_index_or least number None);
}

-- The nodes are the kinds under all constraints of prefixes of candidates, in kind order, with the least
-- vectors that remain from them, and their bits fit the last stage. The counts are the least vector, and the
-- kept table accepts exactly the optimal candidates, each state by the number of its node.
pub record IsOncePart {g : Ghosts UnitWeight} (frame : Frame) (nodes : List OnceNode) (counts : List ℕ)
    (kept : List (TableState UnitWeight g)) (states order : List ℕ) : Type 0 where
  pub kinds : AreWholeKinds (problem_in frame) (map (kind_told (problem_in frame)) nodes)
  pub potentials : All (IsRightPotential (problem_in frame)) nodes
  pub fit : All (λ node. FitsStage (problem_in frame) (last_stage (problem_in frame)) node.kind) nodes
  pub least : IsLeastVector (problem_in frame) counts
  pub part : IsOptimalPart (problem_in frame) (last_stage (problem_in frame)) (bare_nodes nodes) kept states order
