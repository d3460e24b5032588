-- What a single pass finds, from its table that is ordered, weighed and pruned.
use Rattle.std.proofs.Common.{◌≡◌, ℕ, ◌<◌, ◌≤◌, List, [], Option, None, Some, map, take, length, get_or, refl, sym}
use Rattle.std.proofs.{Common.{ap, ◌∙◌, subst, arith, All, Contains}, lemmas.List.{get_or-map, length-map}}
use Rattle.std.proofs.{lemmas.Simd.map-map, Math.Seq.take-append_seam}
use Rattle.std.specs.List.Sorted.{IsStrictlySortedBy}
use Rattle.tier_core.specs.{declared.kind.Kind.Kind, declared.shape.Shape.Shape, Kinds.{prefix_kind, kind_order}}
use Rattle.tier_core.specs.{KindShapes.{stretch_count, kind_in}, EmptyKind.empty_kind}
use Rattle.weight_law.specs.{declared.Weight.Ghosts, declared.ranked.Ranked.Ranked}
use Rattle.weight_law.specs.{declared.unit_weight.UnitWeight.UnitWeight, Ranked.{parts_of_vector, ranked_meaning}}
use Rattle.arc_table.specs.{declared.state.TableState.TableState, Conditions.{TargetsExist, ClassesFilled}}
use Rattle.distances.specs.Least.{AreLeast}
use Rattle.prune_best.specs.Tight.{IsTight}
use Rattle.prune_best.proofs.Words.{some_of}
use Rattle.violation.specs.{Candidates.IsLeastVector, Counts.violations_of, Rests.{IsLeastRestVector, AreWholeKinds}}
use Rattle.violation.specs.Problems.{last_stage}
use Rattle.grammar_reader.specs.ShapeOf.{IsShapeOf}
use Rattle.grammar_reader.proofs.OverTiers.{few_constraints}
use Rattle.kind_moves.specs.declared.frame.Frame.{Frame}
use Rattle.kind_moves.specs.Frames.{tiers_in, constraints_in, kind_at_stage, problem_in, FitsFrame}
use Rattle.answer_text.specs.{declared.stage.Node.Node, declared.once_answer.OnceNode.OnceNode}
use Rattle.answer_text.specs.RightOnce.{kind_told, bare_nodes, IsRightPotential}
use Rattle.kind_tables.specs.{StageTables.IsStage, FoundTables.names_kept, RankedTables.IsRankedTable}
use Rattle.stage_laws.proofs.{LeastVectors.{least_vector, least_rest_vector}, PrunedOnce.{whole_names, once_words}}
use Rattle.stage_laws.proofs.Resting.{least_from, some_weight}
use Rattle.kind_orders.specs.{KindOrders.{prefix_kind_at, IsKindOrder}, StageNodes.{node_numbered, AreNodesInOrder}}
use Rattle.kind_orders.proofs.Nodes.{are_nodes}
use Rattle.stage_tables.specs.Explored.{names_at}
use Rattle.stage_tables.proofs.Named.{frame_stage}
use Rattle.ranked_gen.specs.{FittingKinds.FitsStage, OptimalParts.IsOptimalPart}
use Rattle.ranked_gen.specs.Once.{weight_found, once_node, IsOncePart}
use Rattle.ranked_gen.proofs.OrderedNames.{count_kinds, name_is, first_number, kept_by_names, ordered, tells}
use Rattle.ranked_gen.proofs.StageShapes.{free_same, stretch_same, nodes_fit}

module _ (frame : Frame) (kinds : List Kind) {g : Ghosts Ranked} (meaning : g.meaning ≡ ranked_meaning)
    (states : List (TableState Ranked g))
    (table : IsRankedTable (problem_in frame) (names_at frame (last_stage (problem_in frame)) kinds) states)
    (least : List (Option Ranked)) (are : AreLeast states least) where
  all : last_stage (problem_in frame) ≤ last_stage (problem_in frame)
  all = omega arith

  here : IsStage (problem_in frame) (last_stage (problem_in frame))
  here = frame_stage frame (last_stage (problem_in frame)) all

  few : last_stage (problem_in frame) ≤ 24
  few = few_constraints frame.grammar.now

  many : length kinds ≡ length states
  many = count_kinds frame (last_stage (problem_in frame)) all kinds states table.named

  weight_at : (s : ℕ) → s < length states → (w : Ranked) × (get_or least s None ≡ Some w)
  weight_at s l = some_of (get_or least s None) (some_weight states least are s l (table.on_runs s l))

  -- the node of a number has the least vector that remains
  potential_at : (number : ℕ) → number < length kinds
      → IsRightPotential (problem_in frame) (once_node kinds least number)
  potential_at number l =
      let inside : number < length states = omega (arith, many) in
      let w = weight_at number inside in
      let law = least_rest_vector (problem_in frame) here few meaning
      (names_at frame (last_stage (problem_in frame)) kinds) states table number w.0
      (least_from states least are number w.0 w.1) in
      record {
        vector = law.0;
        least = subst (λ k. IsLeastRestVector (problem_in frame) k law.0)
            (name_is frame (last_stage (problem_in frame)) all kinds states table.named number empty_kind l) law.1.1;
        parts = ap (λ o. (weight_found o).parts) w.1 ∙ law.1.0;
      }

  -- the first parts of the least weight from the start are the least vector
  pub first_vector : (counts : List ℕ) → counts
      ≡ take (last_stage (problem_in frame)) (weight_found (get_or least 0 None)).parts
      → IsLeastVector (problem_in frame) counts
  first_vector counts is =
      let w = weight_at 0 table.named.some in
      let law = least_vector (problem_in frame) here few meaning
      (names_at frame (last_stage (problem_in frame)) kinds) states table w.0
      (least_from states least are 0 w.0 w.1) in
      let v : List ℕ = law.0 in
      let best = law.1.1.some in
      let long : length v ≡ last_stage (problem_in frame) = ap (λ (ns : List ℕ). length ns) (sym best.1.1)
      ∙ length-map (constraints_in frame) (λ c. violations_of c best.0) in
      let parts : (weight_found (get_or least 0 None)).parts ≡ parts_of_vector v = ap (λ o. (weight_found o).parts) w.1
      ∙ law.1.0 in
      let same : counts ≡ v = is ∙ ap (take (last_stage (problem_in frame))) parts
      ∙ ap (λ n. take n (parts_of_vector v)) (sym long) ∙ take-append_seam v _ in
      subst (IsLeastVector (problem_in frame)) (sym same) law.1.1

  module _ (shape : Shape) (of : IsShapeOf frame.grammar.now shape) (order : List ℕ)
      (sorted : IsKindOrder shape (last_stage (problem_in frame)) kinds order)
      (nodes : List OnceNode) (listed : nodes ≡ map (once_node kinds least) order) where
    bare_listed : bare_nodes nodes ≡ map (node_numbered kinds []) order
    bare_listed = ap bare_nodes listed ∙ map-map (λ (node : OnceNode). record { kind = node.kind; potential = 0 })
        (once_node kinds least) order

    in_nodes : AreNodesInOrder kinds [] order (bare_nodes nodes)
    in_nodes = are_nodes kinds [] order (bare_nodes nodes) sorted.numbers bare_listed

    kinds_bare : map (kind_told (problem_in frame)) nodes
        ≡ map (λ (node : Node). kind_at_stage frame (last_stage (problem_in frame)) node.kind) (bare_nodes nodes)
    kinds_bare = sym (map-map (λ (node : Node). kind_at_stage frame (last_stage (problem_in frame)) node.kind)
        (λ (node : OnceNode). record { kind = node.kind; potential = 0 }) nodes)

    kinds_seen : map (kind_told (problem_in frame)) nodes
        ≡ map (prefix_kind_at shape (last_stage (problem_in frame)) kinds) order
    kinds_seen =
        kinds_bare
        ∙ sym (ap (λ n. map (λ (node : Node). prefix_kind n
        (stretch_count shape (last_stage (problem_in frame))) node.kind) (bare_nodes nodes))
        (free_same frame shape of (last_stage (problem_in frame)) all)
        ∙ ap (λ n. map (λ (node : Node). prefix_kind (length (tiers_in frame).free) n node.kind) (bare_nodes nodes))
        (stretch_same frame shape of (last_stage (problem_in frame)) all))
        ∙ in_nodes.in_order (kind_in shape (last_stage (problem_in frame)))

    whole_kinds : AreWholeKinds (problem_in frame) (map (kind_told (problem_in frame)) nodes)
    whole_kinds = record {
      ascending = subst (IsStrictlySortedBy kind_order) (sym kinds_seen) sorted.ascending;
      members = λ k.
          let names = whole_names (problem_in frame) here few meaning
          (names_at frame (last_stage (problem_in frame)) kinds) states table k in
          let same = in_nodes.same (kind_at_stage frame (last_stage (problem_in frame))) k in (
            λ c. names.0 (same.0 (subst (λ ks. Contains ks k) kinds_bare c)),
            λ p. subst (λ ks. Contains ks k) (sym kinds_bare) (same.1 (names.1 p)),
          );
    }

    potentials : All (IsRightPotential (problem_in frame)) nodes
    potentials = subst (All (IsRightPotential (problem_in frame))) (sym listed)
        (λ i d l.
        let inside : i < length order = omega (arith, l, length-map order (once_node kinds least)) in
        subst (IsRightPotential (problem_in frame)) (sym (get_or-map (once_node kinds least) order i 0 d inside))
        (potential_at (get_or order i 0) (sorted.numbers.below i 0 inside)))

    module _ {h : Ghosts UnitWeight} (pruned : List (TableState UnitWeight h)) (old : List ℕ)
        (tight : IsTight states pruned old) (some : 0 < length pruned) (targets : TargetsExist pruned)
        (filled : ClassesFilled pruned) where
      part : IsOptimalPart (problem_in frame) (last_stage (problem_in frame)) (bare_nodes nodes) pruned old order
      part = record {
        names = names_kept (names_at frame (last_stage (problem_in frame)) kinds) old;
        named = kept_by_names frame (last_stage
            (problem_in frame)) all kinds states table.named shape of order sorted pruned old tight some targets
            filled;
        on_runs = tight.on_runs;
        accepts = once_words (problem_in frame) here few meaning
            (names_at frame (last_stage (problem_in frame)) kinds) states table pruned old tight some targets filled;
        ordered = ordered frame (last_stage
            (problem_in frame)) all kinds states table.named shape of order sorted pruned old tight some targets
            filled;
        start = first_number frame (last_stage (problem_in frame)) all kinds states table.named shape of order sorted
            ∙ sym tight.start;
        tells = tells frame
            (last_stage
            (problem_in frame)) all kinds states table.named shape of order sorted pruned old tight some targets
            filled (bare_nodes nodes) (node_numbered kinds []) bare_listed (λ number. refl);
      }

      pub once_part : (counts : List ℕ) → counts
          ≡ take (last_stage (problem_in frame)) (weight_found (get_or least 0 None)).parts
          → All (FitsFrame frame (last_stage (problem_in frame))) kinds
          → IsOncePart frame nodes counts pruned old order
      once_part counts is fit = record {
        kinds = whole_kinds;
        potentials = potentials;
        fit = subst (All (λ (node : OnceNode).
            FitsStage (problem_in frame) (last_stage (problem_in frame)) node.kind)) (sym listed)
            (nodes_fit (λ (node : OnceNode). node.kind) frame (last_stage (problem_in frame)) kinds fit
            (once_node kinds least) (λ number. refl) order sorted.numbers.below);
        least = first_vector counts is;
        part = part;
      }
