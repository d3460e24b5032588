-- A stage whose table is ordered, weighed and pruned is staged.
use Rattle.std.proofs.Common.{◌≡◌, ℕ, ◌-◌, ◌<◌, ◌≤◌, List, Option, None, Some, map, length, get_or, refl, sym, ap}
use Rattle.std.proofs.{Common.{◌∙◌, subst, arith, All}, lemmas.List.{get_or-map, length-map}}
use Rattle.std.specs.{Prelude.◌↔◌, List.Sorted.IsStrictlySortedBy}
use Rattle.tier_core.specs.{declared.kind.Kind.Kind, declared.shape.Shape.Shape, declared.sym.Sym.Sym}
use Rattle.tier_core.specs.{Kinds.{prefix_kind, kind_order}, KindShapes.{stretch_count, kind_in}}
use Rattle.tier_core.specs.{EmptyKind.empty_kind, KindNumbers.kind_numbered}
use Rattle.weight_law.specs.{declared.Weight.Ghosts, declared.count.Count.Count}
use Rattle.weight_law.specs.{declared.unit_weight.UnitWeight.UnitWeight, Count.count_meaning}
use Rattle.arc_table.specs.{declared.state.TableState.TableState, Conditions.{TargetsExist, ClassesFilled}}
use Rattle.arc_table.specs.Runs.{Accepts}
use Rattle.distances.specs.Least.{AreLeast}
use Rattle.prune_best.specs.Tight.{IsTight}
use Rattle.prune_best.proofs.Words.{some_of}
use Rattle.violation.specs.{Candidates.{IsOptimalFor, count_at}, Stages.IsRemaining, Problems.last_stage}
use Rattle.grammar_reader.specs.ShapeOf.{IsShapeOf}
use Rattle.kind_moves.specs.{declared.frame.Frame.Frame, Frames.{tiers_in, kind_at_stage, FitsFrame, problem_in}}
use Rattle.answer_text.specs.{declared.stage.Node.Node, Right.{kinds_at, IsRightStage}}
use Rattle.kind_tables.specs.{StageTables.{IsStage, IsStageTable}, FoundTables.names_kept}
use Rattle.kind_tables.proofs.Naming.{names_law}
use Rattle.stage_laws.proofs.{Resting.{remaining_law, least_from, some_weight}, Optimal.{all_words_law, number_law}}
use Rattle.kind_orders.specs.{KindOrders.{prefix_kind_at, IsKindOrder}, StageNodes.{node_numbered, AreNodesInOrder}}
use Rattle.stage_tables.specs.{Kept.IsKeptTable, Explored.names_at}
use Rattle.stage_tables.proofs.Named.{frame_stage}
use Rattle.ranked_gen.specs.{FittingKinds.FitsStage, Left.{weight_number, IsCountedOutcome}}
use Rattle.ranked_gen.proofs.OrderedNames.{count_kinds, name_is, first_number, kept_by_names, ordered, tells}
use Rattle.ranked_gen.proofs.StageShapes.{free_same, stretch_same, nodes_fit}

module _ (frame : Frame) (stage : ℕ) (within : stage ≤ last_stage (problem_in frame))
    (kinds : List Kind) {g : Ghosts Count} (meaning : g.meaning ≡ count_meaning) (states : List (TableState Count g))
    (table : IsStageTable (problem_in frame) stage (names_at frame stage kinds) states)
    (least : List (Option Count)) (are : AreLeast states least) where
  here : IsStage (problem_in frame) stage
  here = frame_stage frame stage within

  many : length kinds ≡ length states
  many = count_kinds frame stage within kinds states table.named

  weight_at : (s : ℕ) → s < length states → (w : Count) × (get_or least s None ≡ Some w)
  weight_at s l = some_of (get_or least s None) (some_weight states least are s l (table.on_runs s l))

  remains : (number : ℕ) → number < length kinds
      → IsRemaining (problem_in frame) stage (kind_at_stage frame stage (kind_numbered kinds number))
      (get_or (map weight_number least) number 0)
  remains number l =
      let inside : number < length states = omega (arith, many) in
      let w = weight_at number inside in
      let law = remaining_law (problem_in frame) stage here meaning
      (names_at frame stage kinds) states table number w.0 (least_from states least are number w.0 w.1) in
      let value : get_or (map weight_number least) number 0
      ≡ w.0.0 = get_or-map weight_number least number None 0 (omega (arith, are.each_state))
      ∙ ap weight_number w.1 in
      subst (λ n. IsRemaining (problem_in frame) stage (kind_at_stage frame stage (kind_numbered kinds number)) n)
      (sym value)
      (subst (λ k. IsRemaining (problem_in frame) stage k w.0.0)
      (name_is frame stage within kinds states table.named number empty_kind l) law)

  pub counted : (T : List (List Sym)) → IsOptimalFor (problem_in frame) stage T → 1 ≤ stage
      → count_at (problem_in frame) stage T ≡ get_or (map weight_number least) 0 0
  counted T o ranked =
      let some = table.named.some in
      let w = weight_at 0 some in
      let law = number_law (problem_in frame) stage here meaning (names_at frame stage kinds) states table ranked w.0
      (least_from states least are 0 w.0 w.1) T o in
      law ∙ sym (get_or-map weight_number least 0 None 0 (omega (arith, are.each_state)) ∙ ap weight_number w.1)

  module _ (shape : Shape) (of : IsShapeOf frame.grammar.now shape) (order : List ℕ)
      (sorted : IsKindOrder shape stage kinds order)
      (nodes : List Node) (listed : AreNodesInOrder kinds (map weight_number least) order nodes) where
    kinds_seen : kinds_at (problem_in frame) stage nodes ≡ map (prefix_kind_at shape stage kinds) order
    kinds_seen =
        sym (ap (λ n. map (λ (node : Node). prefix_kind n (stretch_count shape stage) node.kind) nodes)
        (free_same frame shape of stage within)
        ∙ ap (λ n. map (λ (node : Node). prefix_kind (length (tiers_in frame).free) n node.kind) nodes)
        (stretch_same frame shape of stage within))
        ∙ listed.in_order (kind_in shape stage)

    right_stage : IsRightStage (problem_in frame) stage nodes
    right_stage = record {
      kinds = record {
        ascending = subst (IsStrictlySortedBy kind_order) (sym kinds_seen) sorted.ascending;
        members = λ k.
            let names = names_law (problem_in frame) stage here (names_at frame stage kinds) states table.named
            (stage - 1) table.accepts table.on_runs k in
            let same = listed.same (kind_at_stage frame stage) k in
            (λ c. names.0 (same.0 c), λ p. same.1 (names.1 p));
      };
      potentials = subst (All (λ (node : Node). IsRemaining (problem_in frame) stage
          (kind_at_stage frame stage node.kind) node.potential)) (sym listed.each)
          (λ i d l.
          let inside : i < length order = omega
          (arith, l, length-map order (node_numbered kinds (map weight_number least))) in
          let number = get_or order i 0 in
          subst (λ (node : Node). IsRemaining (problem_in frame) stage
          (kind_at_stage frame stage node.kind) node.potential)
          (sym (get_or-map (node_numbered kinds (map weight_number least)) order i 0 d inside))
          (remains number (sorted.numbers.below i 0 inside)));
    }

    module _ {h : Ghosts UnitWeight} (pruned : List (TableState UnitWeight h)) (old : List ℕ)
        (tight : IsTight states pruned old) (some : 0 < length pruned) (targets : TargetsExist pruned)
        (filled : ClassesFilled pruned) where
      kept_by : IsKeptTable (problem_in frame) stage pruned
      kept_by = (
        names_kept (names_at frame stage kinds) old,
        record {
          named = kept_by_names frame stage within kinds states table.named shape of order sorted pruned old tight
              some targets filled;
          on_runs = tight.on_runs;
        },
      )

      accepts : (T : List (List Sym)) → Accepts pruned T ↔ IsOptimalFor (problem_in frame) stage T
      accepts T =
          let law = all_words_law meaning (names_at frame stage kinds) states (problem_in frame) stage here table T in
          (λ a. law.0 ((tight.accepts T).0 a), λ o. (tight.accepts T).1 (law.1 o))

      pub staged : All (FitsFrame frame stage) kinds
          → IsCountedOutcome (problem_in frame) stage nodes (get_or (map weight_number least) 0 0) pruned old order
      staged fit = record {
        left = record {
          right = right_stage;
          fit = subst (All (λ (node : Node). FitsStage (problem_in frame) stage node.kind)) (sym listed.each)
              (nodes_fit (λ (node : Node). node.kind) frame stage kinds fit
              (node_numbered kinds (map weight_number least)) (λ number. refl) order sorted.numbers.below);
          kept_by = kept_by;
          accepts = accepts;
          ordered = ordered frame stage within kinds states table.named shape of order sorted pruned old tight some
              targets filled;
          start = first_number frame stage within kinds states table.named shape of order sorted ∙ sym tight.start;
          tells = tells frame stage within kinds states table.named shape of order sorted pruned old tight some
              targets filled nodes (node_numbered kinds (map weight_number least)) listed.each (λ number. refl);
        };
        counted = counted;
      }
