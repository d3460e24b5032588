-- What the shape of a frame's grammar tells of kinds is what the frame tells.
use Rattle.std.proofs.Common.{◌≡◌, ◌≢◌, ℕ, ◌+◌, ◌-◌, ◌<◌, ◌≤◌, ◌^◌, List, map, filter, take, length, get_or, sym}
use Rattle.std.proofs.{Common.{ap, ◌∙◌, subst, arith, All, AllPairs}, lemmas.List.{length-map, get_or-map}}
use Rattle.std.proofs.lemmas.List.FromFn.{get_or-map-range_with_len}
use Rattle.tier_core.specs.{declared.kind.Kind.Kind, declared.shape.Shape.Shape, Shapes.masked_count}
use Rattle.tier_core.specs.{Sides.is_stretch, Kinds.{AreStretchesBelow, prefix_kind}}
use Rattle.tier_core.specs.{KindShapes.{free_count, stretch_count, kind_in}, EmptyKind.empty_kind}
use Rattle.tier_core.specs.KindNumbers.{kind_numbered}
use Rattle.tier_core.proofs.TableMasks.{free_tiers}
use Rattle.grammar_reader.specs.ShapeOf.{IsShapeOf}
use Rattle.grammar_reader.proofs.Shaping.{length-stretch_counts}
use Rattle.violation.specs.{Prefixes.stretches, Problems.last_stage}
use Rattle.kind_moves.specs.declared.frame.Frame.{Frame}
use Rattle.kind_moves.specs.Frames.{tiers_in, constraints_in, kind_at_stage, FitsFrame, problem_in}
use Rattle.kind_orders.specs.KindOrders.{AreDistinctKinds}
use Rattle.ranked_gen.specs.FittingKinds.{FitsStage}

-- kinds that fit the frame fit the stage, whatever nodes they stand in
pub nodes_fit : {N : Type 0} (kind_in_node : N → Kind) (frame : Frame) (stage : ℕ) (kinds : List Kind)
    → All (FitsFrame frame stage) kinds → (node : ℕ → N)
    → ((number : ℕ) → kind_in_node (node number) ≡ kind_numbered kinds number) → (order : List ℕ)
    → All (λ number. number < length kinds) order
    → All (λ n. FitsStage (problem_in frame) stage (kind_in_node n)) (map node order)
nodes_fit kind_in_node frame stage kinds fit node is order inside k d l =
    let here : k < length order = omega (arith, l, length-map order node) in
    let number = get_or order k 0 in
    let f = fit number empty_kind (inside k 0 here) in
    subst (λ n. FitsStage (problem_in frame) stage (kind_in_node n)) (sym (get_or-map node order k 0 d here))
    (subst (FitsStage (problem_in frame) stage) (sym (is number))
    (record { opened = f.opened; stretches = f.stretches }))

module _ (frame : Frame) (shape : Shape) (of : IsShapeOf frame.grammar.now shape) (stage : ℕ)
    (within : stage ≤ last_stage (problem_in frame)) where
  pub free_same : free_count shape ≡ length (tiers_in frame).free
  free_same = ap (λ n. n - masked_count shape.inputs) of.width
      ∙ free_tiers frame.grammar.now.tiers.kinds.items shape.inputs of.inputs

  pub stage_in : stage < length shape.phases.items
  stage_in = omega (arith, ap length of.phases, length-stretch_counts (constraints_in frame))

  pub stretch_same : stretch_count shape stage ≡ length (stretches (problem_in frame) stage)
  stretch_same =
      ap (λ ns. get_or ns stage 0) of.phases
      ∙ get_or-map-range_with_len (λ i. length (filter is_stretch (take i (constraints_in frame)))) 0
      (last_stage (problem_in frame) + 1) stage stage 0 (omega arith) (omega arith)

  pub tell_same : (k : Kind) → kind_in shape stage k ≡ kind_at_stage frame stage k
  tell_same k = ap (λ n. prefix_kind n (stretch_count shape stage) k) free_same
      ∙ ap (λ n. prefix_kind (length (tiers_in frame).free) n k) stretch_same

  -- kinds that differ and fit the frame are found
  pub kinds_found : (kinds : List Kind) → All (FitsFrame frame stage) kinds
      → AllPairs (λ a b. a ≢ b) (map (kind_at_stage frame stage) kinds) → AreDistinctKinds shape stage kinds
  kinds_found kinds fit differ = record {
    fit = λ i d l. let f = fit i d l in record {
      within = stage_in;
      opened = subst (λ n. (get_or kinds i d).opened < 2 ^ n) (sym free_same) f.opened;
      stretches = subst (λ n. AreStretchesBelow n (get_or kinds i d)) (sym stretch_same) f.stretches;
    };
    differ = λ i j d less inside e.
        differ i j (kind_at_stage frame stage d) less
        (omega (arith, inside, length-map kinds (kind_at_stage frame stage)))
        (get_or-map (kind_at_stage frame stage) kinds i d _ (omega arith) ∙ sym (tell_same (get_or kinds i d)) ∙ e
        ∙ tell_same (get_or kinds j d) ∙ sym (get_or-map (kind_at_stage frame stage) kinds j d _ inside));
  }
