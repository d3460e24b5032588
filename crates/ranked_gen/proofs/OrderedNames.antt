-- The kinds that name the states of a table, in kind order, and the states of what is pruned from it.
use Rattle.std.proofs.Common.{◌≡◌, ℕ, zero, suc, ◌<◌, ◌≤◌, List, [], ◌∷◌, Some, map, length, get_or, slice_get, sym}
use Rattle.std.proofs.{Common.{ap, ◌∙◌, subst, arith, ⊎_elim}, lemmas.Bool.cases_order}
use Rattle.std.proofs.lemmas.List.{get_or_default, get_or-map, length-map}
use Rattle.std.proofs.{lemmas.List.FromFn.length-map-range_with_len, lemmas.Option.slice_get-get_or}
use Rattle.std.specs.{declared.cmp.Ordering.Ordering, declared.cmp.Ordering.TheVariants.Less}
use Rattle.tier_core.specs.{declared.kind.Kind.Kind, declared.shape.Shape.Shape, declared.sym.Sym.Sym}
use Rattle.tier_core.specs.{Kinds.{phase_at, kind_order}, KindShapes.{free_count, stretch_count}, Tiers.has_tier}
use Rattle.tier_core.specs.{EmptyKind.empty_kind, KindNumbers.kind_numbered}
use Rattle.weight_law.specs.declared.Weight.{Ghosts}
use Rattle.arc_table.specs.{declared.state.TableState.TableState, Conditions.{TargetsExist, ClassesFilled}}
use Rattle.prune_best.specs.Tight.{IsTight}
use Rattle.violation.specs.{Prefixes.kind_of, Problems.last_stage}
use Rattle.violation.proofs.{StageLemmas.over_stretches, FirstKind.none_before}
use Rattle.grammar_reader.specs.ShapeOf.{IsShapeOf}
use Rattle.kind_moves.specs.{declared.frame.Frame.Frame, Frames.{kind_at_stage, problem_in}}
use Rattle.answer_text.specs.declared.stage.Node.{Node}
use Rattle.kind_tables.specs.{StageTables.{IsStage, name_of, AreNamedByKinds}, FoundTables.names_kept}
use Rattle.kind_tables.proofs.Naming.{path_kind}
use Rattle.stage_laws.proofs.Pruned.{kept_named}
use Rattle.kind_orders.specs.{Orderings.IsOrdering, KindOrders.{prefix_kind_at, IsKindOrder}, Automata.ReadsTo}
use Rattle.stage_tables.specs.Explored.{names_at}
use Rattle.stage_tables.proofs.Named.{frame_stage}
use Rattle.ranked_gen.specs.Left.{IsNodeOfKind, AreOrdered}
use Rattle.ranked_gen.proofs.{WidenedColumns.all_at, Ascending.{Ascends, ascends_from}}
use Rattle.ranked_gen.proofs.StageShapes.{tell_same, free_same, stretch_same}

-- the first of an ascending list comes before a later one
first_less : {X : Type 0} (c : X → X → Ordering) (xs : List X) (d : X) (i : ℕ) → Ascends c xs → 0 < i → i < length xs
    → c (get_or xs 0 d) (get_or xs i d) ≡ Less
first_less c [] d i a some l = absurd (omega arith)
first_less c (x ∷ xs) d zero a some l = absurd (omega arith)
first_less c (x ∷ xs) d (suc i) a some l = all_at (λ y. c x y ≡ Less) xs i d (omega arith) a.0

module _ (frame : Frame) (stage : ℕ) (within : stage ≤ last_stage (problem_in frame)) (kinds : List Kind) {W : Type 0}
    {g : Ghosts W} (states : List (TableState W g))
    (named : AreNamedByKinds (problem_in frame) stage (names_at frame stage kinds) states) where
  here : IsStage (problem_in frame) stage
  here = frame_stage frame stage within

  pub count_kinds : length kinds ≡ length states
  count_kinds = sym (length-map kinds (kind_at_stage frame stage)) ∙ named.each_named

  pub name_is : (number : ℕ) (d : Kind) → number < length kinds
      → name_of (names_at frame stage kinds) number ≡ kind_at_stage frame stage (get_or kinds number d)
  name_is number d l = get_or-map (kind_at_stage frame stage) kinds number d _ l

  module _ (shape : Shape) (of : IsShapeOf frame.grammar.now shape) (order : List ℕ)
      (sorted : IsKindOrder shape stage kinds order) where
    pub order_count : length order ≡ length kinds
    order_count = sorted.numbers.count

    -- the empty prefix has the first kind
    pub first_number : get_or order 0 0 ≡ 0
    first_number =
        let some : 0 < length kinds = omega (arith, count_kinds, named.some) in
        let c = sorted.numbers.every 0 some in
        let there : get_or order c.0 0 ≡ 0 = get_or_default order c.0 0 0 c.1 ∙ c.2 in
        ⊎_elim (λ same. ap (λ i. get_or order i 0) (sym same) ∙ there)
        (λ other. ⊎_elim (λ none. absurd (omega (arith, none))) (λ more. absurd (not_later c.0 more c.1 there)) other)
        (cases_order c.0 0)
      where
        not_later : (place : ℕ) → 0 < place → place < length order → get_or order place 0 ≡ 0 → ⊥
        not_later place some l there =
            let tell = prefix_kind_at shape stage kinds in
            let d = tell 0 in
            let less = first_less kind_order (map tell order) d place
            (ascends_from kind_order (map tell order) sorted.ascending) some
            (omega (arith, l, length-map order tell)) in
            let one : 0 < length order = omega arith in
            let first : get_or (map tell order) 0 d ≡ tell (get_or order 0 0) = get_or-map tell order 0 0 d one in
            let start : get_or (map tell order) place d ≡ kind_of (problem_in frame) stage [] =
            get_or-map tell order place 0 d l ∙ ap tell there
            ∙ tell_same frame shape of stage within (kind_numbered kinds 0)
            ∙ sym (name_is 0 empty_kind (omega (arith, count_kinds, named.some))) ∙ named.start in
            let k = tell (get_or order 0 0) in
            none_before (problem_in frame) stage k (over_stretches (problem_in frame) stage here)
            (length-map-range_with_len (has_tier (kind_numbered kinds (get_or order 0 0)).opened) 0 (free_count shape)
            ∙ free_same frame shape of stage within)
            (length-map-range_with_len (phase_at (kind_numbered kinds (get_or order 0 0))) 0
            (stretch_count shape stage) ∙ stretch_same frame shape of stage within)
            (ap (λ x. kind_order x (kind_of (problem_in frame) stage [])) (sym first)
            ∙ ap (kind_order (get_or (map tell order) 0 d)) (sym start) ∙ less)

    module _ {V : Type 0} {h : Ghosts V} (pruned : List (TableState V h)) (old : List ℕ)
        (tight : IsTight states pruned old) (some : 0 < length pruned) (targets : TargetsExist pruned)
        (filled : ClassesFilled pruned) where
      pub kept_by_names : AreNamedByKinds (problem_in frame) stage (names_kept (names_at frame stage kinds) old) pruned
      kept_by_names = kept_named (problem_in frame) stage here
          (names_at frame stage kinds) states named pruned old tight some targets filled

      pub ordered : AreOrdered order old (length pruned)
      ordered = record {
        numbers = subst (λ n. IsOrdering n order) (sym order_count) sorted.numbers;
        each_state = tight.each_named;
        inside = λ i d l. omega (arith, tight.within i l, get_or_default old i d 0 l, count_kinds, order_count);
        once = λ i j d less inside e. tight.distinct i j less inside
            (sym (get_or_default old i d 0 (omega arith)) ∙ e ∙ get_or_default old j d 0 inside);
      }

      -- nodes in this order tell the kinds of the prefixes that lead to the states
      pub tells : (nodes : List Node) (node : ℕ → Node) → nodes ≡ map node order
          → ((number : ℕ) → (node number).kind ≡ kind_numbered kinds number)
          → (p : List (List Sym)) (s place : ℕ) → s < length pruned → ReadsTo pruned p s → place < length order
          → get_or order place 0 ≡ get_or old s 0
          → IsNodeOfKind (problem_in frame) stage nodes place (kind_of (problem_in frame) stage p)
      tells nodes node listed kind p s place l reach inside same =
          let number = get_or order place 0 in
          let below : number < length kinds = sorted.numbers.below place 0 inside in
          record {
            node = node number;
            numbered = ap (λ ns. slice_get ns place) listed
                ∙ slice_get-get_or (map node order) place (node 0) (omega (arith, inside, length-map order node))
                ∙ ap Some (get_or-map node order place 0 (node 0) inside);
            tells = ap (kind_at_stage frame stage) (kind number)
                ∙ sym (name_is number empty_kind below)
                ∙ ap (name_of (names_at frame stage kinds)) same
                ∙ sym (get_or-map (name_of (names_at frame stage kinds)) old s 0 _ (omega (arith, tight.each_named)))
                ∙ path_kind (problem_in frame) stage here
                (names_kept (names_at frame stage kinds) old) pruned kept_by_names reach.0 s p reach.1 reach.2;
          }
