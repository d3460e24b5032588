-- The nodes of numbers in their order tell what the kinds tell.
use Rattle.std.proofs.Common.{◌≡◌, ℕ, ◌<◌, List, map, length, ap, sym, ◌∙◌, subst, Contains}
use Rattle.std.proofs.{lemmas.List.get_or_default, lemmas.Simd.map-map}
use Rattle.std.proofs.lemmas.List.Elements.{Contains-get_or, All-contains}
use Rattle.tier_core.specs.{declared.kind.Kind.Kind, Kinds.PrefixKind, EmptyKind.empty_kind}
use Rattle.tier_core.specs.KindNumbers.{kind_numbered}
use Rattle.answer_text.specs.declared.stage.Node.{Node}
use Rattle.kind_orders.specs.{Orderings.IsOrdering, StageNodes.{node_numbered, AreNodesInOrder}}
use Rattle.tier_core.proofs.Members.{contains_map, contains_of_map}

module _ (kinds : List Kind) (order : List ℕ) (o : IsOrdering (length kinds) order) (tell : Kind → PrefixKind) where
  abbrev taken : List PrefixKind
  taken = map (λ number. tell (kind_numbered kinds number)) order

  taken_told : (k : PrefixKind) → Contains taken k → Contains (map tell kinds) k
  taken_told k h =
      let r = contains_of_map (λ number. tell (kind_numbered kinds number)) order k h in
      let inside : r.0 < length kinds = All-contains (λ number. number < length kinds) order r.0 o.below r.1.0 in
      subst (Contains (map tell kinds)) r.1.1
      (contains_map tell kinds (kind_numbered kinds r.0) (Contains-get_or kinds r.0 empty_kind inside))

  told_taken : (k : PrefixKind) → Contains (map tell kinds) k → Contains taken k
  told_taken k h =
      let r = contains_of_map tell kinds k h in
      let place = r.1.0 in
      let there : kind_numbered kinds place.0 ≡ r.0 = get_or_default kinds place.0 empty_kind r.0 place.1 ∙ place.2 in
      subst (Contains taken) (ap tell there ∙ r.1.1)
      (contains_map (λ number. tell (kind_numbered kinds number)) order place.0 (o.every place.0 place.1))

pub are_nodes : (kinds : List Kind) (potentials order : List ℕ) (nodes : List Node) → IsOrdering (length kinds) order
    → nodes ≡ map (node_numbered kinds potentials) order → AreNodesInOrder kinds potentials order nodes
are_nodes kinds potentials order nodes o each =
    let in_order : (tell : Kind → PrefixKind)
    → map (λ (node : Node). tell node.kind) nodes ≡ map (λ number. tell (kind_numbered kinds number)) order =
    λ tell. ap (map (λ (node : Node). tell node.kind)) each
    ∙ map-map (λ (node : Node). tell node.kind) (node_numbered kinds potentials) order in
    record {
      each = each;
      in_order = in_order;
      same = λ tell k. (
        λ h. taken_told kinds order o tell k (subst (λ ks. Contains ks k) (in_order tell) h),
        λ h. subst (λ ks. Contains ks k) (sym (in_order tell)) (told_taken kinds order o tell k h),
      );
    }
