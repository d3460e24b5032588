-- A key in kinds that ascend: by a node that comes before or behind it, others do.
use Rattle.std.proofs.Common.{◌≡◌, ℕ, ◌+◌, ◌<◌, ◌≤◌, ◌↔◌, IsTrue, true, Some, List, length, get_or, slice_get, refl}
use Rattle.std.proofs.{Common.{ap, sym, ◌∙◌, arith, ⊎_elim, Contains, true≢false}, lemmas.Bool.cases_lt}
use Rattle.std.proofs.{lemmas.Cmp.tied_itself, lemmas.List.{length-map, get_or-map}, lemmas.Map.Keys.Less-from_sorted}
use Rattle.std.proofs.lemmas.Option.{slice_get-get_or}
use Rattle.std.specs.{List.Sorted.IsStrictlySortedBy, Ordering.{ordering_reverse, is_eq, is_lt}}
use Rattle.std.specs.{declared.cmp.Ordering.Ordering, declared.cmp.Ordering.TheVariants.{Less, Equal, Greater}}
use Rattle.tier_core.specs.{declared.kind.Kind.Kind, declared.shape.Shape.Shape, Kinds.{PrefixKind, kind_order}}
use Rattle.tier_core.specs.KindShapes.{kind_in}
use Rattle.tier_core.proofs.KindTies.{kind_order_total, not_before_itself, same_kind}
use Rattle.answer_text.specs.declared.stage.Node.{Node}
use Rattle.cert_check.specs.Searches.{told_in}

module _ (kinds : List PrefixKind) (key : PrefixKind) (sorted : IsStrictlySortedBy kind_order kinds) where
  pub all_below : (m : ℕ) → m < length kinds → kind_order (get_or kinds m key) key ≡ Less → (i : ℕ) → i < m + 1
      → kind_order (get_or kinds i key) key ≡ Less
  all_below m l e i h = ⊎_elim (λ below. kind_order_total.trans (get_or kinds i key) (get_or kinds m key) key
      (Less-from_sorted _ _ i m key sorted below l) e)
      (λ above. let is : i ≡ m = omega arith in ap (λ n. kind_order (get_or kinds n key) key) is ∙ e) (cases_lt i m)

  pub all_above : (m : ℕ) → m < length kinds → kind_order (get_or kinds m key) key ≡ Greater → (i : ℕ) → m ≤ i
      → i < length kinds → kind_order (get_or kinds i key) key ≡ Greater
  all_above m l e i h k = ⊎_elim
      (λ below.
      let first = kind_order_total.antisymm key (get_or kinds m key) ∙ ap ordering_reverse e in
      let later = kind_order_total.trans key (get_or kinds m key) (get_or kinds i key) first
      (Less-from_sorted _ _ m i key sorted below k) in
      kind_order_total.antisymm (get_or kinds i key) key ∙ ap ordering_reverse later)
      (λ above. let is : i ≡ m = omega arith in ap (λ n. kind_order (get_or kinds n key) key) is ∙ e)
      (cases_lt m i)

  pub not_there : (low high : ℕ) → high ≤ low → ((i : ℕ) → i < low → kind_order (get_or kinds i key) key ≡ Less)
      → ((i : ℕ) → high ≤ i → i < length kinds → kind_order (get_or kinds i key) key ≡ Greater) → Contains kinds key → ⊥
  not_there low high w below above c = ⊎_elim
      (λ l. not_before_itself key (ap (λ k. kind_order k key) (sym c.2) ∙ below c.0 l))
      (λ g. let greater = ap (λ k. kind_order k key) (sym c.2) ∙ above c.0 (omega (arith, w, g)) c.1 in
      true≢false (sym (ap is_eq (tied_itself kind_order_total key)) ∙ ap is_eq greater))
      (cases_lt c.0 low)

-- the node in the middle of a search
module _ (shape : Shape) (stage : ℕ) (nodes : List Node) (key : Kind)
    (sorted : IsStrictlySortedBy kind_order (told_in shape stage nodes)) (middle : ℕ) (node : Node)
    (inside : middle < length nodes) where
  abbrev kinds : List PrefixKind
  kinds = told_in shape stage nodes

  abbrev wanted : PrefixKind
  wanted = kind_in shape stage key

  size : length kinds ≡ length nodes
  size = length-map nodes (λ (node : Node). kind_in shape stage node.kind)

  compared : (o : Ordering) → kind_order (kind_in shape stage (get_or nodes middle node).kind) wanted ≡ o
      → kind_order (get_or kinds middle wanted) wanted ≡ o
  compared o e = ap (λ k. kind_order k wanted) (get_or-map _ _ _ _ _ inside) ∙ e

  pub before_middle : kind_order (kind_in shape stage (get_or nodes middle node).kind) wanted ≡ Less → (i : ℕ)
      → i < middle + 1 → kind_order (get_or kinds i wanted) wanted ≡ Less
  before_middle e = all_below _ _ sorted _ (omega (arith, inside, size)) (compared _ e)

  pub behind_middle : kind_order (kind_in shape stage (get_or nodes middle node).kind) wanted ≡ Greater → (i : ℕ)
      → middle ≤ i → i < length nodes → kind_order (get_or kinds i wanted) wanted ≡ Greater
  behind_middle e i h k = all_above _ _ sorted _ (omega (arith, inside, size)) (compared _ e) i h
      (omega (arith, k, size))

  pub at_middle : kind_order (kind_in shape stage (get_or nodes middle node).kind) wanted ≡ Equal
      → slice_get kinds middle ≡ Some wanted
  at_middle e = slice_get-get_or _ middle wanted (omega (arith, inside, size)) ∙ ap (λ (k : PrefixKind). Some k)
      (same_kind _ _ (compared _ e))

less_told : (o : Ordering) → is_lt o ≡ true → o ≡ Less
less_told Less h = refl
less_told Equal h = absurd (true≢false (sym h))
less_told Greater h = absurd (true≢false (sym h))

pub less_is : (o : Ordering) → IsTrue (is_lt o) ↔ (o ≡ Less)
less_is o = (less_told o, λ e. ap is_lt e)
