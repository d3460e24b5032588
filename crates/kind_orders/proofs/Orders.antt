-- Numbers that are sorted by what they stand for are an order.
use Rattle.std.proofs.Common.{◌≡◌, ◌≢◌, ℕ, ◌+◌, ◌<◌, List, [], length, get_or, sym, ◌∙◌, subst, arith, ⊎_elim, All}
use Rattle.std.proofs.{Common.IsPermutation, lemmas.Bool.cases_lt, lemmas.Nat.pow_pos, lemmas.List.get_or_past}
use Rattle.std.proofs.lemmas.List.FromFn.{length-range_with_len, get_or-range_with_len}
use Rattle.std.proofs.lemmas.List.Sorted.{All-permutation, Contains-permutation, length_permutation}
use Rattle.std.specs.{List.range_with_len, List.Sorted.{IsSortedByKey, IsStrictlySortedBy}}
use Rattle.tier_core.specs.{declared.kind.Kind.Kind, declared.shape.Shape.Shape, Kinds.kind_order}
use Rattle.tier_core.specs.{KindShapes.{FitsShape, free_count, stretch_count, kind_in}, EmptyKind.empty_kind}
use Rattle.tier_core.specs.KindNumbers.{kind_numbered}
use Rattle.kind_orders.specs.{Orderings.IsOrdering, KindOrders.{AreDistinctKinds, prefix_kind_at, IsKindOrder}}
use Rattle.symbol_class.proofs.Pairs.{pairs_apart, pairs_permuted}
use Rattle.tier_core.proofs.KindTies.{same_kind, kind_order_total}
use Rattle.kind_orders.proofs.Strict.{strict_from_sorted}

-- the numbers below n, rearranged
pub ordering_from : (n : ℕ) (order : List ℕ) → IsPermutation (range_with_len 0 n) order → IsOrdering n order
ordering_from n order p =
    let read : (k d : ℕ) → k < n → get_or (range_with_len 0 n) k d ≡ k = λ k d l. let here : 0 + k
    ≡ k = omega arith in get_or-range_with_len 0 n k d l ∙ here in
    record {
      count = length_permutation (range_with_len 0 n) order p ∙ length-range_with_len 0 n;
      below = All-permutation (λ number. number < n) (range_with_len 0 n) order p
          (λ k d l. let inside : k < n = omega (arith, length-range_with_len 0 n) in omega (arith, read k d inside));
      every = λ number l. Contains-permutation (range_with_len 0 n) order number p
          (number, omega (arith, length-range_with_len 0 n), read number number l);
      once = pairs_permuted (λ a b. a ≢ b) (λ a b other e. other (sym e)) (range_with_len 0 n) order p
          (λ i j d less inside e.
          let lj : j < n = omega (arith, length-range_with_len 0 n) in
          let li : i < n = omega arith in
          absurd (omega (arith, e, read i d li, read j d lj)));
    }

pub fits_empty : (shape : Shape) (stage : ℕ) → stage < length shape.phases.items → FitsShape shape stage empty_kind
fits_empty shape stage l = record {
  within = l;
  opened = pow_pos (free_count shape);
  stretches = record { unmet = pow_pos (stretch_count shape stage); met = pow_pos (stretch_count shape stage) };
}

-- whatever the number
pub fits_numbered : (shape : Shape) (stage : ℕ) (kinds : List Kind) → stage < length shape.phases.items
    → All (FitsShape shape stage) kinds → (number : ℕ) → FitsShape shape stage (kind_numbered kinds number)
fits_numbered shape stage kinds l fit number =
    ⊎_elim (λ inside. fit number empty_kind inside)
    (λ past. subst (FitsShape shape stage) (sym (get_or_past kinds number empty_kind past)) (fits_empty shape stage l))
    (cases_lt number (length kinds))

module _ (shape : Shape) (stage : ℕ) (kinds : List Kind) (found : AreDistinctKinds shape stage kinds) where
  -- numbers that differ tell kinds that differ
  told_apart : (a b : ℕ) → a ≢ b → a < length kinds → b < length kinds
      → prefix_kind_at shape stage kinds a ≢ prefix_kind_at shape stage kinds b
  told_apart a b other la lb = pairs_apart (λ k l. kind_in shape stage k ≢ kind_in shape stage l)
      (λ k l h e. h (sym e)) kinds found.differ a b empty_kind other la lb

  pub is_kind_order : (order : List ℕ) → IsPermutation (range_with_len 0 (length kinds)) order
      → IsSortedByKey (prefix_kind_at shape stage kinds) kind_order order → IsKindOrder shape stage kinds order
  is_kind_order order p sorted =
      let numbers = ordering_from (length kinds) order p in
      record {
        numbers = numbers;
        ascending = strict_from_sorted kind_order_total (prefix_kind_at shape stage kinds) 0 order sorted
            (λ i j d less inside e.
            told_apart (get_or order i d) (get_or order j d) (numbers.once i j d less inside)
            (numbers.below i d (omega arith)) (numbers.below j d inside)
            (same_kind (prefix_kind_at shape stage kinds (get_or order i d))
            (prefix_kind_at shape stage kinds (get_or order j d)) e));
      }

-- no kinds are in order
pub no_kinds : (shape : Shape) (stage : ℕ) (kinds : List Kind) → length kinds ≡ 0 → IsKindOrder shape stage kinds []
unfolding IsStrictlySortedBy
no_kinds shape stage kinds none = record {
  numbers = record {
    count = sym none;
    below = λ k d l. absurd (omega arith);
    every = λ number l. absurd (omega arith);
    once = λ i j d less inside. absurd (omega arith);
  };
  ascending = tt;
}
