-- Sorted lists in which no two elements tie.
use Rattle.std.proofs.Common.{◌≡◌, ◌≢◌, ◌+◌, ◌<◌, true, false, List, map, length, get_or, refl, ap, ap₂, ◌∙◌, arith}
use Rattle.std.proofs.{Common.{AllPairs, true≢false}, lemmas.List.{get_or-map, length-map}}
use Rattle.std.proofs.lemmas.Map.Keys.{sorted_from_all_adjacent}
use Rattle.std.specs.{Cmp.IsTotalOrder, List.Sorted.{IsSortedByKey, IsStrictlySortedBy}}
use Rattle.std.specs.{Ordering.{ordering_reverse, is_lt}, declared.cmp.Ordering.Ordering}
use Rattle.std.specs.declared.cmp.Ordering.TheVariants.{Less, Equal, Greater}

module _ {X K : Type 0} {R : K → K → Ordering} (o : IsTotalOrder R) (key : X → K) where
  less_from : (x y : K) → is_lt (R y x) ≡ false → R x y ≢ Equal → R x y ≡ Less
  less_from x y kept other = go (R y x) refl kept
    where
      go : (r : Ordering) → R y x ≡ r → is_lt r ≡ false → R x y ≡ Less
      go Less e h = absurd (true≢false h)
      go Equal e h = absurd (other (o.antisymm x y ∙ ap ordering_reverse e))
      go Greater e h = o.antisymm x y ∙ ap ordering_reverse e

  pub strict_from_sorted : (d : X) (xs : List X) → IsSortedByKey key R xs
      → AllPairs (λ x y. R (key x) (key y) ≢ Equal) xs → IsStrictlySortedBy R (map key xs)
  strict_from_sorted d xs sorted differ = sorted_from_all_adjacent o (map key xs) (key d) (λ k l.
      let inside : k + 1 < length xs = omega (arith, length-map xs key) in
      ap₂ R (get_or-map key xs k d (key d) (omega arith)) (get_or-map key xs (k + 1) d (key d) inside)
      ∙ less_from (key (get_or xs k d)) (key (get_or xs (k + 1) d)) (sorted k d (omega arith) inside)
      (differ k (k + 1) d (omega arith) inside))
