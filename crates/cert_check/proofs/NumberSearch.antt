-- A number among those of elements that ascend by them: a binary search tells whether it is there.
use Rattle.std.proofs.Common.{◌≡◌, ◌≢◌, ◌↔◌, ℕ, ◌<◌, ◌≤◌, IsTrue, Result, Ok, Err, List, [], ◌∷◌, length, map}
use Rattle.std.proofs.{Common.{get_or, refl, ap, sym, ◌∙◌, arith, ⊎_elim, Contains, true≢false}, lemmas.Bool.cases_lt}
use Rattle.std.proofs.{lemmas.Bool.Decides.nat_tests, lemmas.Cmp.ranked, lemmas.List.{length-map, get_or-map}}
use Rattle.std.proofs.lemmas.Map.Keys.{below_from_sorted}
use Rattle.std.specs.List.Sorted.{IsBinarySearchResult, IsNonDecreasingBy, IsSearchInRange, IsStrictlySortedBy}
use Rattle.std.specs.{Ordering.{nat_cmp, ordering_index}, Result.is_ok}

index_rises : (a b x : ℕ) → a ≤ b → ordering_index (nat_cmp a x) ≤ ordering_index (nat_cmp b x)
index_rises a b x h = grind (arith, nat_tests)

module _ {X : Type 0} (key : X → ℕ) (x : ℕ) where
  there : (xs : List X) (i : ℕ) → i < length xs → ((d : X) → key (get_or xs i d) ≡ x) → Contains (map key xs) x
  there [] i l e = absurd (omega (arith, l))
  there (d ∷ xs) i l e = (i, omega (arith, l, length-map (d ∷ xs) key), get_or-map key (d ∷ xs) i d x l ∙ e d)

  not_there : (xs : List X) (i : ℕ) → i < length xs → ((d : X) → key (get_or xs i d) ≢ x)
      → get_or (map key xs) i x ≡ x → ⊥
  not_there [] i l n e = absurd (omega (arith, l))
  not_there (d ∷ xs) i l n e = n d (sym (get_or-map key (d ∷ xs) i d x l) ∙ e)

  module _ (xs : List X) (sorted : IsStrictlySortedBy nat_cmp (map key xs)) where
    rises : IsNonDecreasingBy (λ y. ordering_index (nat_cmp (key y) x)) xs
    rises i j d h l = index_rises _ (key (get_or xs j d)) x (⊎_elim (λ below. omega (
      arith,
      get_or-map key xs i d x (omega arith),
      get_or-map key xs j d x l,
      below_from_sorted _ i j x sorted below (omega (arith, l, length-map xs key)),
    ))
        (λ above. let is : i ≡ j = omega arith in omega (arith, ap (λ n. key (get_or xs n d)) is))
        (cases_lt i j))

    pub told : (r : Result ℕ ℕ) → IsSearchInRange r (length xs) → IsBinarySearchResult (λ y. nat_cmp (key y) x) xs r
        → IsTrue (is_ok r) ↔ Contains (map key xs) x
    told (Ok i) within equal = (λ t. there xs i within (λ d. ranked _ x _ (sym (equal d))), λ h. refl)
    told (Err i) within parted = (
      λ t. absurd (true≢false (sym t)),
      λ h.
          let p = parted rises in
          let l : h.0 < length xs = omega (arith, h.1, length-map xs key) in
          absurd (⊎_elim (λ before. not_there xs _ l
          (λ d e. omega (arith, ranked _ x _ (sym (p.0 h.0 d (omega arith) before)), e)) h.2)
          (λ after. not_there xs _ l (λ d e. omega (arith, ranked _ x _ (sym (p.1 h.0 d after l)), e)) h.2)
          (cases_lt h.0 i)),
    )
