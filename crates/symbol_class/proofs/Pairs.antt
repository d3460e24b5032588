-- Pairs of a list that is rearranged or mapped, and what a sort leaves.
use Rattle.std.proofs.Common.{◌≡◌, ◌≢◌, ℕ, Bool, ◌<◌, List, [], ◌∷◌, map, swap, length, get_or, if◌then◌else◌, ◌==◌}
use Rattle.std.proofs.Common.{refl, ap, sym, ◌∙◌, subst, arith, inl, inr, AllPairs, IsPermutation}
use Rattle.std.proofs.{lemmas.Bool.{cases_order, cases_eq}, lemmas.Bool.Decides.nat_tests}
use Rattle.std.proofs.{lemmas.List.{get_or-map, length-map}, lemmas.List.Edits.{swapped_from_swap, length-swap}}
use Rattle.std.proofs.{lemmas.List.Sorted.IsPermutation-keeps, lemmas.Fn.always_returns_same}
use Rattle.std.specs.{Cmp.IsStrictWeakOrder, Fn.{Called, ComparesAs}, List.Sorted.{IsSortedBy, IsSorted}}
use Rattle.std.specs.{Ordering.is_lt, declared.cmp.Ordering.Ordering}
use denote.Ref.{Bor}
use denote.Param.Members.{Mut}

-- pairs of a mapped list
pub pairs_map : {X Y : Type 0} (R : Y → Y → Type 0) (f : X → Y) (xs : List X) → AllPairs (λ a b. R (f a) (f b)) xs
    → AllPairs R (map f xs)
pairs_map R f [] h = λ i j d less inside. absurd (omega arith)
pairs_map R f (x ∷ xs) h = λ i j d less inside.
    let within : j < length (x ∷ xs) = omega (arith, length-map (x ∷ xs) f) in
    subst (λ b. R (get_or (map f (x ∷ xs)) i d) b) (sym (get_or-map f (x ∷ xs) j x d within))
    (subst (λ a. R a (f (get_or (x ∷ xs) j x))) (sym (get_or-map f (x ∷ xs) i x d (omega arith))) (h i j x less within))

-- and of the list that was mapped
pub pairs_unmap : {X Y : Type 0} (R : Y → Y → Type 0) (f : X → Y) (xs : List X) → AllPairs R (map f xs)
    → AllPairs (λ a b. R (f a) (f b)) xs
pairs_unmap R f xs h = λ i j d less inside.
    subst (λ b. R (f (get_or xs i d)) b) (get_or-map f xs j d (f d) inside)
    (subst (λ a. R a (get_or (map f xs) j (f d))) (get_or-map f xs i d (f d) (omega arith))
    (h i j (f d) less (omega (arith, length-map xs f))))

-- the place from which a swap takes an element
abbrev came_from : ℕ → ℕ → ℕ → ℕ
came_from a b k = if k == a then b else (if k == b then a else k)

came_within : (n a b k : ℕ) → a < n → b < n → k < n → came_from a b k < n
came_within n a b k la lb lk = grind (arith, nat_tests)

came_apart : (a b i j : ℕ) → i < j → came_from a b i ≢ came_from a b j
came_apart a b i j less = grind (arith, nat_tests)

swapped : {X : Type 0} (xs : List X) (a b k : ℕ) (d : X) → a < length xs → b < length xs
    → get_or (swap xs a b) k d ≡ get_or xs (came_from a b k) d
swapped xs a b k d la lb =
    let s = swapped_from_swap xs (swap xs a b) a b d la lb refl in
    elim (cases_eq k a) [
      | inl at_a ↦
          (let to : came_from a b k ≡ b = grind (arith, nat_tests) in
          ap (λ n. get_or (swap xs a b) n d) at_a ∙ s.0 ∙ ap (λ n. get_or xs n d) (sym to))
      | inr not_a ↦
          elim (cases_eq k b) [
            | inl at_b ↦
                (let to : came_from a b k ≡ a = grind (arith, nat_tests) in
                ap (λ n. get_or (swap xs a b) n d) at_b ∙ s.1 ∙ ap (λ n. get_or xs n d) (sym to))
            | inr not_b ↦ (let to : came_from a b k ≡ k = grind (arith, nat_tests) in s.2 k not_a not_b
                ∙ ap (λ n. get_or xs n d) (sym to))
          ]
    ]

-- a relation that goes both ways
module _ {X : Type 0} (R : X → X → Type 0) (turn : (x y : X) → R x y → R y x) where
  pub pairs_apart : (xs : List X) → AllPairs R xs → (i j : ℕ) (d : X) → i ≢ j → i < length xs → j < length xs
      → R (get_or xs i d) (get_or xs j d)
  pairs_apart xs h i j d other li lj = elim (cases_order i j) [
    | inl same ↦ absurd (other same)
    | inr apart ↦ elim apart [
      | inl less ↦ h i j d less lj
      | inr more ↦ turn (get_or xs j d) (get_or xs i d) (h j i d more li)
    ]
  ]

  pairs_swapped : (xs : List X) (a b : ℕ) → a < length xs → b < length xs → AllPairs R xs → AllPairs R (swap xs a b)
  pairs_swapped xs a b la lb h = λ i j d less inside.
      let lj : j < length xs = omega (arith, length-swap xs a b) in
      let li : i < length xs = omega arith in
      subst (λ y. R (get_or (swap xs a b) i d) y) (sym (swapped xs a b j d la lb))
      (subst (λ x. R x (get_or xs (came_from a b j) d)) (sym (swapped xs a b i d la lb))
      (pairs_apart xs h (came_from a b i) (came_from a b j) d (came_apart a b i j less)
      (came_within (length xs) a b i la lb li) (came_within (length xs) a b j la lb lj)))

  pub pairs_permuted : (xs ys : List X) → IsPermutation xs ys → AllPairs R xs → AllPairs R ys
  pairs_permuted xs ys p h = IsPermutation-keeps xs (AllPairs R) h (λ l a b la lb k. pairs_swapped l a b la lb k) ys p

-- what a sort leaves is sorted by what its closure computes
pub sorted_by_closure : {F X : Type 0} {g : Mut F (Bor X × (Bor X × Unit {0})) Ordering} {f : F}
    (cmp : X → X → Ordering) (xs : List X) → IsStrictWeakOrder (λ x y. is_lt (cmp x y))
    → ((lt : X → X → Bool) → IsStrictWeakOrder lt → ComparesAs g lt f → IsSortedBy lt xs)
    → ((a : Bor X × (Bor X × Unit {0})) (r : Ordering) (f' : F) → Called g f a r f'
    → (r ≡ cmp a.0.now a.1.0.now) × (f' ≡ f)) → IsSorted cmp xs
sorted_by_closure {g = g} {f = f} cmp xs weak sorted calls = sorted (λ x y. is_lt (cmp x y)) weak
    (always_returns_same g (λ a r. is_lt r ≡ is_lt (cmp a.0.now a.1.0.now)) f
    (λ a r f' k. (ap is_lt (calls a r f' k).0, (calls a r f' k).1)))
