-- Lists whose elements are seen as the same, one by one.
use Rattle.std.proofs.Common.{◌≡◌, ℕ, List, map, refl, ap, sym, ◌∙◌, Contains, slice_get, Some, None, Option}
use Rattle.std.proofs.lemmas.Option.{slice_get-map}
use Rattle.std.specs.Option.{option_map}
use Rattle.tier_core.proofs.Members.{contains_map, contains_of_map}

some_of : {X V : Type 0} (f : X → V) (o : Option X) (v : V) → option_map f o ≡ Some v
    → (y : X) × ((o ≡ Some y) × (f y ≡ v))
some_of f None v e = cc
some_of f (Some y) v e = (y, (refl, cc))

module _ {X V : Type 0} (f : X → V) (xs ys : List X) (same : map f xs ≡ map f ys) where
  -- the element of the same number
  pub at_number : (n : ℕ) (x : X) → slice_get xs n ≡ Some x
      → (y : X) × ((slice_get ys n ≡ Some y) × (f y ≡ f x))
  at_number n x h = some_of f _ _
      (sym (slice_get-map f ys n) ∙ ap (λ vs. slice_get vs n) (sym same) ∙ slice_get-map f xs n ∙ ap (option_map f) h)

  -- an element that is seen as the same
  pub member : (x : X) → Contains xs x → (y : X) × (Contains ys y × (f y ≡ f x))
  member x h = contains_of_map f ys _ (rw same at (contains_map f xs x h))
