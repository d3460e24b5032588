-- What can be gone to from a start, where there are only so many things: it can be listed.
use Rattle.std.proofs.Common.{◌≡◌, ◌≢◌, ℕ, zero, suc, ◌+◌, ◌<◌, ◌⊎◌, inl, inr, List, [], ◌∷◌, length, sym, subst}
use Rattle.std.proofs.Common.{arith, ⊎_elim, Contains}
use Rattle.std.specs.List.{flat_map}
use Rattle.tier_core.proofs.Members.{contains_none, contains_first, contains_later, contains_cases, contains_flat}
use Rattle.tier_core.proofs.{Members.{contains_of_flat, all_from_members}, Differing.{Differ, no_longer}}

module _ {X : Type 0} (same : (x y : X) → (x ≡ y) ⊎ (x ≢ y)) where
  -- a thing is in a list, or is not
  is_in : (xs : List X) (x : X) → Contains xs x ⊎ (Contains xs x → ⊥)
  is_in [] x = inr (contains_none x)
  is_in (y ∷ ys) x = ⊎_elim
      (λ e. inl (subst (Contains (y ∷ ys)) e (contains_first y ys)))
      (λ other. ⊎_elim
      (λ c. inl (contains_later y ys x c))
      (λ none. inr (λ c. ⊎_elim other none (contains_cases y ys x c)))
      (is_in ys x))
      (same y x)

  -- all of a list are in another, or one is not
  all_in : (ys xs : List X) → ((x : X) → Contains xs x → Contains ys x) ⊎
      ((x : X) × (Contains xs x × (Contains ys x → ⊥)))
  all_in ys [] = inl (λ x c. absurd (contains_none x c))
  all_in ys (y ∷ xs) = ⊎_elim
      (λ here. ⊎_elim
      (λ all. inl (λ x c. ⊎_elim (λ e. subst (Contains ys) e here) (all x) (contains_cases y xs x c)))
      (λ one. inr (one.0, (contains_later y xs one.0 one.1.0, one.1.1)))
      (all_in ys xs))
      (λ none. inr (y, (contains_first y xs, none)))
      (is_in ys y)

  module _ (next : X → List X) (Good : X → Type 0) (goes_on : (x y : X) → Good x → Contains (next x) y → Good y)
      (bound : List X) (bounded : (x : X) → Good x → Contains bound x) (start : X) where
    -- a list that has the start and all that its members go on to, each of which is good
    pub record IsClosed (xs : List X) : Type 0 where
      pub good : (x : X) → Contains xs x → Good x
      pub first : Contains xs start
      pub onward : (x y : X) → Contains xs x → Contains (next x) y → Contains xs y

    grow : (fuel : ℕ) (xs : List X) → Differ xs → ((x : X) → Contains xs x → Good x) → Contains xs start
        → length bound < length xs + fuel → (all : List X) × IsClosed all
    grow zero xs d good first l = absurd
        (let few = no_longer bound xs (λ x c. bounded x (good x c)) d in omega (arith, few, l))
    grow (suc fuel) xs d good first l = ⊎_elim
        (λ all. (xs, record { good = good; first = first; onward = λ x y c n. all y (contains_flat next xs x y c n) }))
        (λ one.
        let from = contains_of_flat next xs one.0 one.1.0 in
        grow fuel (one.0 ∷ xs)
        (all_from_members (λ y. one.0 ≢ y) xs (λ y c e. one.1.1 (subst (Contains xs) (sym e) c)), d)
        (λ x c. ⊎_elim (λ e. subst Good e (goes_on from.0 one.0 (good from.0 from.1.0) from.1.1)) (good x)
        (contains_cases one.0 xs x c))
        (contains_later one.0 xs start first)
        (omega arith))
        (all_in xs (flat_map next xs))

    pub closure : Good start → (all : List X) × IsClosed all
    closure g = grow (length bound) (start ∷ []) (tt, tt)
        (λ x c. ⊎_elim (λ e. subst Good e g) (λ none. absurd (contains_none x none)) (contains_cases start [] x c))
        (contains_first start [])
        (omega arith)
