-- A list without repeats whose members are in another list is no longer than that.
use Rattle.std.proofs.Common.{◌≡◌, ◌≢◌, ℕ, zero, suc, ◌<◌, ◌≤◌, false, List, [], ◌∷◌, length, get_or, refl, sym, ap}
use Rattle.std.proofs.{Common.{◌∙◌, arith, ne_eqb, eqb, Contains}, lemmas.Bool.eqb-true, lemmas.List.get_or_default}
use Rattle.std.proofs.lemmas.List.Elements.{All-from_recursion, recursion_from_All}
use Rattle.std.proofs.{lemmas.Map.Steps.length-le_from_distinct_below, lemmas.Map.Views.Contains-from_any}
use Rattle.std.specs.List.{AllByRecursion, AllPairs, IsDistinct}
use Rattle.tier_core.proofs.Members.{all_from_members, all_at_member}

-- no member is the same as a later one
abbrev pub Differ : {X : Type 0} → List X → Type 0
Differ [] = Unit {0}
Differ (x ∷ xs) = AllByRecursion (λ y. x ≢ y) xs × Differ xs

pub differ_from_pairs : {X : Type 0} (xs : List X) → AllPairs (λ x y. x ≢ y) xs → Differ xs
differ_from_pairs [] h = tt
differ_from_pairs (x ∷ xs) h = (
  recursion_from_All (λ y. x ≢ y) xs (λ k d l. h 0 (suc k) d (omega arith) (omega (arith, l))),
  differ_from_pairs xs (λ i j d l m. h (suc i) (suc j) d (omega (arith, l)) (omega (arith, m))),
)

pub pairs_from_differ : {X : Type 0} (xs : List X) → Differ xs → AllPairs (λ x y. x ≢ y) xs
pairs_from_differ [] d i j x l m = absurd (omega (arith, m))
pairs_from_differ (y ∷ ys) d i zero x l m = absurd (omega (arith, l))
pairs_from_differ (y ∷ ys) d zero (suc j) x l m = All-from_recursion (λ z. y ≢ z) ys d.0 j x (omega (arith, m))
pairs_from_differ (y ∷ ys) d (suc i) (suc j) x l m =
    pairs_from_differ ys d.1 i j x (omega (arith, l)) (omega (arith, m))

module _ {X : Type 0} (ys : List X) where
  -- where the members of a list stand in ys
  abbrev places : (xs : List X) → AllByRecursion (Contains ys) xs → List ℕ
  places [] h = []
  places (x ∷ xs) h = h.0.0 ∷ places xs h.1

  place_count : (xs : List X) (h : AllByRecursion (Contains ys) xs) → length (places xs h) ≡ length xs
  place_count [] h = refl
  place_count (x ∷ xs) h = ap (λ n. suc n) (place_count xs h.1)

  places_below : (xs : List X) (h : AllByRecursion (Contains ys) xs)
      → AllByRecursion (λ n. n < length ys) (places xs h)
  places_below [] h = tt
  places_below (x ∷ xs) h = (h.0.1, places_below xs h.1)

  -- another member stands elsewhere
  places_other : (x : X) (c : Contains ys x) (xs : List X) (h : AllByRecursion (Contains ys) xs)
      → AllByRecursion (λ y. x ≢ y) xs → AllByRecursion (λ n. eqb c.0 n ≡ false) (places xs h)
  places_other x c [] h d = tt
  places_other x c (y ∷ xs) h d = (
    ne_eqb c.0 h.0.0 (λ e. d.0 (sym c.2 ∙ get_or_default ys c.0 x y c.1 ∙ ap (λ i. get_or ys i y) e ∙ h.0.2)),
    places_other x c xs h.1 d.1,
  )

  places_differ : (xs : List X) (h : AllByRecursion (Contains ys) xs) → Differ xs → IsDistinct eqb (places xs h)
  unfolding IsDistinct
  places_differ [] h d = tt
  places_differ (x ∷ xs) h d = (places_other x h.0 xs h.1 d.0, places_differ xs h.1 d.1)

  pub no_longer : (xs : List X) → ((x : X) → Contains xs x → Contains ys x) → Differ xs → length xs ≤ length ys
  no_longer xs inside d =
      let h : AllByRecursion (Contains ys) xs = all_from_members (Contains ys) xs inside in
      let few : length (places xs h) ≤ length ys =
      length-le_from_distinct_below (places xs h) (length ys) (places_differ xs h d)
      (λ q e. all_at_member (λ n. n < length ys) (places xs h) q (places_below xs h)
      (Contains-from_any (λ x y h. eqb-true x y h) q (places xs h) e)) in
      omega (arith, few, place_count xs h)
