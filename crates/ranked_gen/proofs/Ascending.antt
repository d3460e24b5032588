-- Lists that ascend strictly.
use Rattle.std.proofs.Common.{◌≡◌, ℕ, zero, suc, ◌+◌, ◌-◌, ◌<◌, Bool, true, false, cond, List, [], ◌∷◌, ◌++◌, map}
use Rattle.std.proofs.{Common.{filter, ap, sym, ◌∙◌, arith, ⊎_elim, Contains}, lemmas.Cmp.ranked}
use Rattle.std.proofs.lemmas.List.Elements.{Contains-append_cases}
use Rattle.std.specs.{List.{flat_map, AllByRecursion, range_with_len}, List.Sorted.IsStrictlySortedBy}
use Rattle.std.specs.{Ordering.nat_cmp, Cmp.nat_cmp_is, declared.cmp.Ordering.Ordering}
use Rattle.std.specs.declared.cmp.Ordering.TheVariants.{Less}
use Rattle.tier_core.proofs.Members.{contains_of_map, all_from_members, all_at_member, contains_of_flat}
use Rattle.tier_core.proofs.{Members.{contains_of_kept, contains_first, contains_later}, RangeMembers.in_range}

-- each element is below all that follow it
abbrev pub Ascends : {X : Type 0} → (X → X → Ordering) → List X → Type 0
Ascends c [] = Unit {0}
Ascends c (x ∷ xs) = AllByRecursion (λ y. c x y ≡ Less) xs × Ascends c xs

pub sorted_from : {X : Type 0} (c : X → X → Ordering) (xs : List X) → Ascends c xs → IsStrictlySortedBy c xs
unfolding IsStrictlySortedBy
sorted_from c [] a = tt
sorted_from c (x ∷ xs) a = (a.0, sorted_from c xs a.1)

pub ascends_from : {X : Type 0} (c : X → X → Ordering) (xs : List X) → IsStrictlySortedBy c xs → Ascends c xs
unfolding IsStrictlySortedBy
ascends_from c [] a = tt
ascends_from c (x ∷ xs) a = (a.0, ascends_from c xs a.1)

pub ascends_append : {X : Type 0} (c : X → X → Ordering) (xs ys : List X) → Ascends c xs → Ascends c ys
    → ((x y : X) → Contains xs x → Contains ys y → c x y ≡ Less) → Ascends c (xs ++ ys)
ascends_append c [] ys a b across = b
ascends_append c (x ∷ xs) ys a b across = (
  all_from_members (λ y. c x y ≡ Less) (xs ++ ys)
      (λ y m. ⊎_elim (λ l. all_at_member (λ z. c x z ≡ Less) xs y a.0 l) (λ r. across x y (contains_first x xs) r)
      (Contains-append_cases xs ys y m)),
  ascends_append c xs ys a.1 b (λ z y m n. across z y (contains_later x xs z m) n),
)

pub ascends_flat : {X Y : Type 0} (c : Y → Y → Ordering) (d : X → X → Ordering) (f : X → List Y) (xs : List X)
    → ((x : X) → Ascends c (f x)) → Ascends d xs
    → ((x z : X) (y w : Y) → d x z ≡ Less → Contains (f x) y → Contains (f z) w → c y w ≡ Less)
    → Ascends c (flat_map f xs)
ascends_flat c d f [] each a across = tt
ascends_flat c d f (x ∷ xs) each a across = ascends_append c (f x) (flat_map f xs) (each x)
    (ascends_flat c d f xs each a.1 across)
    (λ y w m n. let r = contains_of_flat f xs w n in across x r.0 y w
    (all_at_member (λ z. d x z ≡ Less) xs r.0 a.0 r.1.0) m r.1.1)

pub ascends_map : {X Y : Type 0} (c : Y → Y → Ordering) (d : X → X → Ordering) (f : X → Y) (xs : List X)
    → ((x z : X) → d x z ≡ Less → c (f x) (f z) ≡ Less) → Ascends d xs → Ascends c (map f xs)
ascends_map c d f [] keeps a = tt
ascends_map c d f (x ∷ xs) keeps a = (
  all_from_members (λ y. c (f x) y ≡ Less) (map f xs)
      (λ y m. let r = contains_of_map f xs y m in ap (c (f x)) (sym r.1.1)
      ∙ keeps x r.0 (all_at_member (λ z. d x z ≡ Less) xs r.0 a.0 r.1.0)),
  ascends_map c d f xs keeps a.1,
)

pub ascends_kept : {X : Type 0} (c : X → X → Ordering) (p : X → Bool) (xs : List X) → Ascends c xs
    → Ascends c (filter p xs)
ascends_kept c p [] a = tt
ascends_kept c p (x ∷ xs) a = go (p x) (ascends_kept c p xs a.1)
  where
    go : (b : Bool) → Ascends c (filter p xs) → Ascends c (cond b (x ∷ filter p xs) (filter p xs))
    go true more = (
      all_from_members (λ y. c x y ≡ Less) (filter p xs)
          (λ y m. all_at_member (λ z. c x z ≡ Less) xs y a.0 (contains_of_kept p xs y m).0),
      more,
    )
    go false more = more

pub ascends_range : (m n : ℕ) → Ascends nat_cmp (range_with_len m n)
ascends_range m zero = tt
ascends_range m (suc n) = (
  all_from_members (λ y. nat_cmp m y ≡ Less) (range_with_len (m + 1) n)
      (λ y h. let r = in_range (m + 1) n y h in sym (nat_cmp_is m y Less (omega (arith, r.0)))),
  ascends_range (m + 1) n,
)

-- numbers by their order
pub nat_less : (a b : ℕ) → nat_cmp a b ≡ Less → a < b
nat_less a b e = ranked a b Less (sym e)
