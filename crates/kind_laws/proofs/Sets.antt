-- Tests of all and of some elements see a list as a set.
use Rattle.std.proofs.Common.{◌≡◌, ◌↔◌, ℕ, zero, suc, ◌<◌, Bool, true, false, not, ◌&&◌, ◌||◌, List, [], ◌∷◌}
use Rattle.std.proofs.Common.{length, get_or, Contains, refl, sym, ap, ◌∙◌, arith}
use Rattle.std.proofs.lemmas.Bool.{and_parts, and_from}
use Rattle.std.specs.List.{list_all, list_any}
use Rattle.tier_core.proofs.Members.{contains_first, contains_later}

abbrev pub HasSame : {X : Type 0} → List X → List X → Type 0
HasSame {X} xs ys = (x : X) → Contains xs x ↔ Contains ys x

pub one_of : {X : Type 0} (y : X) (xs : List X) (x : X) (P : Type 0) → (y ≡ x → P) → (Contains xs x → P)
    → Contains (y ∷ xs) x → P
one_of y xs x P h r c = step c.0 c.1 c.2
  where
    step : (k : ℕ) → k < length (y ∷ xs) → get_or (y ∷ xs) k x ≡ x → P
    step zero l e = h e
    step (suc k) l e = r (k, omega arith, e)

all_of : {X : Type 0} (f : X → Bool) (xs : List X) (x : X) → list_all f xs ≡ true → Contains xs x → f x ≡ true
all_of f [] x h c = absurd (omega (arith, c.1))
all_of f (y ∷ xs) x h c =
    let parts = and_parts (f y) (list_all f xs) h in
    one_of y xs x (f x ≡ true) (λ e. sym (ap f e) ∙ parts.0) (λ d. all_of f xs x parts.1 d) c

all_from : {X : Type 0} (f : X → Bool) (xs : List X) → ((x : X) → Contains xs x → f x ≡ true)
    → list_all f xs ≡ true
all_from f [] h = refl
all_from f (y ∷ xs) h =
    and_from (f y) (list_all f xs) (h y (contains_first y xs)) (all_from f xs (λ x c. h x (contains_later y xs x c)))

both_ways : (a b : Bool) → (a ≡ true → b ≡ true) → (b ≡ true → a ≡ true) → a ≡ b
both_ways true true h k = refl
both_ways true false h k = sym (h refl)
both_ways false true h k = k refl
both_ways false false h k = refl

pub same_all : {X : Type 0} (f : X → Bool) (xs ys : List X) → HasSame xs ys → list_all f xs ≡ list_all f ys
same_all f xs ys same =
    both_ways (list_all f xs) (list_all f ys)
    (λ h. all_from f ys (λ x c. all_of f xs x h ((same x).1 c)))
    (λ h. all_from f xs (λ x c. all_of f ys x h ((same x).0 c)))

not_all : {X : Type 0} (f : X → Bool) (xs : List X) → list_any f xs ≡ not (list_all (λ x. not (f x)) xs)
not_all f [] = refl
not_all f (x ∷ xs) = ap (λ b. f x || b) (not_all f xs) ∙ step (f x) (list_all (λ x. not (f x)) xs)
  where
    step : (a b : Bool) → (a || not b) ≡ not (not a && b)
    step true b = refl
    step false b = refl

pub same_any : {X : Type 0} (f : X → Bool) (xs ys : List X) → HasSame xs ys → list_any f xs ≡ list_any f ys
same_any f xs ys same =
    not_all f xs ∙ ap not (same_all (λ x. not (f x)) xs ys same) ∙ sym (not_all f ys)
