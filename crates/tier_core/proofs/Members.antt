-- Members of lists and of lists that are made of lists, and what holds of each.
use Rattle.std.proofs.Common.{◌≡◌, ◌⊎◌, ℕ, zero, suc, ◌<◌, Bool, true, false, cond, List, [], ◌∷◌, map, filter}
use Rattle.std.proofs.Common.{take, length, get_or, refl, ap, sym, ◌∙◌, subst, arith, ⊎_elim, All, Contains}
use Rattle.std.proofs.{Math.Logic.⊎_map, lemmas.Bool.false≢true, lemmas.List.{get_or-map, length-map}}
use Rattle.std.proofs.lemmas.List.Elements.{Contains-get_or, Contains-append_left, Contains-append_right}
use Rattle.std.proofs.lemmas.List.Elements.{Contains-append_cases, Contains-push_cases}
use Rattle.std.specs.List.{flat_map, AllByRecursion}

pub contains_none : {X : Type 0} (x : X) → Contains [] x → ⊥
contains_none x h = absurd (omega (arith, h.1))

pub contains_first : {X : Type 0} (x : X) (xs : List X) → Contains (x ∷ xs) x
contains_first x xs = (0, omega arith, refl)

pub contains_later : {X : Type 0} (y : X) (xs : List X) (x : X) → Contains xs x → Contains (y ∷ xs) x
contains_later y xs x h = Contains-append_right (y ∷ []) xs x h

pub contains_cases : {X : Type 0} (y : X) (xs : List X) (x : X) → Contains (y ∷ xs) x → (y ≡ x) ⊎ Contains xs x
contains_cases y xs x h = ⊎_map (λ a. ⊎_elim (λ n. absurd (contains_none x n)) (λ e. e)
    (Contains-push_cases [] y x a)) (λ b. b) (Contains-append_cases (y ∷ []) xs x h)

pub contains_one : {X : Type 0} (y x : X) → Contains (y ∷ []) x → y ≡ x
contains_one y x h = ⊎_elim (λ e. e) (λ n. absurd (contains_none x n)) (contains_cases y [] x h)

pub contains_flat : {X Y : Type 0} (f : X → List Y) (xs : List X) (x : X) (y : Y) → Contains xs x → Contains (f x) y
    → Contains (flat_map f xs) y
contains_flat f [] x y h m = absurd (contains_none x h)
contains_flat f (z ∷ zs) x y h m = ⊎_elim
    (λ e. Contains-append_left (f z) (flat_map f zs) y (subst (λ w. Contains (f w) y) (sym e) m))
    (λ n. Contains-append_right (f z) (flat_map f zs) y (contains_flat f zs x y n m)) (contains_cases z zs x h)

pub contains_of_flat : {X Y : Type 0} (f : X → List Y) (xs : List X) (y : Y) → Contains (flat_map f xs) y
    → (x : X) × (Contains xs x × Contains (f x) y)
contains_of_flat f [] y h = absurd (contains_none y h)
contains_of_flat f (z ∷ zs) y h = ⊎_elim (λ m. (z, (contains_first z zs, m)))
    (λ n. let r = contains_of_flat f zs y n in (r.0, (contains_later z zs r.0 r.1.0, r.1.1)))
    (Contains-append_cases (f z) (flat_map f zs) y h)

pub contains_kept : {X : Type 0} (p : X → Bool) (xs : List X) (x : X) → Contains xs x → p x ≡ true
    → Contains (filter p xs) x
contains_kept p [] x h t = absurd (contains_none x h)
contains_kept p (y ∷ ys) x h t = go (λ m. contains_kept p ys x m t) (p y) refl
  where
    go : (Contains ys x → Contains (filter p ys) x) → (b : Bool) → p y ≡ b
        → Contains (cond b (y ∷ filter p ys) (filter p ys)) x
    go more true e = ⊎_elim (λ s. subst (λ z. Contains (y ∷ filter p ys) z) s (contains_first y (filter p ys)))
        (λ m. contains_later y (filter p ys) x (more m)) (contains_cases y ys x h)
    go more false e = ⊎_elim (λ s. absurd (false≢true (sym e ∙ ap p s ∙ t))) more (contains_cases y ys x h)

pub contains_of_kept : {X : Type 0} (p : X → Bool) (xs : List X) (x : X) → Contains (filter p xs) x
    → Contains xs x × (p x ≡ true)
contains_of_kept p [] x h = absurd (contains_none x h)
contains_of_kept p (y ∷ ys) x h = go (contains_of_kept p ys x) (p y) refl h
  where
    go : (Contains (filter p ys) x → Contains ys x × (p x ≡ true)) → (b : Bool) → p y ≡ b
        → Contains (cond b (y ∷ filter p ys) (filter p ys)) x → Contains (y ∷ ys) x × (p x ≡ true)
    go more true e m = ⊎_elim (λ s. (subst (λ z. Contains (y ∷ ys) z) s (contains_first y ys), ap p (sym s) ∙ e))
        (λ n. let r = more n in (contains_later y ys x r.0, r.1)) (contains_cases y (filter p ys) x m)
    go more false e m = let r = more m in (contains_later y ys x r.0, r.1)

pub contains_map : {X Y : Type 0} (f : X → Y) (xs : List X) (x : X) → Contains xs x → Contains (map f xs) (f x)
contains_map f xs x h = (h.0, omega (arith, length-map xs f, h.1), get_or-map f xs h.0 x (f x) h.1 ∙ ap f h.2)

pub contains_of_map : {X Y : Type 0} (f : X → Y) (xs : List X) (y : Y) → Contains (map f xs) y
    → (x : X) × (Contains xs x × (f x ≡ y))
contains_of_map f [] y h = absurd (omega (arith, h.1))
contains_of_map f (x ∷ xs) y h =
    let inside : h.0 < length (x ∷ xs) = omega (arith, length-map (x ∷ xs) f, h.1) in
    (get_or (x ∷ xs) h.0 x, (Contains-get_or (x ∷ xs) h.0 x inside, sym (get_or-map f (x ∷ xs) h.0 x y inside) ∙ h.2))

-- ---- what holds of each

-- what holds of each member
pub all_from_members : {X : Type 0} (P : X → Type 0) (xs : List X) → ((x : X) → Contains xs x → P x)
    → AllByRecursion P xs
all_from_members P [] h = tt
all_from_members P (x ∷ xs) h = (
  h x (contains_first x xs),
  all_from_members P xs (λ y m. h y (contains_later x xs y m)),
)

pub all_at_member : {X : Type 0} (P : X → Type 0) (xs : List X) (x : X) → AllByRecursion P xs → Contains xs x → P x
all_at_member P [] x a h = absurd (contains_none x h)
all_at_member P (y ∷ ys) x a h = ⊎_elim (λ e. subst P e a.0) (λ m. all_at_member P ys x a.1 m) (contains_cases y ys x h)

pub All-from_members : {X : Type 0} (P : X → Type 0) (xs : List X) → ((x : X) → Contains xs x → P x) → All P xs
All-from_members P xs h = λ k d l. h (get_or xs k d) (Contains-get_or xs k d l)

pub all_both : {X : Type 0} (P Q : X → Type 0) (xs : List X) → AllByRecursion P xs → AllByRecursion Q xs
    → AllByRecursion (λ x. P x × Q x) xs
all_both P Q [] a b = tt
all_both P Q (x ∷ xs) a b = ((a.0, b.0), all_both P Q xs a.1 b.1)

-- what holds of each holds of the first that pass a test
pub all_first : {X : Type 0} (P : X → Type 0) (test : X → Bool) (xs : List X) (n : ℕ) → AllByRecursion P xs
    → AllByRecursion P (filter test (take n xs))
all_first P test xs zero h = tt
all_first P test [] (suc n) h = tt
all_first P test (x ∷ xs) (suc n) h = own (test x) (all_first P test xs n h.1)
  where
    own : (b : Bool) → AllByRecursion P (filter test (take n xs))
        → AllByRecursion P (cond b (x ∷ filter test (take n xs)) (filter test (take n xs)))
    own true r = (h.0, r)
    own false r = r
