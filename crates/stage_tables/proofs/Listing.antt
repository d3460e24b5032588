-- What is listed by number.
use Rattle.std.proofs.Common.{◌≡◌, ℕ, zero, suc, ◌<◌, ◌≤◌, List, [], ◌∷◌, ◌++◌, Option, Some, None, map, length}
use Rattle.std.proofs.Common.{get_or, refl, ap, sym, ◌∙◌, arith, ◌⊎◌, inl, inr}
use Rattle.std.proofs.lemmas.Option.{get_or_from_slice_get, same_Some}
use Rattle.std.specs.Prelude.{slice_get}
use Rattle.tier_core.specs.declared.kind.Kind.{Kind}
use Rattle.stage_tables.specs.Listed.{IsAt}

pub get_left : {X : Type 0} (xs ys : List X) (k : ℕ) (x : X) → slice_get xs k ≡ Some x → slice_get (xs ++ ys) k ≡ Some x
get_left [] ys k x e = absurd (let no = e in cc)
get_left (a ∷ xs) ys zero x e = e
get_left (a ∷ xs) ys (suc k) x e = get_left xs ys k x e

-- an element of a list with one more is one of the list, or the last
pub get_cases : {X : Type 0} (xs : List X) (last : X) (k : ℕ) (x : X) → slice_get (xs ++ last ∷ []) k ≡ Some x
    → (slice_get xs k ≡ Some x) ⊎ ((k ≡ length xs) × (last ≡ x))
get_cases [] last zero x e = inr (refl, cc)
get_cases [] last (suc k) x e = absurd (let no = e in cc)
get_cases (a ∷ xs) last zero x e = inl e
get_cases (a ∷ xs) last (suc k) x e = elim
    (get_cases xs last k x e) [ inl h ↦ inl h | inr h ↦ inr (ap (λ n. suc n) h.0, h.1) ]

-- there is an element at each place
pub get_some : {X : Type 0} (xs : List X) (k : ℕ) → k < length xs → (x : X) × (slice_get xs k ≡ Some x)
get_some [] k l = absurd (omega arith)
get_some (x ∷ xs) zero l = (x, refl)
get_some (x ∷ xs) (suc k) l = get_some xs k (omega arith)

pub get_map : {X Y : Type 0} (f : X → Y) (xs : List X) (k : ℕ) (x : X) → slice_get xs k ≡ Some x
    → slice_get (map f xs) k ≡ Some (f x)
get_map f [] k x e = absurd (let no = e in cc)
get_map f (a ∷ xs) zero x e = (let same : a ≡ x = cc in ap (λ y. Some (f y)) same)
get_map f (a ∷ xs) (suc k) x e = get_map f xs k x e

pub get_or_map : {X Y : Type 0} (f : X → Y) (xs : List X) (k : ℕ) (x : X) (d : Y) → slice_get xs k ≡ Some x
    → get_or (map f xs) k d ≡ f x
get_or_map f xs k x d e = get_or_from_slice_get _ k _ d (get_map f xs k x e)

-- there is a kind over a state at each number
pub at_number : (entries : List (Kind × ℕ)) (k : ℕ) → k < length entries
    → (kind : Kind) × (s : ℕ) × IsAt entries k kind s
at_number entries k l = (let entry = get_some _ k l in (entry.0.0, entry.0.1, entry.1))

-- what is listed where one more is put last
pub at_cases : (entries : List (Kind × ℕ)) (last : Kind) (t k : ℕ) (kind : Kind) (s : ℕ)
    → IsAt (entries ++ (last, t) ∷ []) k kind s → IsAt entries k kind s ⊎ ((last ≡ kind) × (t ≡ s))
at_cases entries last t k kind s at = elim (get_cases _ _ k _ at) [
  | inl was ↦ inl was
  | inr here ↦ inr (ap (λ e. e.0) here.1, ap (λ e. e.1) here.1)
]

-- the kind and the state of a number
pub same_at : (entries : List (Kind × ℕ)) (k : ℕ) (a b : Kind) (s t : ℕ) → IsAt entries k a s → IsAt entries k b t
    → (a ≡ b) × (s ≡ t)
same_at entries k a b s t at_a at_b =
    let same = same_Some (a, s) (b, t) (sym at_a ∙ at_b) in
    (ap (λ e. e.0) same, ap (λ e. e.1) same)

-- what is found at a number
pub at_found : (entries : List (Kind × ℕ)) (n k : ℕ) (found : Option (Kind × ℕ)) (kind : Kind) (s : ℕ)
    → found ≡ slice_get entries n → found ≡ Some (kind, s) → n ≡ k → IsAt entries k kind s
at_found entries n k found kind s looked some same =
    ap (slice_get entries) (sym same) ∙ sym looked ∙ some

-- where none is found there are no more
pub none_found : (entries : List (Kind × ℕ)) (n : ℕ) → slice_get entries n ≡ None → length entries ≤ n
none_found [] n none = omega arith
none_found (e ∷ entries) zero none = absurd (let some = none in cc)
none_found (e ∷ entries) (suc n) none = let l = none_found entries n none in omega arith
