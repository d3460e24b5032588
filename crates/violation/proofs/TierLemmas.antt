-- Flags and symbols of the tiers of a list.
use Rattle.std.proofs.Common.{◌≡◌, ◌≢◌, ℕ, zero, suc, ◌<◌, ◌==◌, Bool, true, false, cond, List, [], ◌∷◌, map}
use Rattle.std.proofs.Common.{length, get_or, Contains, refl, sym, ap, ◌∙◌, arith, eq-eqb, ne_eqb, ⊎_elim}
use Rattle.std.proofs.{lemmas.Bool.{cases_eq, false≢true}, lemmas.List.Elements.All-from_recursion}
use Rattle.std.specs.List.{AllByRecursion, list_any}
use Rattle.tier_core.specs.declared.sym.Sym.{Sym}
use Rattle.tier_core.proofs.CountLemmas.{all_weaker}
use Rattle.violation.specs.{Conditions.AreDistinct, Moves.flag_of}

-- functions that agree on each element give one list
pub map_agree : {X Y : Type 0} (f g : X → Y) (xs : List X) → AllByRecursion (λ x. f x ≡ g x) xs → map f xs ≡ map g xs
map_agree f g [] h = refl
map_agree f g (x ∷ xs) h = ap (λ y. y ∷ map f xs) h.0 ∙ ap (λ ys. g x ∷ ys) (map_agree f g xs h.1)

-- an element of a list is its head, or one of the rest
pub contains_cases : (x : ℕ) (xs : List ℕ) (t : ℕ) → x ≢ t → Contains (x ∷ xs) t → Contains xs t
contains_cases x xs t n c = step c.0 c.1 c.2
  where
    step : (k : ℕ) → k < length (x ∷ xs) → get_or (x ∷ xs) k t ≡ t → Contains xs t
    step zero l e = absurd (n e)
    step (suc k) l e = (k, omega arith, e)

pub contains_later : (x : ℕ) (xs : List ℕ) (t : ℕ) → Contains xs t → Contains (x ∷ xs) t
contains_later x xs t c = (suc c.0, omega (arith, c.1), c.2)

-- the flag of a tier by its place in the list
pub flag_at : (xs : List ℕ) (flags : List Bool) (j : ℕ) → AreDistinct xs → j < length xs
    → flag_of xs flags (get_or xs j 0) ≡ get_or flags j false
flag_at [] flags j d l = absurd (omega arith)
flag_at (x ∷ xs) [] j d l = refl
flag_at (x ∷ xs) (f ∷ fs) zero d l = ap (λ b. cond b f (flag_of xs fs x)) (eq-eqb x x refl)
flag_at (x ∷ xs) (f ∷ fs) (suc j) d l =
    ap (λ b. cond b f (flag_of xs fs (get_or xs j 0)))
    (ne_eqb x (get_or xs j 0) (All-from_recursion (λ t. x ≢ t) xs d.0 j 0 (omega arith)))
    ∙ flag_at xs fs j d.1 (omega arith)

-- the flag of one of the tiers, where the flags are told by a function
pub flag_in : (f : ℕ → Bool) (xs : List ℕ) (t : ℕ) → Contains xs t → flag_of xs (map f xs) t ≡ f t
flag_in f [] t c = absurd (omega (arith, c.1))
flag_in f (x ∷ xs) t c =
    ⊎_elim
    (λ e. rw (eq-eqb x t e) (ap f e))
    (λ n. rw (ne_eqb x t n) (flag_in f xs t (contains_cases x xs t n c)))
    (cases_eq x t)

-- another tier has none
pub flag_out : (xs : List ℕ) (flags : List Bool) (t : ℕ) → (Contains xs t → ⊥) → flag_of xs flags t ≡ false
flag_out [] flags t n = refl
flag_out (x ∷ xs) [] t n = refl
flag_out (x ∷ xs) (flag ∷ flags) t n =
    let other : x ≢ t = λ e. n (0, omega arith, e) in
    rw (ne_eqb x t other) (flag_out xs flags t (λ c. n (contains_later x xs t c)))

-- where no flag is set, none is found
pub flag_none : (xs : List ℕ) (flags : List Bool) (t : ℕ) → list_any (λ flag. flag) flags ≡ false
    → flag_of xs flags t ≡ false
flag_none [] flags t h = refl
flag_none (x ∷ xs) [] t h = refl
flag_none (x ∷ xs) (true ∷ flags) t h = absurd (false≢true (sym h))
flag_none (x ∷ xs) (false ∷ flags) t h = choose (x == t) (flag_none xs flags t h)
  where
    choose : (b : Bool) → flag_of xs flags t ≡ false → cond b false (flag_of xs flags t) ≡ false
    choose true r = refl
    choose false r = r

-- the symbol that a tier of a list is given, or another
abbrev pub given : List ℕ → List Sym → Sym → ℕ → Sym
given [] column other t = other
given (x ∷ xs) [] other t = other
given (x ∷ xs) (s ∷ column) other t = cond (x == t) s (given xs column other t)

pub given_out : (xs : List ℕ) (column : List Sym) (other : Sym) (t : ℕ) → (Contains xs t → ⊥)
    → given xs column other t ≡ other
given_out [] column other t n = refl
given_out (x ∷ xs) [] other t n = refl
given_out (x ∷ xs) (s ∷ column) other t n =
    let differ : x ≢ t = λ e. n (0, omega arith, e) in
    rw (ne_eqb x t differ) (given_out xs column other t (λ c. n (contains_later x xs t c)))

-- the tiers of a list have the symbols that they are given
pub given_in : (xs : List ℕ) (column : List Sym) (other : ℕ → Sym) → AreDistinct xs → length xs ≡ length column
    → map (λ t. given xs column (other t) t) xs ≡ column
given_in [] [] other d l = refl
given_in [] (s ∷ column) other d l = absurd (omega arith)
given_in (x ∷ xs) [] other d l = absurd (omega arith)
given_in (x ∷ xs) (s ∷ column) other d l =
    ap (λ y. y ∷ map (λ t. given (x ∷ xs) (s ∷ column) (other t) t) xs)
    (ap (λ b. cond b s (given xs column (other x) x)) (eq-eqb x x refl))
    ∙ ap (λ ys. s ∷ ys)
    (map_agree _ _ xs (all_weaker (λ t. x ≢ t) _ xs
    (λ t n. ap (λ b. cond b s (given xs column (other t) t)) (ne_eqb x t n)) d.0)
    ∙ given_in xs column other d.1 (omega arith))
