-- Tests that compute, and what each decides: on lists, on all numbers below one, and on all columns.
use Rattle.std.proofs.Common.{◌≡◌, ℕ, zero, suc, ◌<◌, ◌≤◌, Bool, true, false, not, ◌&&◌, ◌||◌, List, [], ◌∷◌, map}
use Rattle.std.proofs.Common.{length, get_or, refl, sym, ap, ◌∙◌, arith, IsTrue, All, AllPairs, Contains, Decides}
use Rattle.std.proofs.Common.{leb, leb-true, le-leb, Less, Equal, Greater, is_lt}
use Rattle.std.proofs.lemmas.Bool.{false≢true, and_parts, and_from}
use Rattle.std.proofs.lemmas.Bool.Decides.{Decides-and, Decides-like, Decides-at, Decides-by_and, Decides-below_and}
use Rattle.std.proofs.lemmas.List.Elements.{All-contains, Contains-get_or, All-from_recursion, recursion_from_All}
use Rattle.std.proofs.lemmas.List.Folds.{list_all-map, Any-from_list_any, list_any_at}
use Rattle.std.proofs.lemmas.List.Kept.{AllPairs-cons}
use Rattle.std.specs.{List.{list_all, list_any}, List.Sorted.IsStrictlySortedBy, declared.cmp.Ordering.Ordering}
use Rattle.tier_core.specs.{declared.sym.Sym.Sym, declared.sym.Sym.TheVariants.{Outside, Inside, Start, End, Both}}

-- two tests of which the second is made only if the first passes
abbrev pub both : Bool → (Unit {0} → Bool) → Bool
both true test = test tt
both false test = false

abbrev pub implied : Bool → (Unit {0} → Bool) → Bool
implied true test = test tt
implied false test = true

module _ {P Q : Type 0} where
  pub Decides-both : (b : Bool) (test : Unit {0} → Bool) → Decides b P → Decides (test tt) Q
      → Decides (both b test) (P × Q)
  Decides-both true test d k = (λ e. (d.0 refl, k.0 e), λ h. k.1 h.1)
  Decides-both false test d k = (λ e. absurd (false≢true e), λ h. d.1 h.0)

  pub Decides-implied : (b : Bool) (test : Unit {0} → Bool) → Decides b P → Decides (test tt) Q
      → Decides (implied b test) (P → Q)
  Decides-implied true test d k = (λ e p. k.0 e, λ h. k.1 (h (d.0 refl)))
  Decides-implied false test d k = (λ e p. absurd (false≢true (d.1 p)), λ h. refl)

-- a test of one fact is a test of another that is like it
pub Decides-by : {P Q : Type 0} {r : Bool} → Decides r P → (P → Q) → (Q → P) → Decides r Q
Decides-by {r = r} d f g = Decides-like r f g d

pub Decides-leb : (m n : ℕ) → Decides (leb m n) (m ≤ n)
Decides-leb m n = (leb-true m n, le-leb m n)

pub Decides-true : (b : Bool) → Decides b (IsTrue b)
Decides-true b = (λ e. e, λ e. e)

pub Decides-false : (b : Bool) → Decides (not b) (b ≡ false)
Decides-false true = (λ e. sym e, λ e. sym e)
Decides-false false = (λ e. refl, λ e. refl)

pub Decides-less : (o : Ordering) → Decides (is_lt o) (o ≡ Less)
Decides-less Less = (λ e. refl, λ e. refl)
Decides-less Equal = (λ e. absurd (false≢true e), λ e. ap is_lt e)
Decides-less Greater = (λ e. absurd (false≢true e), λ e. ap is_lt e)

-- each element, and some element
module _ {X : Type 0} (p : X → Bool) (P : X → Type 0) (each : (x : X) → Decides (p x) (P x)) where
  pub all_decided : (xs : List X) → Decides (list_all p xs) (All P xs)
  all_decided xs = Decides-by_and p P (list_all p) each refl (λ _ _. refl) xs

  pub each_decided : (xs : List X) → Decides (list_all p xs) ((x : X) → Contains xs x → P x)
  each_decided xs = Decides-by (all_decided xs)
      (λ h x c. All-contains P xs x h c)
      (λ h k d l. h (get_or xs k d) (Contains-get_or xs k d l))

  pub some_decided : (xs : List X) → Decides (list_any p xs) ((x : X) × (Contains xs x × P x))
  some_decided xs = (
    λ e. let a = Any-from_list_any p xs e in (a.1, ((a.0, a.2, a.3), (each a.1).0 a.4)),
    λ w. list_any_at p xs w.1.0.0 w.0 w.1.0.1 (ap p w.1.0.2 ∙ (each w.0).1 w.1.1),
  )

-- the same by what is seen of the elements
module _ {X Y : Type 0} (f : X → Y) (p : Y → Bool) (P : X → Type 0) (each : (x : X) → Decides (p (f x)) (P x)) where
  any_map : (xs : List X) → list_any p (map f xs) ≡ list_any (λ x. p (f x)) xs
  any_map [] = refl
  any_map (x ∷ xs) = ap (λ b. p (f x) || b) (any_map xs)

  pub all_seen : (xs : List X) → Decides (list_all p (map f xs)) (All P xs)
  all_seen xs = Decides-at (list_all p (map f xs)) (list_all (λ x. p (f x)) xs) (list_all-map p f xs)
      (all_decided (λ x. p (f x)) P each xs)

  pub each_seen : (xs : List X) → Decides (list_all p (map f xs)) ((x : X) → Contains xs x → P x)
  each_seen xs = Decides-at (list_all p (map f xs)) (list_all (λ x. p (f x)) xs) (list_all-map p f xs)
      (each_decided (λ x. p (f x)) P each xs)

  pub some_seen : (xs : List X) → Decides (list_any p (map f xs)) ((x : X) × (Contains xs x × P x))
  some_seen xs = Decides-at (list_any p (map f xs)) (list_any (λ x. p (f x)) xs) (any_map xs)
      (some_decided (λ x. p (f x)) P each xs)

-- each element with each later one
abbrev pub pairs_pass : {X : Type 0} → (X → X → Bool) → List X → Bool
pairs_pass test [] = true
pairs_pass test (x ∷ xs) = list_all (test x) xs && pairs_pass test xs

module _ {X Y : Type 0} (f : X → Y) (test : Y → Y → Bool) (R : X → X → Type 0)
    (each : (x y : X) → Decides (test (f x) (f y)) (R x y)) where
  pub pairs_seen : (xs : List X) → Decides (pairs_pass test (map f xs)) (AllPairs R xs)
  pairs_seen [] = (λ e i j d l w. absurd (omega arith), λ h. refl)
  pairs_seen (x ∷ xs) =
      Decides-by (Decides-and (list_all (test (f x)) (map f xs)) (pairs_pass test (map f xs))
      (all_seen f (test (f x)) (R x) (each x) xs) (pairs_seen xs))
      (λ h. AllPairs-cons R x xs h.0 h.1)
      (λ a. (
        λ k d l. a 0 (suc k) d (omega arith) (omega arith),
        λ i j d l w. a (suc i) (suc j) d (omega arith) (omega arith),
      ))

-- the elements ascend strictly
abbrev pub ascends : {X : Type 0} → (X → X → Ordering) → List X → Bool
ascends cmp xs = pairs_pass (λ x y. is_lt (cmp x y)) xs

pub Decides-ascends : {X : Type 0} (cmp : X → X → Ordering) (xs : List X)
    → Decides (ascends cmp xs) (IsStrictlySortedBy cmp xs)
unfolding IsStrictlySortedBy
Decides-ascends cmp [] = (λ e. tt, λ h. refl)
Decides-ascends cmp (x ∷ xs) =
    Decides-by (Decides-and (list_all (λ y. is_lt (cmp x y)) xs) (ascends cmp xs)
    (all_decided (λ y. is_lt (cmp x y)) (λ y. cmp x y ≡ Less) (λ y. Decides-less (cmp x y)) xs)
    (Decides-ascends cmp xs))
    (λ h. (recursion_from_All (λ y. cmp x y ≡ Less) xs h.0, h.1))
    (λ s. (All-from_recursion (λ y. cmp x y ≡ Less) xs s.0, s.1))

-- each number below n
abbrev pub below : ℕ → (ℕ → Bool) → Bool
below zero test = true
below (suc n) test = test n && below n test

pub Decides-below : (test : ℕ → Bool) (P : ℕ → Type 0) → ((k : ℕ) → Decides (test k) (P k)) → (n : ℕ)
    → Decides (below n test) ((k : ℕ) → k < n → P k)
Decides-below test P each n = Decides-below_and test P (λ m. below m test) each refl (λ _. refl) n

-- each symbol, and each column of so many symbols
abbrev pub every_symbol : (Sym → Bool) → Bool
every_symbol test = test Outside && (test Inside && (test Start && (test End && test Both)))

abbrev pub every_column : ℕ → (List Sym → Bool) → Bool
every_column zero test = test []
every_column (suc n) test = every_symbol (λ s. every_column n (λ column. test (s ∷ column)))

module _ (test : Sym → Bool) (h : every_symbol test ≡ true) where
  second : (test Inside && (test Start && (test End && test Both))) ≡ true
  second = (and_parts (test Outside) (test Inside && (test Start && (test End && test Both))) h).1

  third : (test Start && (test End && test Both)) ≡ true
  third = (and_parts (test Inside) (test Start && (test End && test Both)) second).1

  fourth : (test End && test Both) ≡ true
  fourth = (and_parts (test Start) (test End && test Both) third).1

  symbol_passes : (s : Sym) → test s ≡ true
  symbol_passes Outside = (and_parts (test Outside) (test Inside && (test Start && (test End && test Both))) h).0
  symbol_passes Inside = (and_parts (test Inside) (test Start && (test End && test Both)) second).0
  symbol_passes Start = (and_parts (test Start) (test End && test Both) third).0
  symbol_passes End = (and_parts (test End) (test Both) fourth).0
  symbol_passes Both = (and_parts (test End) (test Both) fourth).1

symbols_pass : (test : Sym → Bool) → ((s : Sym) → test s ≡ true) → every_symbol test ≡ true
symbols_pass test h =
    and_from _ _ (h Outside) (and_from _ _ (h Inside) (and_from _ _ (h Start) (and_from _ _ (h End) (h Both))))

column_passes : (n : ℕ) (test : List Sym → Bool) → every_column n test ≡ true → (column : List Sym)
    → length column ≡ n → test column ≡ true
column_passes zero test h [] e = h
column_passes zero test h (s ∷ column) e = absurd (omega (arith, e))
column_passes (suc n) test h [] e = absurd (omega (arith, e))
column_passes (suc n) test h (s ∷ column) e =
    column_passes n (λ c. test (s ∷ c)) (symbol_passes (λ z. every_column n (λ c. test (z ∷ c))) h s) column
    (omega (arith, e))

columns_pass : (n : ℕ) (test : List Sym → Bool) → ((column : List Sym) → length column ≡ n → test column ≡ true)
    → every_column n test ≡ true
columns_pass zero test h = h [] refl
columns_pass (suc n) test h =
    symbols_pass (λ z. every_column n (λ c. test (z ∷ c)))
    (λ z. columns_pass n (λ c. test (z ∷ c)) (λ column e. h (z ∷ column) (omega (arith, e))))

pub Decides-columns : (n : ℕ) (test : List Sym → Bool) (P : List Sym → Type 0)
    → ((column : List Sym) → Decides (test column) (P column))
    → Decides (every_column n test) ((column : List Sym) → length column ≡ n → P column)
Decides-columns n test P each = (
  λ e column l. (each column).0 (column_passes n test e column l),
  λ h. columns_pass n test (λ column l. (each column).1 (h column l)),
)
