-- Sets of symbols that are met, united or turned around, and lists of sets in which one is replaced.
use Rattle.std.proofs.Common.{◌≡◌, ℕ, zero, suc, ◌-◌, ◌^◌, ◌<◌, ◌==◌, min, Bool, true, false, not, ◌&&◌, ◌||◌, List}
use Rattle.std.proofs.Common.{[], ◌∷◌, length, get_or, set, bit_and, bit_or, w8, refl, ap, sym, ◌∙◌, arith}
use Rattle.std.proofs.lemmas.List.{set-get_or, set-set}
use Rattle.std.proofs.lemmas.Nat.Bits.{bit_at_and, bit_at_or, bit_at_not, bit_at-lt}
use Rattle.std.specs.Int.{bit_at, bit_not}
use Rattle.tier_core.specs.{declared.sym.Sym.Sym, declared.sym.Sym.TheVariants.{Outside, Inside, Start, End, Both}}
use Rattle.tier_core.specs.{Symbols.rank, Sets.is_in, Classes.sets_have, Timelines.symbol}
use Rattle.tier_core.proofs.{Bools.and_grouped, KnownSets.in_all, MaskBits.most_one}

-- ---- one set

least_one : (p q : ℕ) → p < 2 → q < 2 → (min p q == 1) ≡ ((p == 1) && (q == 1))
least_one zero zero lp lq = refl
least_one zero (suc zero) lp lq = refl
least_one zero (suc (suc q)) lp lq = absurd (omega arith)
least_one (suc zero) zero lp lq = refl
least_one (suc zero) (suc zero) lp lq = refl
least_one (suc zero) (suc (suc q)) lp lq = absurd (omega arith)
least_one (suc (suc p)) q lp lq = absurd (omega arith)

turned_one : (p : ℕ) → p < 2 → (1 - p == 1) ≡ not (p == 1)
turned_one zero l = refl
turned_one (suc zero) l = refl
turned_one (suc (suc p)) l = absurd (omega arith)

rank_few : (s : Sym) → rank s < 8
rank_few Outside = omega arith
rank_few Inside = omega arith
rank_few Start = omega arith
rank_few End = omega arith
rank_few Both = omega arith

-- what two sets have in common
pub is_in-and : (x y : ℕ) (s : Sym) → is_in (bit_and x y) s ≡ (is_in x s && is_in y s)
is_in-and x y s =
    ap (λ n. n == 1) (bit_at_and x y (rank s))
    ∙ least_one (bit_at x (rank s)) (bit_at y (rank s)) (bit_at-lt x (rank s)) (bit_at-lt y (rank s))

-- what either has
pub is_in-or : (x y : ℕ) (s : Sym) → is_in (bit_or x y) s ≡ (is_in x s || is_in y s)
is_in-or x y s =
    ap (λ n. n == 1) (bit_at_or x y (rank s))
    ∙ most_one (bit_at x (rank s)) (bit_at y (rank s)) (bit_at-lt x (rank s)) (bit_at-lt y (rank s))

-- what a set lacks
pub is_in-not : (x : ℕ) (s : Sym) → x < 2 ^ 8 → is_in (bit_not w8 x) s ≡ not (is_in x s)
is_in-not x s l =
    ap (λ n. n == 1) (bit_at_not w8 x (rank s) l (rank_few s))
    ∙ turned_one (bit_at x (rank s)) (bit_at-lt x (rank s))

-- ---- lists of sets

and_turned : (a b : Bool) → (a && b) ≡ (b && a)
and_turned true true = refl
and_turned true false = refl
and_turned false true = refl
and_turned false false = refl

-- sets, where one tier has all symbols
abbrev pub opened_at : ℕ → List ℕ → List ℕ
opened_at t sets = set sets t 31

pub have-set : (sets : List ℕ) (column : List Sym) (t x : ℕ) → t < length sets
    → sets_have (set sets t x) column ≡ (sets_have (opened_at t sets) column && is_in x (symbol column t))
have-set [] column t x l = absurd (omega arith)
have-set (y ∷ sets) [] zero x l = refl
have-set (y ∷ sets) [] (suc t) x l = refl
have-set (y ∷ sets) (s ∷ column) zero x l =
    and_turned (is_in x s) (sets_have sets column)
    ∙ ap (λ b. (b && sets_have sets column) && is_in x s) (sym (in_all s))
have-set (y ∷ sets) (s ∷ column) (suc t) x l =
    ap (λ b. is_in y s && b) (have-set sets column t x (omega arith))
    ∙ and_grouped (is_in y s) (sets_have (opened_at t sets) column) (is_in x (symbol column t))

-- sets have a column where they do beside a tier, and the tier's set has its symbol
pub have_at : (sets : List ℕ) (column : List Sym) (t : ℕ) → t < length sets
    → sets_have sets column ≡ (sets_have (opened_at t sets) column && is_in (get_or sets t 0) (symbol column t))
have_at sets column t l =
    ap (λ xs. sets_have xs column) (sym (set-get_or sets t 0)) ∙ have-set sets column t (get_or sets t 0) l

-- one set is narrowed
pub have-narrowed : (sets : List ℕ) (column : List Sym) (t x : ℕ) → t < length sets
    → sets_have (set sets t (bit_and (get_or sets t 0) x)) column
    ≡ (sets_have sets column && is_in x (symbol column t))
have-narrowed sets column t x l =
    have-set sets column t (bit_and (get_or sets t 0) x) l
    ∙ ap (λ b. sets_have (opened_at t sets) column && b) (is_in-and (get_or sets t 0) x (symbol column t))
    ∙ and_grouped (sets_have (opened_at t sets) column) (is_in (get_or sets t 0) (symbol column t))
    (is_in x (symbol column t))
    ∙ ap (λ b. b && is_in x (symbol column t)) (sym (have_at sets column t l))

-- sets that agree beside a tier are united
pub have_either : (xs ys : List ℕ) (column : List Sym) (t : ℕ) → t < length xs → t < length ys → set xs t 0 ≡ set ys t 0
    → sets_have (set xs t (bit_or (get_or xs t 0) (get_or ys t 0))) column
    ≡ (sets_have xs column || sets_have ys column)
have_either xs ys column t lx ly e =
    have-set xs column t (bit_or (get_or xs t 0) (get_or ys t 0)) lx
    ∙ ap (λ b. sets_have (opened_at t xs) column && b) (is_in-or (get_or xs t 0) (get_or ys t 0) (symbol column t))
    ∙ over_or (sets_have (opened_at t xs) column) (is_in (get_or xs t 0) (symbol column t))
    (is_in (get_or ys t 0) (symbol column t))
    ∙ ap (λ b. b || (sets_have (opened_at t xs) column && is_in (get_or ys t 0) (symbol column t)))
    (sym (have_at xs column t lx))
    ∙ ap (λ zs. sets_have xs column || (sets_have zs column && is_in (get_or ys t 0) (symbol column t))) same
    ∙ ap (λ b. sets_have xs column || b) (sym (have_at ys column t ly))
  where
    same : opened_at t xs ≡ opened_at t ys
    same = sym (set-set xs t 0 31) ∙ ap (λ zs. set zs t 31) e ∙ set-set ys t 0 31

    over_or : (a b c : Bool) → (a && (b || c)) ≡ ((a && b) || (a && c))
    over_or true b c = refl
    over_or false b c = refl

-- sets that are met tier by tier
pub have_both : (xs ys zs : List ℕ) (column : List Sym) → length xs ≡ length zs → length ys ≡ length zs
    → ((t : ℕ) → t < length zs → get_or zs t 0 ≡ bit_and (get_or xs t 0) (get_or ys t 0))
    → sets_have zs column ≡ (sets_have xs column && sets_have ys column)
have_both [] [] [] [] ex ey h = refl
have_both [] [] [] (s ∷ column) ex ey h = refl
have_both [] [] (z ∷ zs) column ex ey h = absurd (omega arith)
have_both [] (y ∷ ys) zs column ex ey h = absurd (omega arith)
have_both (x ∷ xs) [] zs column ex ey h = absurd (omega arith)
have_both (x ∷ xs) (y ∷ ys) [] column ex ey h = absurd (omega arith)
have_both (x ∷ xs) (y ∷ ys) (z ∷ zs) [] ex ey h = refl
have_both (x ∷ xs) (y ∷ ys) (z ∷ zs) (s ∷ column) ex ey h =
    ap (λ n. is_in n s && sets_have zs column) (h zero (omega arith))
    ∙ ap (λ b. b && sets_have zs column) (is_in-and x y s)
    ∙ ap (λ b. (is_in x s && is_in y s) && b)
    (have_both xs ys zs column (omega arith) (omega arith) (λ t l. h (suc t) (omega arith)))
    ∙ crossed (is_in x s) (is_in y s) (sets_have xs column) (sets_have ys column)
  where
    crossed : (a b c d : Bool) → ((a && b) && (c && d)) ≡ ((a && c) && (b && d))
    crossed true true c d = refl
    crossed true false true d = refl
    crossed true false false d = refl
    crossed false b c d = refl
