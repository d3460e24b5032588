-- A class is filled where it holds a column, and then it holds its first column.
use Rattle.std.specs.{declared.cmp.Ordering.Ordering, declared.cmp.Ordering.TheVariants.{Less, Equal, Greater}}
use Rattle.std.specs.{Ordering.{nat_cmp, ordering_then, is_gt}, Cmp.Lexicographic.slice_cmp}
use Rattle.std.specs.List.{list_all, list_any}
use Rattle.std.proofs.{lemmas.Cmp.ranked, Common.{◌≡◌, ◌≢◌, ℕ, zero, suc, ◌<◌, ◌≤◌, Bool, true, false, not, ◌||◌}}
use Rattle.std.proofs.Common.{cond, List, [], ◌∷◌, map, length, get_or, refl, ap, ◌∙◌, arith}
use Rattle.std.proofs.lemmas.Bool.{and_parts, and_from, false≢true, both_ways, false_from_ne_true, ne_eqb}
use Rattle.std.proofs.{lemmas.List.Elements.{All-head, All-tail}, lemmas.List.Folds.list_all_at}
use Rattle.tier_core.specs.{declared.sym.Sym.Sym, declared.sym.Sym.TheVariants.{Outside, Inside, Start, End, Both}}
use Rattle.tier_core.specs.{declared.class.Class.Class, Symbols.{rank, symbols}, Sets.{is_in, AreSets}}
use Rattle.tier_core.specs.{Classes.{sets_of, sets_have, has}, Orders.{sym_cmp, column_cmp}, Filled.is_filled}
use Rattle.tier_core.specs.FirstColumn.{first_sym, first_column}
use Rattle.tier_core.proofs.{SetLemmas.{any_of, some_symbol}, ClassSets.sets_few, ClassLemmas.same_width}

pub sets_filled : (sets : List ℕ) (column : List Sym) → sets_have sets column ≡ true
    → list_all (λ set. list_any (is_in set) symbols) sets ≡ true
sets_filled [] column e = refl
sets_filled (x ∷ xs) [] e = absurd (false≢true e)
sets_filled (x ∷ xs) (s ∷ ss) e =
    let parts = and_parts (is_in x s) (sets_have xs ss) e in
    and_from (list_any (is_in x) symbols) (list_all (λ set. list_any (is_in set) symbols) xs)
    (any_of (is_in x) s parts.0) (sets_filled xs ss parts.1)

-- a class that holds a column is filled
pub filled_from : (class : Class) (column : List Sym) → has class column ≡ true → is_filled class ≡ true
filled_from class column e = sets_filled (sets_of class) column e

first_in : (set : ℕ) → list_any (is_in set) symbols ≡ true → is_in set (first_sym set) ≡ true
unfolding first_sym
first_in set e = go (is_in set Outside) refl (is_in set Inside) refl (is_in set Start) refl (is_in set End) refl
    (is_in set Both) refl e
  where
    go : (a : Bool) → is_in set Outside ≡ a → (b : Bool) → is_in set Inside ≡ b → (c : Bool) → is_in set Start ≡ c
        → (d : Bool) → is_in set End ≡ d → (f : Bool) → is_in set Both ≡ f
        → (a || (b || (c || (d || (f || false))))) ≡ true
        → is_in set (cond a Outside (cond b Inside (cond c Start (cond d End Both)))) ≡ true
    go true ea b eb c ec d ed f ef e = ea
    go false ea true eb c ec d ed f ef e = eb
    go false ea false eb true ec d ed f ef e = ec
    go false ea false eb false ec true ed f ef e = ed
    go false ea false eb false ec false ed true ef e = ef
    go false ea false eb false ec false ed false ef e = absurd (false≢true e)

pub sets_have-first : (sets : List ℕ) → list_all (λ set. list_any (is_in set) symbols) sets ≡ true
    → sets_have sets (map first_sym sets) ≡ true
sets_have-first [] e = refl
sets_have-first (x ∷ xs) e =
    let parts = and_parts (list_any (is_in x) symbols) (list_all (λ set. list_any (is_in set) symbols) xs) e in
    and_from (is_in x (first_sym x)) (sets_have xs (map first_sym xs)) (first_in x parts.0) (sets_have-first xs parts.1)

pub has-first_column : (class : Class) → is_filled class ≡ true → has class (first_column class) ≡ true
has-first_column class e = sets_have-first (sets_of class) e

first_sym_least : (set : ℕ) (s : Sym) → is_in set s ≡ true → rank (first_sym set) ≤ rank s
unfolding first_sym
first_sym_least set Outside e = rw e (omega arith)
first_sym_least set Inside e = go (is_in set Outside)
  where
    go : (a : Bool) → rank (cond a Outside
        (cond (is_in set Inside) Inside (cond (is_in set Start) Start (cond (is_in set End) End Both)))) ≤ 1
    go true = omega arith
    go false = rw e (omega arith)
first_sym_least set Start e = go (is_in set Outside) (is_in set Inside)
  where
    go : (a b : Bool) → rank (cond a Outside
        (cond b Inside (cond (is_in set Start) Start (cond (is_in set End) End Both)))) ≤ 2
    go true b = omega arith
    go false true = omega arith
    go false false = rw e (omega arith)
first_sym_least set End e = go (is_in set Outside) (is_in set Inside) (is_in set Start)
  where
    go : (a b c : Bool) → rank (cond a Outside (cond b Inside (cond c Start (cond (is_in set End) End Both)))) ≤ 3
    go true b c = omega arith
    go false true c = omega arith
    go false false true = omega arith
    go false false false = rw e (omega arith)
first_sym_least set Both e = go (is_in set Outside) (is_in set Inside) (is_in set Start) (is_in set End)
  where
    go : (a b c d : Bool) → rank (cond a Outside (cond b Inside (cond c Start (cond d End Both)))) ≤ 4
    go true b c d = omega arith
    go false true c d = omega arith
    go false false true d = omega arith
    go false false false true = omega arith
    go false false false false = omega arith

then_upto : (a b : Sym) → rank a ≤ rank b → (o : Ordering) → is_gt o ≡ false
    → is_gt (ordering_then (sym_cmp a b) o) ≡ false
then_upto a b le o rest = go (nat_cmp (rank a) (rank b)) refl
  where
    go : (r : Ordering) → r ≡ nat_cmp (rank a) (rank b) → is_gt (ordering_then r o) ≡ false
    go Less e = refl
    go Equal e = rest
    go Greater e = absurd (let h = ranked (rank a) (rank b) Greater e in omega (arith, h))

sets_first_least : (sets : List ℕ) (column : List Sym) → sets_have sets column ≡ true
    → is_gt (slice_cmp sym_cmp (map first_sym sets) column) ≡ false
sets_first_least [] [] e = refl
sets_first_least [] (c ∷ cs) e = absurd (false≢true e)
sets_first_least (x ∷ xs) [] e = absurd (false≢true e)
sets_first_least (x ∷ xs) (c ∷ cs) e =
    let parts = and_parts (is_in x c) (sets_have xs cs) e in
    then_upto (first_sym x) c (first_sym_least x c parts.0) (slice_cmp sym_cmp (map first_sym xs) cs)
    (sets_first_least xs cs parts.1)

-- no column of a class is before its first
pub first_column_least : (class : Class) (column : List Sym) → has class column ≡ true
    → is_gt (column_cmp (first_column class) column) ≡ false
first_column_least class column e = sets_first_least (sets_of class) column e

-- ---- classes that are not filled

-- a class without a set on some tier is not filled
pub empty_at : (class : Class) (t : ℕ) → t < length (sets_of class) → get_or (sets_of class) t 0 ≡ 0
    → is_filled class ≡ false
empty_at class t inside none = list_all_at (λ set. list_any (is_in set) symbols) (sets_of class) t 0 inside
    (ap (λ set. list_any (is_in set) symbols) none)

each_filled : (sets : List ℕ) → AreSets sets → ((t : ℕ) → t < length sets → get_or sets t 0 ≢ 0)
    → list_all (λ set. list_any (is_in set) symbols) sets ≡ true
each_filled [] few some = refl
each_filled (x ∷ xs) few some =
    and_from (list_any (is_in x) symbols) (list_all (λ set. list_any (is_in set) symbols) xs)
    (some_symbol x (All-head (λ set. set < 32) x xs few) ∙ ap not (ne_eqb x 0 (some zero (omega arith))))
    (each_filled xs (All-tail (λ set. set < 32) x xs few) (λ t inside. some (suc t) (omega arith)))

-- and a class with a set on each tier is
pub filled_each : (class : Class) → ((t : ℕ) → t < length (sets_of class) → get_or (sets_of class) t 0 ≢ 0)
    → is_filled class ≡ true
filled_each class some = each_filled (sets_of class) (sets_few class) some

-- a class that is not filled holds no column
pub empty_holds : (class : Class) (column : List Sym) → is_filled class ≡ false → has class column ≡ false
empty_holds class column empty = false_from_ne_true (has class column)
    (λ holds. both_ways (is_filled class) empty (filled_from class column holds))

-- and a filled one holds a column of its width
pub filled_holds : (class : Class) → is_filled class ≡ true
    → ((column : List Sym) → length column ≡ length (sets_of class) → has class column ≡ false) → ⊥
filled_holds class filled none =
    let holds = has-first_column class filled in
    both_ways (has class (first_column class))
    (none (first_column class) (same_width (sets_of class) (first_column class) holds)) holds
