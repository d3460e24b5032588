-- How often the classes of a list hold a column, and what this tells of the list.
use Rattle.std.proofs.Common.{◌≡◌, ℕ, zero, suc, ◌+◌, ◌<◌, ◌≤◌, Bool, true, false, List, [], ◌∷◌, ◌++◌, length}
use Rattle.std.proofs.Common.{get_or, refl, ap, sym, ◌∙◌, subst, arith, IsTrue, All, AllPairs, IsPermutation}
use Rattle.std.proofs.Common.{⊎_elim}
use Rattle.std.proofs.lemmas.Bool.{both_ways, or_cases, or_parts, false_from_ne_true, true_from_ne_false}
use Rattle.std.proofs.{lemmas.List.Elements.{All-nil, All-append}, lemmas.List.Folds.Any-from_list_any}
use Rattle.std.proofs.lemmas.List.Kept.{AllPairs-cons}
use Rattle.std.proofs.lemmas.List.Sums.{sum_by-cons, sum_by-append, get_or-le-sum_by}
use Rattle.std.proofs.lemmas.List.{append-nil, append_assoc, length-append, get_or_append_left}
use Rattle.std.proofs.lemmas.List.Sorted.{sum_by-IsPermutation}
use Rattle.tier_core.specs.{declared.sym.Sym.Sym, declared.class.Class.Class, Classes.{sets_of, has, AreDisjoint}}
use Rattle.tier_core.specs.Filled.{is_filled}
use Rattle.symbol_class.specs.Held.{some_has, times_held, once_if, ArePieces, AddsClasses}
use Rattle.tier_core.proofs.Filled.{empty_holds}

-- ---- pairs of a list

pub pairs_tail : {X : Type 0} (R : X → X → Type 0) (x : X) (xs : List X) → AllPairs R (x ∷ xs) → AllPairs R xs
pairs_tail R x xs h = λ i j d less inside. h (suc i) (suc j) d (omega arith) (omega arith)

pub pairs_head : {X : Type 0} (R : X → X → Type 0) (x : X) (xs : List X) → AllPairs R (x ∷ xs) → All (R x) xs
pairs_head R x xs h = λ k d inside. h zero (suc k) d (omega arith) (omega arith)

-- ---- how often a column is held

-- how often one class holds it
abbrev pub held_by : List Sym → Class → ℕ
held_by column class = once_if (has class column)

pub times-cons : (class : Class) (classes : List Class) (column : List Sym)
    → times_held (class ∷ classes) column ≡ once_if (has class column) + times_held classes column
times-cons class classes column = sum_by-cons (held_by column) class classes

pub times-append : (classes others : List Class) (column : List Sym)
    → times_held (classes ++ others) column ≡ times_held classes column + times_held others column
times-append classes others column = sum_by-append (held_by column) classes others

pub times_permuted : (classes others : List Class) → IsPermutation classes others → (column : List Sym)
    → times_held others column ≡ times_held classes column
times_permuted classes others p column = sum_by-IsPermutation (held_by column) classes others p

pub none_held : (classes : List Class) (column : List Sym) → some_has classes column ≡ false
    → times_held classes column ≡ 0
none_held [] column e = refl
none_held (class ∷ classes) column e =
    let parts = or_parts (has class column) (some_has classes column) e in
    omega (arith, times-cons class classes column, ap once_if parts.0, none_held classes column parts.1)

pub some_held : (classes : List Class) (column : List Sym) → some_has classes column ≡ true
    → 1 ≤ times_held classes column
some_held [] column e = absurd (both_ways false refl e)
some_held (class ∷ classes) column e = ⊎_elim
    (λ here. omega (arith, times-cons class classes column, ap once_if here))
    (λ there. omega (arith, times-cons class classes column, some_held classes column there))
    (or_cases (has class column) (some_has classes column) e)

-- a column that is held once where it is so, and else not at all, is held where it is so
pub some_from_times : (classes : List Class) (column : List Sym) (b : Bool) → times_held classes column ≡ once_if b
    → some_has classes column ≡ b
some_from_times classes column true e = true_from_ne_false (some_has classes column)
    (λ none. absurd (omega (arith, e, none_held classes column none)))
some_from_times classes column false e = false_from_ne_true (some_has classes column)
    (λ some. absurd (omega (arith, e, some_held classes column some)))

-- a list holds a column as often as another, so it holds it where the other does
pub some_from_same : (classes others : List Class) (column : List Sym)
    → times_held classes column ≡ times_held others column → some_has classes column ≡ some_has others column
some_from_same classes others column e = go (some_has classes column) refl (some_has others column) refl
  where
    go : (a : Bool) → some_has classes column ≡ a → (b : Bool) → some_has others column ≡ b → a ≡ b
    go true ea true eb = refl
    go true ea false eb = absurd (omega (arith, e, some_held classes column ea, none_held others column eb))
    go false ea true eb = absurd (omega (arith, e, none_held classes column ea, some_held others column eb))
    go false ea false eb = refl

-- ---- classes that are apart

-- no column is held twice where the classes are apart
pub once_from_apart : (classes : List Class) → AllPairs AreDisjoint classes → (column : List Sym)
    → times_held classes column ≤ 1
once_from_apart [] apart column = omega arith
once_from_apart (class ∷ classes) apart column = go (has class column) refl
    (once_from_apart classes (pairs_tail AreDisjoint class classes apart) column)
  where
    none : has class column ≡ true → some_has classes column ≡ false
    none here = false_from_ne_true (some_has classes column) (λ some.
        let other = Any-from_list_any (λ c. has c column) classes some in
        pairs_head AreDisjoint class classes apart other.0 other.1 other.2 column here
        (subst (λ c. has c column ≡ true) (sym other.3) other.4))

    go : (b : Bool) → has class column ≡ b → times_held classes column ≤ 1 → times_held (class ∷ classes) column ≤ 1
    go true here rest = omega (
      arith,
      times-cons class classes column,
      ap once_if here,
      none_held classes column (none here),
    )
    go false here rest = omega (arith, times-cons class classes column, ap once_if here, rest)

-- and classes are apart where no column is held twice
pub apart_from_once : (classes : List Class) → ((column : List Sym) → times_held classes column ≤ 1)
    → AllPairs AreDisjoint classes
apart_from_once [] once = λ i j d less inside. absurd (omega arith)
apart_from_once (class ∷ classes) once =
    AllPairs-cons AreDisjoint class classes
    (λ k d inside column here there. absurd
    (omega (
      arith,
      once column,
      times-cons class classes column,
      ap once_if here,
      get_or-le-sum_by (held_by column) classes k d inside,
      ap once_if there,
    )))
    (apart_from_once classes (λ column. omega (arith, once column, times-cons class classes column)))

-- ---- classes that are put at the end of a list

pub adds_same : (width : ℕ) (old new : List Class) (s t : List Sym → ℕ) → AddsClasses width old new s
    → ((column : List Sym) → s column ≡ t column) → AddsClasses width old new t
adds_same width old new s t a e = record {
  added = a.added;
  new_is = a.new_is;
  one_width = a.one_width;
  filled = a.filled;
  held = λ column. a.held column ∙ e column;
}

unfoldable pub adds_none : (width : ℕ) (old : List Class) (times : List Sym → ℕ)
    → ((column : List Sym) → times column ≡ 0) → AddsClasses width old old times
adds_none width old times e = record {
  added = [];
  new_is = sym (append-nil old);
  one_width = All-nil (λ class. length (sets_of class) ≡ width);
  filled = All-nil (λ class. IsTrue (is_filled class));
  held = λ column. sym (e column);
}

pub adds_empty : (width : ℕ) (old : List Class) (class : Class) → is_filled class ≡ false
    → AddsClasses width old old (λ column. once_if (has class column))
adds_empty width old class empty =
    adds_none width old (λ column. once_if (has class column)) (λ column. ap once_if (empty_holds class column empty))

unfoldable pub adds_then : (width : ℕ) (old mid new : List Class) (s t u : List Sym → ℕ) → AddsClasses width old mid s
    → AddsClasses width mid new t → ((column : List Sym) → s column + t column ≡ u column)
    → AddsClasses width old new u
adds_then width old mid new s t u a b e = record {
  added = a.added ++ b.added;
  new_is = b.new_is ∙ ap (λ xs. xs ++ b.added) a.new_is ∙ append_assoc old a.added b.added;
  one_width = All-append (λ c. length (sets_of c) ≡ width) a.added b.added a.one_width b.one_width;
  filled = All-append (λ c. IsTrue (is_filled c)) a.added b.added a.filled b.filled;
  held = λ column. omega (arith, times-append a.added b.added column, a.held column, b.held column, e column);
}

-- ---- classes that were put at the end of an empty list

-- they are pieces where no column is held twice
pub pieces_from_once : (width : ℕ) (classes : List Class) → All (λ class. length (sets_of class) ≡ width) classes
    → All (λ class. IsTrue (is_filled class)) classes → ((column : List Sym) → times_held classes column ≤ 1)
    → ArePieces width classes
pieces_from_once width classes wide filled once = record {
  one_width = wide;
  filled = filled;
  apart = apart_from_once classes once;
}

pub once_few : (b : Bool) → once_if b ≤ 1
once_few true = omega arith
once_few false = omega arith

pub all_added : (width : ℕ) (new : List Class) (times : List Sym → ℕ) (P : Class → Type 0)
    → (a : AddsClasses width [] new times) → All P a.added → All P new
all_added width new times P a all = subst (All P) (sym a.new_is) all

pub added_times : (width : ℕ) (new : List Class) (times : List Sym → ℕ) → AddsClasses width [] new times
    → (column : List Sym) → times_held new column ≡ times column
added_times width new times a column = ap (λ xs. times_held xs column) a.new_is ∙ a.held column

pub pieces_added : (width : ℕ) (new : List Class) (holds : List Sym → Bool)
    → AddsClasses width [] new (λ column. once_if (holds column)) → ArePieces width new
pieces_added width new holds a =
    pieces_from_once width new
    (all_added width new (λ column. once_if (holds column)) (λ c. length (sets_of c) ≡ width) a a.one_width)
    (all_added width new (λ column. once_if (holds column)) (λ c. IsTrue (is_filled c)) a a.filled)
    (λ column. omega (
      arith,
      added_times width new (λ column. once_if (holds column)) a column,
      once_few (holds column),
    ))

pub columns_added : (width : ℕ) (new : List Class) (holds : List Sym → Bool)
    → AddsClasses width [] new (λ column. once_if (holds column)) → (column : List Sym)
    → some_has new column ≡ holds column
columns_added width new holds a column = some_from_times new column (holds column)
    (added_times width new (λ column. once_if (holds column)) a column)

-- the pieces of two lists that hold no column in common
pub pieces-append : (width : ℕ) (xs ys : List Class) (p q : List Sym → Bool)
    → AddsClasses width [] xs (λ column. once_if (p column)) → AddsClasses width [] ys (λ column. once_if (q column))
    → ((column : List Sym) → once_if (p column) + once_if (q column) ≤ 1) → ArePieces width (xs ++ ys)
pieces-append width xs ys p q a b once =
    pieces_from_once width (xs ++ ys)
    (All-append (λ c. length (sets_of c) ≡ width) xs ys
    (all_added width xs (λ column. once_if (p column)) (λ c. length (sets_of c) ≡ width) a a.one_width)
    (all_added width ys (λ column. once_if (q column)) (λ c. length (sets_of c) ≡ width) b b.one_width))
    (All-append (λ c. IsTrue (is_filled c)) xs ys
    (all_added width xs (λ column. once_if (p column)) (λ c. IsTrue (is_filled c)) a a.filled)
    (all_added width ys (λ column. once_if (q column)) (λ c. IsTrue (is_filled c)) b b.filled))
    (λ column. omega (
      arith,
      times-append xs ys column,
      added_times width xs (λ column. once_if (p column)) a column,
      added_times width ys (λ column. once_if (q column)) b column,
      once column,
    ))

-- some pieces of a list are pieces too
pub pieces_front : (width : ℕ) (xs ys : List Class) → ArePieces width (xs ++ ys) → ArePieces width xs
pieces_front width xs ys pieces = record {
  one_width = λ k d inside. subst (λ c. length (sets_of c) ≡ width) (get_or_append_left xs ys d k inside)
      (pieces.one_width k d (longer k inside));
  filled = λ k d inside. subst (λ c. IsTrue (is_filled c)) (get_or_append_left xs ys d k inside)
      (pieces.filled k d (longer k inside));
  apart = λ i j d less inside.
      subst (λ c. AreDisjoint (get_or xs i d) c) (get_or_append_left xs ys d j inside)
      (subst (λ c. AreDisjoint c (get_or (xs ++ ys) j d)) (get_or_append_left xs ys d i (omega arith))
      (pieces.apart i j d less (longer j inside)));
}
  where
    longer : (k : ℕ) → k < length xs → k < length (xs ++ ys)
    longer k inside = omega (arith, length-append xs ys)

pub pieces_back : (width : ℕ) (xs ys : List Class) → ArePieces width (xs ++ ys) → ArePieces width ys
pieces_back width [] ys pieces = pieces
pieces_back width (x ∷ xs) ys pieces = pieces_back width xs ys (record {
  one_width = λ k d inside. pieces.one_width (suc k) d (omega arith);
  filled = λ k d inside. pieces.filled (suc k) d (omega arith);
  apart = pairs_tail AreDisjoint x (xs ++ ys) pieces.apart;
})
