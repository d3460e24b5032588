-- Classes that are parted by tests.
use Rattle.std.proofs.Common.{◌≡◌, ℕ, ◌+◌, ◌<◌, ◌≤◌, Bool, true, false, not, ◌&&◌, ◌||◌, if◌then◌else◌, List, []}
use Rattle.std.proofs.{Common.{length, get_or, take, refl, ap, sym, ◌∙◌, subst, arith}, lemmas.List.take_all}
use Rattle.std.proofs.{lemmas.List.Folds.list_any_more, lemmas.List.Sums.sum_by_more}
use Rattle.tier_core.specs.{declared.sym.Sym.Sym, declared.class.Class.Class, Classes.has}
use Rattle.symbol_class.specs.Held.{some_has, times_held, once_if, AddsClasses}
use Rattle.symbol_class.proofs.Times.{held_by, adds_none, adds_same, adds_then, added_times}

-- how often a column of the test is held, and how often another
abbrev pub times_in : Class → List Class → List Sym → ℕ
times_in test classes column = if has test column then times_held classes column else 0

abbrev pub times_out : Class → List Class → List Sym → ℕ
times_out test classes column = if has test column then 0 else times_held classes column

-- the first i of some classes are parted by a test
pub record IsPartedBelow (width : ℕ) (test : Class) (classes : List Class) (i : ℕ)
    (old inside outside : List Class) : Type 0 where
  pub inside_adds : AddsClasses width old inside (times_in test (take i classes))
  pub outside_adds : AddsClasses width [] outside (times_out test (take i classes))

pub parted_none : (width : ℕ) (test : Class) (classes old outside : List Class) → outside ≡ []
    → IsPartedBelow width test classes 0 old old outside
parted_none width test classes old outside none = subst (IsPartedBelow width test classes 0 old old) (sym none)
    (record {
      inside_adds = adds_none width old (times_in test []) (λ column. no_more (has test column));
      outside_adds = adds_none width [] (times_out test []) (λ column. no_more (has test column));
    })
  where
    no_more : (b : Bool) → ◌≡◌ {A = ℕ} (if b then 0 else 0) 0
    no_more true = refl
    no_more false = refl

pub parted_all : (width : ℕ) (test : Class) (classes : List Class) (i : ℕ) (old inside outside : List Class)
    → length classes ≤ i → IsPartedBelow width test classes i old inside outside
    → record {
      inside : AddsClasses width old inside (times_in test classes);
      outside : AddsClasses width [] outside (times_out test classes);
    }
parted_all width test classes i old inside outside l so_far = record {
  inside = subst (λ (xs : List Class). AddsClasses width old inside (times_in test xs)) (take_all i classes l)
      so_far.inside_adds;
  outside = subst (λ (xs : List Class). AddsClasses width [] outside (times_out test xs)) (take_all i classes l)
      so_far.outside_adds;
}

more_in : (t c : Bool) (n m : ℕ) → m ≡ n + once_if c → (if t then n else 0) + once_if (c && t) ≡ (if t then m else 0)
more_in true true n m e = sym e
more_in true false n m e = sym e
more_in false true n m e = refl
more_in false false n m e = refl

more_out : (t c : Bool) (n m : ℕ) → m ≡ n + once_if c
    → (if t then 0 else n) + once_if (c && not t) ≡ (if t then 0 else m)
more_out true true n m e = refl
more_out true false n m e = refl
more_out false true n m e = sym e
more_out false false n m e = sym e

pub parted_more : (width : ℕ) (test : Class) (classes : List Class) (i : ℕ) (old inside outside : List Class)
    (class common : Class) (inside' outside' : List Class)
    → IsPartedBelow width test classes i old inside outside → i < length classes → class ≡ get_or classes i class
    → ((column : List Sym) → has common column ≡ (has class column && has test column))
    → AddsClasses width inside inside' (λ column. once_if (has common column))
    → AddsClasses width outside outside' (λ column. once_if (has class column && not (has test column)))
    → IsPartedBelow width test classes (i + 1) old inside' outside'
parted_more width test classes i old inside outside class common inside' outside' so_far l is has_common adds_in
    adds_out = record {
      inside_adds = adds_then width old inside inside' (times_in test (take i classes))
          (λ column. once_if (has common column)) (times_in test (take (i + 1) classes)) so_far.inside_adds adds_in
          (λ column.
          ap (λ b. times_in test (take i classes) column + once_if b) (has_common column)
          ∙ more_in (has test column) (has class column) (times_held (take i classes) column)
          (times_held (take (i + 1) classes) column) (more column));
      outside_adds = adds_then width [] outside outside' (times_out test (take i classes))
          (λ column. once_if (has class column && not (has test column)))
          (times_out test (take (i + 1) classes)) so_far.outside_adds adds_out
          (λ column. more_out (has test column) (has class column) (times_held (take i classes) column)
          (times_held (take (i + 1) classes) column) (more column));
    }
  where
    more : (column : List Sym) → times_held (take (i + 1) classes) column
        ≡ times_held (take i classes) column + once_if (has class column)
    more column = sum_by_more (held_by column) classes i class l
        ∙ ap (λ c. times_held (take i classes) column + once_if (has c column)) (sym is)

-- ---- one class, parted by all tests

abbrev pub is_inside : Class → List Class → List Sym → Bool
is_inside class tests column = has class column && some_has tests column

abbrev pub is_outside : Class → List Class → List Sym → Bool
is_outside class tests column = has class column && not (some_has tests column)

-- a class is parted by the first i tests
pub record IsSplitBelow (width : ℕ) (class : Class) (tests : List Class) (i : ℕ)
    (inside outside : List Class) : Type 0 where
  pub inside_adds : AddsClasses width [] inside (λ column. once_if (is_inside class (take i tests) column))
  pub outside_adds : AddsClasses width [] outside (λ column. once_if (is_outside class (take i tests) column))

pub split_all : (width : ℕ) (class : Class) (tests : List Class) (i : ℕ) (inside outside : List Class)
    → length tests ≤ i → IsSplitBelow width class tests i inside outside
    → record {
      inside : AddsClasses width [] inside (λ column. once_if (is_inside class tests column));
      outside : AddsClasses width [] outside (λ column. once_if (is_outside class tests column));
    }
split_all width class tests i inside outside l so_far = record {
  inside = subst (λ (xs : List Class). AddsClasses width [] inside (λ column. once_if (is_inside class xs column)))
      (take_all i tests l) so_far.inside_adds;
  outside = subst (λ (xs : List Class). AddsClasses width [] outside (λ column. once_if (is_outside class xs column)))
      (take_all i tests l) so_far.outside_adds;
}

one_inside : (c s t : Bool) (n : ℕ) → n ≡ once_if (c && not s)
    → once_if (c && s) + (if t then n else 0) ≡ once_if (c && (s || t))
one_inside true true true n e = omega arith
one_inside true true false n e = refl
one_inside true false true n e = omega arith
one_inside true false false n e = refl
one_inside false s true n e = omega arith
one_inside false s false n e = refl

one_outside : (c s t : Bool) (n : ℕ) → n ≡ once_if (c && not s) → (if t then 0 else n) ≡ once_if (c && not (s || t))
one_outside true true true n e = refl
one_outside true true false n e = e
one_outside true false true n e = refl
one_outside true false false n e = e
one_outside false s true n e = refl
one_outside false s false n e = e

pub split_more : (width : ℕ) (class : Class) (tests : List Class) (i : ℕ) (inside outside : List Class) (test : Class)
    (inside' outside' : List Class)
    → IsSplitBelow width class tests i inside outside → i < length tests → test ≡ get_or tests i test
    → AddsClasses width inside inside' (times_in test outside) → AddsClasses width [] outside' (times_out test outside)
    → IsSplitBelow width class tests (i + 1) inside' outside'
split_more width class tests i inside outside test inside' outside' so_far l is adds_in adds_out = record {
  inside_adds = adds_then width [] inside inside' (λ column. once_if (is_inside class (take i tests) column))
      (times_in test outside) (λ column. once_if
      (is_inside class (take (i + 1) tests) column)) so_far.inside_adds adds_in
      (λ column.
      one_inside (has class column) (some_has (take i tests) column) (has test column) (times_held outside column)
      (left column)
      ∙ ap (λ b. once_if (has class column && b)) (sym (more column)));
  outside_adds = adds_same width [] outside' (times_out test outside)
      (λ column. once_if (is_outside class (take (i + 1) tests) column)) adds_out
      (λ column.
      one_outside (has class column) (some_has (take i tests) column) (has test column) (times_held outside column)
      (left column)
      ∙ ap (λ b. once_if (has class column && not b)) (sym (more column)));
}
  where
    left : (column : List Sym) → times_held outside column ≡ once_if (is_outside class (take i tests) column)
    left column = added_times width outside
        (λ column. once_if (is_outside class (take i tests) column)) so_far.outside_adds column

    more : (column : List Sym) → some_has (take (i + 1) tests) column
        ≡ (some_has (take i tests) column || has test column)
    more column = list_any_more (λ c. has c column) tests i test l
        ∙ ap (λ c. some_has (take i tests) column || has c column) (sym is)

-- no column is on both sides
pub one_side : (c s : Bool) → once_if (c && s) + once_if (c && not s) ≤ 1
one_side true true = omega arith
one_side true false = omega arith
one_side false s = omega arith
