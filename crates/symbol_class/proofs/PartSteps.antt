-- Classes in their parts, by a difference of two classes.
use Rattle.std.proofs.Common.{◌≡◌, ℕ, ◌+◌, ◌<◌, ◌≤◌, Bool, true, false, not, ◌&&◌, List, [], length, get_or, take}
use Rattle.std.proofs.Common.{refl, ap, sym, ◌∙◌, subst, arith, IsTrue, All}
use Rattle.std.proofs.{lemmas.Bool.{false≢true, and_parts, not-true}, lemmas.List.take_all}
use Rattle.std.proofs.lemmas.List.Elements.{All-append, All-nil, Contains-get_or}
use Rattle.std.proofs.lemmas.List.Sums.{get_or-le-sum_by, sum_by_more}
use Rattle.std.specs.List.{Contains}
use Rattle.tier_core.specs.{declared.sym.Sym.Sym, declared.class.Class.Class, Classes.{sets_of, sets_have, has}}
use Rattle.tier_core.specs.Filled.{is_filled}
use Rattle.tier_core.proofs.{ClassLemmas.same_width, ClassSets.same_sets, Filled.empty_holds}
use Rattle.symbol_class.specs.declared.difference.Difference.{Difference}
use Rattle.symbol_class.specs.Held.{times_held, once_if, ArePieces, AddsClasses}
use Rattle.symbol_class.specs.Parts.{differs, IsAlike, IsPartOf, AddsAlike, ArePartedBy}
use Rattle.symbol_class.proofs.Times.{held_by, adds_same, adds_then, adds_none, pieces_from_once, once_from_apart}
use Rattle.symbol_class.proofs.Times.{added_times}

-- ---- classes that need not be parted

pub constant : {X : Type 0} (f : List Sym → X) (class : Class) (x : X)
    → ((column : List Sym) → has class column ≡ true → f column ≡ x) → IsAlike f class
constant f class x h c d in_c in_d = h c in_c ∙ sym (h d in_d)

within_none : (p w o : Bool) → p ≡ true → (p && w) ≡ false → (w && not o) ≡ false
within_none true true o e h = absurd (false≢true (sym h))
within_none true false o e h = refl
within_none false w o e h = absurd (false≢true e)

within_all : (p w o : Bool) → p ≡ true → (p && w) ≡ p → ((p && w) && o) ≡ false → (w && not o) ≡ true
within_all true true true e h k = absurd (false≢true (sym k))
within_all true true false e h k = refl
within_all true false o e h k = absurd (false≢true h)
within_all false w o e h k = absurd (false≢true e)

pub shares_none : (class : Class) (test : Difference) (inside : Class)
    → ((column : List Sym) → has inside column ≡ (has class column && has test.within column))
    → is_filled inside ≡ false → (column : List Sym) → has class column ≡ true → differs test column ≡ false
shares_none class test inside has_inside empty column held =
    within_none (has class column) (has test.within column) (has test.without column) held
    (sym (has_inside column) ∙ empty_holds inside column empty)

module _ (class : Class) (test : Difference) (inside both : Class)
    (has_inside : (column : List Sym) → has inside column ≡ (has class column && has test.within column))
    (has_both : (column : List Sym) → has both column ≡ (has inside column && has test.without column)) where
  in_both : (column : List Sym) → has both column
      ≡ ((has class column && has test.within column) && has test.without column)
  in_both column = has_both column ∙ ap (λ b. b && has test.without column) (has_inside column)

  pub shares_all : inside.word ≡ class.word → is_filled both ≡ false → (column : List Sym) → has class column ≡ true
      → differs test column ≡ true
  shares_all same empty column held =
      within_all (has class column) (has test.within column) (has test.without column) held
      (sym (has_inside column) ∙ ap (λ sets. sets_have sets column) (same_sets inside class same))
      (sym (in_both column) ∙ empty_holds both column empty)

-- ---- classes that are added in parts

once_true : (b : Bool) → 1 ≤ once_if b → b ≡ true
once_true true l = refl
once_true false l = absurd (omega arith)

-- a class that was added has only columns that some class that was added has
added_held : (width : ℕ) (old new : List Class) (times : List Sym → ℕ) (a : AddsClasses width old new times) (k : ℕ)
    (d : Class) → k < length a.added → (column : List Sym) → has (get_or a.added k d) column ≡ true → 1 ≤ times column
added_held width old new times a k d inside column held =
    omega (arith, get_or-le-sum_by (held_by column) a.added k d inside, ap once_if held, a.held column)

-- all that is added is tested alike
pub adds_constant : (width : ℕ) (old new : List Class) (p : List Sym → Bool) (test : List Sym → Bool) (b : Bool)
    → AddsClasses width old new (λ column. once_if (p column))
    → ((column : List Sym) → p column ≡ true → test column ≡ b)
    → AddsAlike width old new (λ column. once_if (p column)) test
adds_constant width old new p test b a h = record {
  adds = a;
  alike = λ k d inside. constant test (get_or a.added k d) b
      (λ column held. h column (once_true (p column)
      (added_held width old new (λ column. once_if (p column)) a k d inside column held)));
}

-- a class that need not be parted is added
pub adds_whole : (width : ℕ) (old new : List Class) (class : Class) (test : List Sym → Bool) → IsAlike test class
    → AddsClasses width old new (λ column. once_if (has class column))
    → AddsAlike width old new (λ column. once_if (has class column)) test
adds_whole width old new class test alike a = record {
  adds = a;
  alike = λ k d inside x y in_x in_y. alike x y (held k d inside x in_x) (held k d inside y in_y);
}
  where
    held : (k : ℕ) (d : Class) → k < length a.added → (column : List Sym) → has (get_or a.added k d) column ≡ true
        → has class column ≡ true
    held k d inside column h = once_true (has class column)
        (added_held width old new (λ column. once_if (has class column)) a k d inside column h)

pub alike_then : {X : Type 0} (width : ℕ) (old mid new : List Class) (s t u : List Sym → ℕ) (test : List Sym → X)
    → AddsAlike width old mid s test → AddsAlike width mid new t test
    → ((column : List Sym) → s column + t column ≡ u column)
    → AddsAlike width old new u test
unfolding adds_then
alike_then width old mid new s t u test a b e = record {
  adds = adds_then width old mid new s t u a.adds b.adds e;
  alike = All-append (IsAlike test) a.adds.added b.adds.added a.alike b.alike;
}

-- what is in a difference
pub adds_inside : (width wide : ℕ) (old new : List Class) (class inside : Class) (test : Difference)
    → ((column : List Sym) → has inside column ≡ (has class column && has test.within column))
    → wide ≡ width
    → AddsClasses wide old new (λ column. once_if (has inside column && not (has test.without column)))
    → AddsClasses width old new (λ column. once_if (has class column && differs test column))
adds_inside width wide old new class inside test has_inside same a =
    adds_same width old new (λ column. once_if (has inside column && not (has test.without column)))
    (λ column. once_if (has class column && differs test column))
    (subst (λ n. AddsClasses n old new (λ column. once_if (has inside column && not (has test.without column)))) same a)
    (λ column. ap (λ b. once_if (b && not (has test.without column))) (has_inside column)
    ∙ ap once_if (turned (has class column) (has test.within column) (has test.without column)))
  where
    turned : (p w o : Bool) → ((p && w) && not o) ≡ (p && (w && not o))
    turned true w o = refl
    turned false w o = refl

-- what is not in a difference: what is not in the one class, and what is in both
pub adds_outside : (width both_wide : ℕ) (old one new : List Class) (class inside both : Class) (test : Difference)
    → ((column : List Sym) → has inside column ≡ (has class column && has test.within column))
    → ((column : List Sym) → has both column ≡ (has inside column && has test.without column))
    → both_wide ≡ width
    → AddsClasses width old one (λ column. once_if (has class column && not (has test.within column)))
    → AddsClasses both_wide one new (λ column. once_if (has both column))
    → AddsClasses width old new (λ column. once_if (has class column && not (differs test column)))
adds_outside width both_wide old one new class inside both test has_inside has_both same a b =
    adds_then width old one new (λ column. once_if (has class column && not (has test.within column)))
    (λ column. once_if (has both column)) (λ column. once_if (has class column && not (differs test column))) a
    (subst (λ n. AddsClasses n one new (λ column. once_if (has both column))) same b)
    (λ column.
    ap (λ b. once_if (has class column && not (has test.within column)) + once_if b) (has_both column)
    ∙ ap (λ b. once_if (has class column && not (has test.within column)) + once_if (b && has test.without column))
    (has_inside column)
    ∙ two_parts (has class column) (has test.within column) (has test.without column))
  where
    two_parts : (p w o : Bool) → once_if (p && not w) + once_if ((p && w) && o) ≡ once_if (p && not (w && not o))
    two_parts true true true = refl
    two_parts true true false = refl
    two_parts true false o = refl
    two_parts false w o = refl

-- what is so and not otherwise, and what is both
pub two_sides : (p d : Bool) → once_if (p && not d) + once_if (p && d) ≡ once_if p
two_sides true true = refl
two_sides true false = refl
two_sides false d = refl

-- what is not in a difference, and what is
pub adds_parts : (width : ℕ) (old mid new : List Class) (class : Class) (test : Difference)
    → AddsClasses width old mid (λ column. once_if (has class column && not (differs test column)))
    → AddsClasses width mid new (λ column. once_if (has class column && differs test column))
    → AddsAlike width old new (λ column. once_if (has class column)) (differs test)
adds_parts width old mid new class test a b =
    alike_then width old mid new (λ column. once_if (has class column && not (differs test column)))
    (λ column. once_if (has class column && differs test column)) (λ column. once_if (has class column))
    (differs test)
    (adds_constant width old mid (λ column. has class column && not (differs test column)) (differs test) false a
    (λ column h. not-true (differs test column) (and_parts (has class column) (not (differs test column)) h).1))
    (adds_constant width mid new (λ column. has class column && differs test column) (differs test) true b
    (λ column h. (and_parts (has class column) (differs test column) h).1))
    (λ column. two_sides (has class column) (differs test column))

-- ---- the parts of some classes

-- the first i classes are parted
pub record ArePartedBelow (width : ℕ) (test : List Sym → Bool) (wholes : List Class) (i : ℕ)
    (parts : List Class) : Type 0 where
  pub adds : AddsAlike width [] parts (times_held (take i wholes)) test
  pub within : All (IsPartOf wholes) parts

parts_of_one : (width : ℕ) (wholes old new : List Class) (class : Class) → Contains wholes class
    → (a : AddsClasses width old new (λ column. once_if (has class column))) → All (IsPartOf wholes) a.added
parts_of_one width wholes old new class listed a k d inside = record {
  whole = class;
  listed = listed;
  within = λ column h. once_true (has class column)
      (added_held width old new (λ column. once_if (has class column)) a k d inside column h);
}

pub parted_none : (width : ℕ) (test : List Sym → Bool) (wholes : List Class) → ArePartedBelow width test wholes 0 []
unfolding adds_none
parted_none width test wholes = record {
  adds = record { adds = adds_none width [] (times_held []) (λ column. refl); alike = All-nil (IsAlike test) };
  within = All-nil (IsPartOf wholes);
}

pub parted_next : (width : ℕ) (test : List Sym → Bool) (wholes : List Class) (i : ℕ) (parts more : List Class)
    (class : Class)
    → ArePartedBelow width test wholes i parts → i < length wholes → class ≡ get_or wholes i class
    → AddsAlike width parts more (λ column. once_if (has class column)) test
    → ArePartedBelow width test wholes (i + 1) more
parted_next width test wholes i parts more class so_far l is a = record {
  adds = alike_then width [] parts more (times_held (take i wholes)) (λ column. once_if (has class column))
      (times_held (take (i + 1) wholes)) test so_far.adds a
      (λ column. sym (sum_by_more (held_by column) wholes i class l
      ∙ ap (λ c. times_held (take i wholes) column + once_if (has c column)) (sym is)));
  within = subst (All (IsPartOf wholes)) (sym a.adds.new_is)
      (All-append (IsPartOf wholes) parts a.adds.added so_far.within
      (parts_of_one width wholes parts more class (i, l, sym is) a.adds));
}

pub parted_all : (width : ℕ) (test : List Sym → Bool) (wholes : List Class) (i : ℕ) (parts : List Class)
    → ArePieces width wholes → ArePartedBelow width test wholes i parts → length wholes ≤ i
    → ArePartedBy width test wholes parts
parted_all width test wholes i parts pieces so_far all =
    let times : (column : List Sym) → times_held parts column
    ≡ times_held wholes column = (λ column. added_times width parts
    (times_held (take i wholes)) so_far.adds.adds column
    ∙ ap (λ xs. times_held xs column) (take_all i wholes all)) in
    record {
      pieces = pieces_from_once width parts
          (subst (All (λ class. length (sets_of class) ≡ width))
          (sym so_far.adds.adds.new_is) so_far.adds.adds.one_width)
          (subst (All (λ class. IsTrue (is_filled class))) (sym so_far.adds.adds.new_is) so_far.adds.adds.filled)
          (λ column. omega (arith, times column, once_from_apart wholes pieces.apart column));
      held = times;
      within = so_far.within;
      alike = subst (All (IsAlike test)) (sym so_far.adds.adds.new_is) so_far.adds.alike;
    }

-- pieces that need not be parted
pub parted_same : {X : Type 0} (width : ℕ) (test : List Sym → X) (wholes : List Class) → ArePieces width wholes
    → All (IsAlike test) wholes → ArePartedBy width test wholes wholes
parted_same width test wholes pieces alike = record {
  pieces = pieces;
  held = λ column. refl;
  within = λ k d inside. record {
    whole = get_or wholes k d;
    listed = Contains-get_or wholes k d inside;
    within = λ column h. h;
  };
  alike = alike;
}

-- ---- parts of parts

alike_at : {X : Type 0} (f : List Sym → X) (xs : List Class) (x : Class) → All (IsAlike f) xs → Contains xs x
    → IsAlike f x
alike_at f xs x all c = subst (IsAlike f) c.2 (all c.0 x c.1)

pub part_of_part : (xs ys : List Class) (z : Class) → All (IsPartOf xs) ys → IsPartOf ys z → IsPartOf xs z
part_of_part xs ys z all p =
    let q : IsPartOf xs p.whole = subst (IsPartOf xs) p.listed.2 (all p.listed.0 p.whole p.listed.1) in
    record { whole = q.whole; listed = q.listed; within = λ column h. q.within column (p.within column h) }

-- what is alike in some pieces is alike in their parts
pub alike_parts : {X : Type 0} (f : List Sym → X) (xs ys : List Class) → All (IsAlike f) xs → All (IsPartOf xs) ys
    → All (IsAlike f) ys
alike_parts f xs ys alike within k d inside x y in_x in_y =
    let p = within k d inside in
    alike_at f xs p.whole alike p.listed x y (p.within x in_x) (p.within y in_y)

-- parts are parted again, and what hangs on both tests alone is alike in the last parts
pub parted_then : {X Y Z : Type 0} (width : ℕ) (f : List Sym → X) (g : List Sym → Y) (h : List Sym
    → Z) (xs ys zs : List Class)
    → ((c d : List Sym) → length c ≡ width → length d ≡ width → f c ≡ f d → g c ≡ g d → h c ≡ h d)
    → ArePartedBy width f xs ys → ArePartedBy width g ys zs → ArePartedBy width h xs zs
parted_then width f g h xs ys zs hangs p q = record {
  pieces = q.pieces;
  held = λ column. q.held column ∙ p.held column;
  within = λ k d inside. part_of_part xs ys (get_or zs k d) p.within (q.within k d inside);
  alike = λ k d inside x y in_x in_y.
      let wide = q.pieces.one_width k d inside in
      hangs x y (same_width (sets_of (get_or zs k d)) x in_x ∙ wide) (same_width (sets_of (get_or zs k d)) y in_y
      ∙ wide)
      (alike_parts f ys zs p.alike q.within k d inside x y in_x in_y) (q.alike k d inside x y in_x in_y);
}

pub parted_weaker : {X Z : Type 0} (width : ℕ) (f : List Sym → X) (h : List Sym → Z) (xs ys : List Class)
    → ((c d : List Sym) → length c ≡ width → length d ≡ width → f c ≡ f d → h c ≡ h d) → ArePartedBy width f xs ys
    → ArePartedBy width h xs ys
parted_weaker width f h xs ys hangs p = record {
  pieces = p.pieces;
  held = p.held;
  within = p.within;
  alike = λ k d inside x y in_x in_y.
      let wide = p.pieces.one_width k d inside in
      hangs x y (same_width (sets_of (get_or ys k d)) x in_x ∙ wide) (same_width (sets_of (get_or ys k d)) y in_y
      ∙ wide) (p.alike k d inside x y in_x in_y);
}
