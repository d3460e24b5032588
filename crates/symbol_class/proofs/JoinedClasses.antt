-- Classes that are joined along a tier, along each tier, and until none are joined any more.
use Rattle.std.proofs.Common.{◌≡◌, ◌≢◌, ℕ, zero, suc, ◌+◌, ◌<◌, ◌≤◌, Bool, true, false, List, [], ◌∷◌, ◌++◌, map}
use Rattle.std.proofs.Common.{length, get_or, drop, set, refl, ap, sym, ◌∙◌, subst, arith, IsTrue, All, AllPairs}
use Rattle.std.proofs.Common.{IsPermutation, ◌⊎◌, inl, inr, ⊎_elim}
use Rattle.std.proofs.{lemmas.Bool.{true≢false, cases_lt, cases_eq, cases_order}, lemmas.Cmp.nat_list_cmp_total}
use Rattle.std.proofs.lemmas.List.{append_assoc, map_push, at_drop_more, at_drop_all, length-map, length-set}
use Rattle.std.proofs.lemmas.List.{get_or-map, get_or-set_same, get_or-set_other}
use Rattle.std.proofs.{lemmas.List.Elements.{All-nil, All-head, All-tail, All-map}, lemmas.List.Folds.fold-map}
use Rattle.std.proofs.lemmas.List.Sorted.{ranks_by, sorted_far, IsPermutation-refl, IsPermutation-map}
use Rattle.std.proofs.lemmas.List.Sorted.{IsPermutation-trans, length_permutation, All-permutation}
use Rattle.std.specs.{List.Sorted.IsSortedByKey, Ordering.{ordering_reverse, is_lt, is_eq, is_gt}}
use Rattle.std.specs.{declared.cmp.Ordering.Ordering, declared.cmp.Ordering.TheVariants.{Less, Equal, Greater}}
use Rattle.tier_core.specs.{declared.sym.Sym.Sym, declared.class.Class.Class}
use Rattle.tier_core.specs.{Classes.{sets_of, sets_have, has, AreDisjoint}, Filled.is_filled}
use Rattle.symbol_class.specs.{Held.{times_held, once_if, width_of, ArePieces}, Joined.{DifferTwice, sets_beside}}
use Rattle.symbol_class.specs.Joined.{beside_cmp, union_on, DifferBeside, JoinsAlong, JoinsBelow}
use Rattle.symbol_class.proofs.JoinSteps.{times_had, are_filled, length-united, joined_from, joined_alike}
use Rattle.symbol_class.proofs.JoinSteps.{joined_other, joined_fewer, joined_kept, joined_wide, joined_filled}
use Rattle.symbol_class.proofs.JoinSteps.{joined_had, joined_strict, differ_from_below}
use Rattle.symbol_class.proofs.{Pairs.{pairs_map, pairs_unmap, pairs_permuted}, Times.{times-cons, times_permuted}}
use Rattle.symbol_class.proofs.Times.{once_from_apart, apart_from_once, pairs_head, pairs_tail, pieces_from_once}

-- ---- lists of classes and of their sets

all_unmap : {X Y : Type 0} (P : Y → Type 0) (f : X → Y) (xs : List X) → All P (map f xs) → All (λ x. P (f x)) xs
all_unmap P f xs all = λ k d inside. subst P (get_or-map f xs k d (f d) inside)
    (all k (f d) (omega (arith, length-map xs f)))

had_is : (classes : List Class) (column : List Sym) → times_had (map sets_of classes) column ≡ times_held classes column
had_is classes column = fold-map (λ a sets. a + once_if (sets_have sets column)) sets_of 0 classes

-- ---- along one tier

not_greater : (t : ℕ) (a b : List ℕ) → is_lt (beside_cmp t b a) ≡ false → is_gt (beside_cmp t a b) ≡ false
not_greater t a b h = go (beside_cmp t b a) refl h
  where
    go : (o : Ordering) → beside_cmp t b a ≡ o → is_lt o ≡ false → is_gt (beside_cmp t a b) ≡ false
    go Less e g = absurd (true≢false g)
    go Equal e g = ap is_gt (nat_list_cmp_total.antisymm (sets_beside t a) (sets_beside t b) ∙ ap ordering_reverse e)
    go Greater e g = ap is_gt (nat_list_cmp_total.antisymm (sets_beside t a) (sets_beside t b) ∙ ap ordering_reverse e)

-- sorted classes ascend, each to all after it
ascending : (t : ℕ) (classes : List Class) → IsSortedByKey sets_of (beside_cmp t) classes
    → AllPairs (λ a b. is_gt (beside_cmp t (sets_of a) (sets_of b)) ≡ false) classes
ascending t classes sorted = λ i j d less inside.
    not_greater t (sets_of (get_or classes i d)) (sets_of (get_or classes j d))
    (sorted_far (λ x y. is_lt (beside_cmp t (sets_of x) (sets_of y)))
    (ranks_by nat_list_cmp_total (λ class. sets_beside t (sets_of class))) classes sorted i j d
    (omega arith) inside)

pub joins_sorted : (t : ℕ) (first : Class) (rest joined : List Class)
    → map sets_of joined ≡ joined_from t (sets_of first) (map sets_of rest)
    → All (λ class. t < length (sets_of class)) (first ∷ rest)
    → All (λ class. IsTrue (is_filled class)) (first ∷ rest) → AllPairs AreDisjoint (first ∷ rest)
    → IsSortedByKey sets_of (beside_cmp t) (first ∷ rest)
    → JoinsAlong t (first ∷ rest) joined
joins_sorted t first rest joined is inside filled apart sorted = record {
  held = λ column.
      sym (had_is joined column) ∙ ap (λ boxes. times_had boxes column) is
      ∙ joined_had t (sets_of first) (map sets_of rest) here later column
      (omega (
        arith,
        once_from_apart (first ∷ rest) apart column,
        times-cons first rest column,
        had_is rest column,
      ))
      ∙ ap (λ n. once_if (has first column) + n) (had_is rest column) ∙ sym (times-cons first rest column);
  one_width = λ width all.
      all_unmap (λ sets. length sets ≡ width) sets_of joined
      (subst (All (λ sets. length sets ≡ width)) (sym is)
      (joined_wide t width (sets_of first) (map sets_of rest)
      (All-head (λ class. length (sets_of class) ≡ width) first rest all)
      (All-map (λ sets. length sets ≡ width) sets_of rest
      (All-tail (λ class. length (sets_of class) ≡ width) first rest all))));
  filled =
      all_unmap (λ sets. are_filled sets ≡ true) sets_of joined
      (subst (All (λ sets. are_filled sets ≡ true)) (sym is)
      (joined_filled t (sets_of first) (map sets_of rest) here later
      (All-head (λ class. IsTrue (is_filled class)) first rest filled)
      (All-map (λ sets. are_filled sets ≡ true) sets_of rest
      (All-tail (λ class. IsTrue (is_filled class)) first rest filled))));
  fewer = omega (
    arith,
    length-map joined sets_of,
    ap length is,
    joined_fewer t (sets_of first) (map sets_of rest),
    length-map rest sets_of,
  );
  kept = λ e.
      subst (IsPermutation (map sets_of (first ∷ rest)))
      (sym (is ∙ joined_kept t (sets_of first) (map sets_of rest)
      (omega (arith, length-map joined sets_of, ap length is, length-map rest sets_of, e))))
      (IsPermutation-refl (map sets_of (first ∷ rest)));
  differ = pairs_unmap (λ a b. sets_beside t a ≢ sets_beside t b) sets_of joined
      (subst (AllPairs (λ a b. sets_beside t a ≢ sets_beside t b)) (sym is)
      (λ i j d less within. differ_from_below t (get_or boxes i d) (get_or boxes j d) (strict.0 i j d less within)));
}
  where
    boxes : List (List ℕ)
    boxes = joined_from t (sets_of first) (map sets_of rest)

    here : t < length (sets_of first)
    here = All-head (λ class. t < length (sets_of class)) first rest inside

    later : All (λ sets. t < length sets) (map sets_of rest)
    later = All-map (λ sets. t < length sets) sets_of rest
        (All-tail (λ class. t < length (sets_of class)) first rest inside)

    pairs : AllPairs (λ a b. is_gt (beside_cmp t (sets_of a) (sets_of b)) ≡ false) (first ∷ rest)
    pairs = ascending t (first ∷ rest) sorted

    strict : AllPairs (λ a b. beside_cmp t a b ≡ Less) (joined_from t (sets_of first) (map sets_of rest)) × All
        (λ b. is_gt (beside_cmp t (sets_of first) b) ≡ false) (joined_from t (sets_of first) (map sets_of rest))
    strict = joined_strict t (sets_of first) (map sets_of rest)
        (All-map (λ b. is_gt (beside_cmp t (sets_of first) b) ≡ false) sets_of rest
        (pairs_head (λ a b. is_gt (beside_cmp t (sets_of a) (sets_of b)) ≡ false) first rest pairs))
        (pairs_map (λ a b. is_gt (beside_cmp t a b) ≡ false) sets_of rest
        (pairs_tail (λ a b. is_gt (beside_cmp t (sets_of a) (sets_of b)) ≡ false) first rest pairs))

-- the next class is joined with the current one, or is the current one from then on
pub record IsJoinedNext (t : ℕ) (joined done : List Class) (current next class : Class) : Type 0 where
  pub alike : is_eq (beside_cmp t (sets_of current) (sets_of next)) ≡ true
      → (done ≡ joined) × (sets_of class ≡ union_on t (sets_of current) (sets_of next))
  pub other : is_eq (beside_cmp t (sets_of current) (sets_of next)) ≡ false
      → (done ≡ joined ++ current ∷ []) × (class ≡ next)

pub wide_next : (t : ℕ) (joined done : List Class) (current next class : Class)
    → IsJoinedNext t joined done current next class → t < length (sets_of current) → t < length (sets_of next)
    → t < length (sets_of class)
wide_next t joined done current next class made wide wide_too = go
    (is_eq (beside_cmp t (sets_of current) (sets_of next))) refl
  where
    go : (b : Bool) → is_eq (beside_cmp t (sets_of current) (sets_of next)) ≡ b → t < length (sets_of class)
    go true e = omega (arith, wide, ap length (made.alike e).1, length-united t (sets_of current) (sets_of next))
    go false e = subst (λ c. t < length (sets_of c)) (sym (made.other e).1) wide_too

pub joined_more : (t : ℕ) (joined done : List Class) (current next class : Class) (rest : List Class) (i : ℕ)
    (all : List (List ℕ)) → IsJoinedNext t joined done current next class → i < length rest
    → next ≡ get_or rest i next
    → map sets_of joined ++ joined_from t (sets_of current) (map sets_of (drop i rest)) ≡ all
    → map sets_of done ++ joined_from t (sets_of class) (map sets_of (drop (i + 1) rest)) ≡ all
joined_more t joined done current next class rest i all made inside is so_far = go
    (is_eq (beside_cmp t (sets_of current) (sets_of next))) refl
  where
    later : List (List ℕ)
    later = map sets_of (drop (i + 1) rest)

    whole : map sets_of joined ++ joined_from t (sets_of current) (sets_of next ∷ map sets_of (drop (i + 1) rest)) ≡ all
    whole =
        ap (λ (c : Class). map sets_of joined
        ++ joined_from t (sets_of current) (sets_of c ∷ map sets_of (drop (i + 1) rest))) is
        ∙ sym (at_drop_more (λ xs. map sets_of joined
        ++ joined_from t (sets_of current) (map sets_of xs)) rest i next inside) ∙ so_far

    go : (b : Bool) → is_eq (beside_cmp t (sets_of current) (sets_of next)) ≡ b
        → map sets_of done ++ joined_from t (sets_of class) (map sets_of (drop (i + 1) rest)) ≡ all
    go true e =
        ap (λ xs. map sets_of xs ++ joined_from t (sets_of class) later) (made.alike e).0
        ∙ ap (λ sets. map sets_of joined ++ joined_from t sets later) (made.alike e).1
        ∙ ap (λ xs. map sets_of joined ++ xs) (sym (joined_alike t (sets_of current) (sets_of next) later e)) ∙ whole
    go false e =
        ap (λ xs. map sets_of xs ++ joined_from t (sets_of class) later) (made.other e).0
        ∙ ap (λ (c : Class). map sets_of (joined ++ current ∷ []) ++ joined_from t (sets_of c) later) (made.other e).1
        ∙ ap (λ xs. xs ++ joined_from t (sets_of next) later) (map_push sets_of joined current)
        ∙ append_assoc (map sets_of joined) (sets_of current ∷ []) (joined_from t (sets_of next) later)
        ∙ ap (λ xs. map sets_of joined ++ xs) (sym (joined_other t (sets_of current) (sets_of next) later e)) ∙ whole

pub joined_all : (t : ℕ) (joined done : List Class) (current : Class) (rest : List Class) (i : ℕ)
    (all : List (List ℕ)) → done ≡ joined ++ current ∷ [] → length rest ≤ i
    → map sets_of joined ++ joined_from t (sets_of current) (map sets_of (drop i rest)) ≡ all → map sets_of done ≡ all
joined_all t joined done current rest i all e last so_far =
    ap (map sets_of) e ∙ map_push sets_of joined current
    ∙ sym (at_drop_all (λ xs. map sets_of joined ++ joined_from t (sets_of current) (map sets_of xs)) rest i last)
    ∙ so_far

-- classes may be rearranged before they are joined
pub joins_permuted : (t : ℕ) (classes sorted joined : List Class) → IsPermutation classes sorted
    → JoinsAlong t sorted joined → JoinsAlong t classes joined
joins_permuted t classes sorted joined p joins = record {
  held = λ column. joins.held column ∙ times_permuted classes sorted p column;
  one_width = λ width all. joins.one_width width
      (All-permutation (λ class. length (sets_of class) ≡ width) classes sorted p all);
  filled = joins.filled;
  fewer = omega (arith, joins.fewer, length_permutation classes sorted p);
  kept = λ e. IsPermutation-trans (map sets_of classes) (map sets_of sorted) (map sets_of joined)
      (IsPermutation-map sets_of classes sorted p)
      (joins.kept (omega (arith, e, length_permutation classes sorted p)));
  differ = joins.differ;
}

pub apart_permuted : (classes sorted : List Class) → IsPermutation classes sorted → AllPairs AreDisjoint classes
    → AllPairs AreDisjoint sorted
apart_permuted classes sorted p apart = apart_from_once sorted
    (λ column. omega (arith, times_permuted classes sorted p column, once_from_apart classes apart column))

-- ---- along each tier

-- what was joined is apart as before
pub below_apart : (width n : ℕ) (classes joined : List Class) → AllPairs AreDisjoint classes
    → JoinsBelow width n classes joined → AllPairs AreDisjoint joined
below_apart width n classes joined apart joins = apart_from_once joined
    (λ column. omega (arith, joins.held column, once_from_apart classes apart column))

differ_permuted : (t : ℕ) (old new : List Class) → IsPermutation (map sets_of old) (map sets_of new)
    → DifferBeside t old → DifferBeside t new
differ_permuted t old new p differ =
    pairs_unmap (λ a b. sets_beside t a ≢ sets_beside t b) sets_of new
    (pairs_permuted (λ a b. sets_beside t a ≢ sets_beside t b) (λ a b h e. h (sym e)) (map sets_of old)
    (map sets_of new) p
    (pairs_map (λ a b. sets_beside t a ≢ sets_beside t b) sets_of old differ))

pub below_more : (width n : ℕ) (classes joined next : List Class) → JoinsBelow width n classes joined
    → JoinsAlong n joined next → JoinsBelow width (n + 1) classes next
below_more width n classes joined next so_far along = record {
  held = λ column. along.held column ∙ so_far.held column;
  one_width = along.one_width width so_far.one_width;
  filled = along.filled;
  fewer = omega (arith, along.fewer, so_far.fewer);
  differ = λ e tier less. ⊎_elim
      (λ before. differ_permuted tier joined next (along.kept (omega (arith, e, along.fewer, so_far.fewer)))
      (so_far.differ (omega (arith, e, along.fewer, so_far.fewer)) tier before))
      (λ last. let here : tier ≡ n = omega arith in subst (λ s. DifferBeside s next) (sym here) along.differ)
      (cases_lt tier n);
}

-- ---- until none are joined any more

-- a list of classes that was joined, of which there were so many before the last time
pub record IsJoinedWithin (width : ℕ) (classes joined : List Class) (count : ℕ) : Type 0 where
  pub held : (column : List Sym) → times_held joined column ≡ times_held classes column
  pub one_width : All (λ class. length (sets_of class) ≡ width) joined
  pub filled : All (λ class. IsTrue (is_filled class)) joined
  pub fewer : length joined ≤ length classes
  pub within : length joined ≤ count
  pub differ : length joined ≡ count → (tier : ℕ) → tier < width → DifferBeside tier joined

pub pieces_within : (width : ℕ) (classes joined : List Class) (count : ℕ) → AllPairs AreDisjoint classes
    → IsJoinedWithin width classes joined count → ArePieces width joined
pieces_within width classes joined count apart so_far =
    pieces_from_once width joined so_far.one_width so_far.filled
    (λ column. omega (arith, so_far.held column, once_from_apart classes apart column))

pub within_more : (width : ℕ) (classes joined next : List Class) (count : ℕ)
    → IsJoinedWithin width classes joined count → JoinsBelow width width joined next
    → IsJoinedWithin width classes next (length joined)
within_more width classes joined next count so_far once = record {
  held = λ column. once.held column ∙ so_far.held column;
  one_width = once.one_width;
  filled = once.filled;
  fewer = omega (arith, once.fewer, so_far.fewer);
  within = once.fewer;
  differ = once.differ;
}

-- ---- classes that differ twice

-- lists that differ do so at a place
first_difference : (xs ys : List ℕ) → length xs ≡ length ys → xs ≢ ys
    → (s : ℕ) × (s < length xs) × (get_or xs s 0 ≢ get_or ys s 0)
first_difference [] [] e other = absurd (other refl)
first_difference [] (y ∷ ys) e other = absurd (omega arith)
first_difference (x ∷ xs) [] e other = absurd (omega arith)
first_difference (x ∷ xs) (y ∷ ys) e other = go (cases_eq x y)
    (λ same. first_difference xs ys (omega arith) (λ tails. other (ap (λ z. z ∷ xs) same ∙ ap (λ zs. y ∷ zs) tails)))
  where
    go : (x ≡ y) ⊎ (x ≡ y → ⊥) → (x ≡ y → (s : ℕ) × (s < length xs) × (get_or xs s 0 ≢ get_or ys s 0))
        → (s : ℕ) × (s < length (x ∷ xs)) × (get_or (x ∷ xs) s 0 ≢ get_or (y ∷ ys) s 0)
    go (inl same) rest = let r = rest same in (suc r.0, omega (arith, r.1), r.2)
    go (inr differ) rest = (zero, omega arith, differ)

-- sets that differ beside a tier do so at another one
difference_beside : (t : ℕ) (xs ys : List ℕ) → length xs ≡ length ys → sets_beside t xs ≢ sets_beside t ys
    → (s : ℕ) × (s < length xs) × (s ≢ t) × (get_or xs s 0 ≢ get_or ys s 0)
difference_beside t xs ys e other =
    let d = first_difference (set xs t 0) (set ys t 0) (omega (arith, length-set xs t 0, length-set ys t 0, e)) other in
    let inside : d.0 < length xs = omega (arith, d.1, length-set xs t 0) in
    let apart : d.0 ≢ t = λ same. d.2 (at_tier d.0 same inside) in (
      d.0,
      inside,
      apart,
      λ same. d.2 (get_or-set_other xs t d.0 0 0 apart ∙ same
          ∙ sym (get_or-set_other ys t d.0 0 0 apart)),
    )
  where
    at_tier : (s : ℕ) → s ≡ t → s < length xs → get_or (set xs t 0) s 0 ≡ get_or (set ys t 0) s 0
    at_tier s same l =
        ap (λ n. get_or (set xs t 0) n 0) same ∙ get_or-set_same xs t 0 0 (omega (arith, same, l))
        ∙ sym (ap (λ n. get_or (set ys t 0) n 0) same ∙ get_or-set_same ys t 0 0 (omega (arith, same, l, e)))

-- differences at two tiers, in either order
twice : (a b : Class) (s t : ℕ) → s ≢ t → get_or (sets_of a) s 0 ≢ get_or (sets_of b) s 0
    → get_or (sets_of a) t 0 ≢ get_or (sets_of b) t 0 → DifferTwice a b
twice a b s t apart at_s at_t = ⊎_elim (λ e. absurd (apart e))
    (λ other. ⊎_elim
    (λ up. record { first = s; second = t; ascending = up; at_first = at_s; at_second = at_t })
    (λ down. record { first = t; second = s; ascending = down; at_first = at_t; at_second = at_s })
    other)
    (cases_order s t)

two_differ : (width : ℕ) (a b : Class) → 0 < width → length (sets_of a) ≡ width → length (sets_of b) ≡ width
    → ((tier : ℕ) → tier < width → sets_beside tier (sets_of a) ≢ sets_beside tier (sets_of b)) → DifferTwice a b
two_differ width a b some wide_a wide_b differ =
    let one = difference_beside 0 (sets_of a) (sets_of b) (omega arith) (differ 0 some) in
    let two = difference_beside one.0 (sets_of a) (sets_of b) (omega arith)
    (differ one.0 (omega (arith, one.1, wide_a))) in
    twice a b two.0 one.0 two.2 two.3 one.3

pub differ_twice : (width : ℕ) (classes : List Class) → 0 < width
    → All (λ class. length (sets_of class) ≡ width) classes → ((tier : ℕ) → tier < width → DifferBeside tier classes)
    → AllPairs DifferTwice classes
differ_twice width classes some wide differ = λ i j d less inside.
    two_differ width (get_or classes i d) (get_or classes j d) some (wide i d (omega arith)) (wide j d inside)
    (λ tier within. differ tier within i j d less inside)

-- ---- the width of classes that are joined

pub pieces_of_width : (width : ℕ) (classes : List Class) → ArePieces width classes
    → ArePieces (width_of classes) classes
pieces_of_width width [] pieces = record {
  one_width = All-nil (λ class. length (sets_of class) ≡ 0);
  filled = pieces.filled;
  apart = pieces.apart;
}
pieces_of_width width (class ∷ classes) pieces = subst (λ w. ArePieces w (class ∷ classes))
    (sym (All-head (λ c. length (sets_of c) ≡ width) class classes pieces.one_width)) pieces
