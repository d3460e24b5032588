-- Lines that are sorted by target are joined group by group.
use Rattle.std.proofs.Common.{◌≡◌, ◌≢◌, ℕ, suc, ◌+◌, ◌<◌, ◌≤◌, Bool, true, false, List, [], ◌∷◌, ◌++◌, map, take}
use Rattle.std.proofs.Common.{length, get_or, refl, ap, sym, ◌∙◌, subst, arith, IsTrue, All, AllPairs, Contains}
use Rattle.std.proofs.{Common.{IsPermutation, ⊎_elim, true≢false}, lemmas.Bool.cases_lt}
use Rattle.std.proofs.lemmas.Cmp.{nat_cmp_total, nat_list_cmp_total}
use Rattle.std.proofs.lemmas.List.{map-append, length-map, get_or-map, get_or_default, take_more, take_all}
use Rattle.std.proofs.lemmas.List.Elements.{All-nil, All-append, All-map, All-push, All-contains}
use Rattle.std.proofs.lemmas.List.Kept.{AllPairs-cons}
use Rattle.std.proofs.lemmas.List.Sorted.{ranks_by, sorted_far, All-permutation, IsPermutation-map}
use Rattle.std.specs.{Ordering.{is_lt, nat_cmp, ordering_then}, Cmp.Lexicographic.slice_cmp, Cmp.nat_cmp_is}
use Rattle.std.specs.{declared.cmp.Ordering.TheVariants.{Less, Equal, Greater}, List.Sorted.IsSorted}
use Rattle.tier_core.specs.{declared.sym.Sym.Sym, declared.class.Class.Class, Classes.{sets_of, AreDisjoint}}
use Rattle.tier_core.specs.Filled.{is_filled}
use Rattle.symbol_class.specs.{ClassOrder.class_cmp, Held.{times_held, some_has, width_of, ArePieces}}
use Rattle.symbol_class.specs.Joined.{DifferTwice}
use Rattle.symbol_class.proofs.{Pairs.{pairs_map, pairs_permuted}, Times.{pairs_head, pairs_tail, none_held}}
use Rattle.symbol_class.proofs.Times.{some_held, some_from_same, times_permuted, once_from_apart, pieces_from_once}
use Rattle.symbol_class.proofs.JoinedClasses.{pieces_of_width, apart_permuted}
use Rattle.answer_text.specs.{declared.automaton.ArcLine.ArcLine, Right.arc_cmp, ArcClasses.arc_classes}
use Rattle.kind_orders.specs.{JoinedArcs.AreJoined, JoinedLines.{arc_to, times_to, AreJoinedFrom, AddsJoined}}
use Rattle.kind_orders.proofs.ArcCounts.{adds, times-arc, times-both, times-take, times-permuted, times-target}
use Rattle.kind_orders.proofs.ArcCounts.{times-same, anywhere, once_if_apart}

-- pairs of two lists
pub pairs-append : {X : Type 0} (R : X → X → Type 0) (xs ys : List X) → AllPairs R xs → AllPairs R ys
    → ((x : X) → Contains xs x → All (R x) ys) → AllPairs R (xs ++ ys)
pairs-append R [] ys left right across = right
pairs-append R (x ∷ xs) ys left right across = AllPairs-cons R x (xs ++ ys)
    (All-append (R x) xs ys (pairs_head R x xs left) (across x (0, omega arith, refl)))
    (pairs-append R xs ys (pairs_tail R x xs left) right
    (λ y c. across y (suc c.0, omega (arith, c.1), c.2)))

-- classes that are apart hold each column as often as others that hold the same columns
held_same : (xs ys : List Class) (column : List Sym) → AllPairs AreDisjoint xs → AllPairs AreDisjoint ys
    → some_has xs column ≡ some_has ys column → times_held xs column ≡ times_held ys column
held_same xs ys column apart_xs apart_ys same = go (some_has ys column) refl
  where
    go : (b : Bool) → some_has ys column ≡ b → times_held xs column ≡ times_held ys column
    go true e = omega (
      arith,
      some_held xs column (same ∙ e),
      some_held ys column e,
      once_from_apart xs apart_xs column,
      once_from_apart ys apart_ys column,
    )
    go false e = omega (arith, none_held xs column (same ∙ e), none_held ys column e)

turned : (a b : Class) → DifferTwice a b → DifferTwice b a
turned a b differ = record {
  first = differ.first;
  second = differ.second;
  ascending = differ.ascending;
  at_first = λ e. differ.at_first (sym e);
  at_second = λ e. differ.at_second (sym e);
}

-- what holds of joined classes holds in any order
pub sorted_pieces : (width : ℕ) (joined sorted : List Class) → IsPermutation joined sorted → ArePieces width joined
    → ArePieces width sorted
sorted_pieces width joined sorted p pieces = record {
  one_width = All-permutation (λ class. length (sets_of class) ≡ width) joined sorted p pieces.one_width;
  filled = All-permutation (λ class. IsTrue (is_filled class)) joined sorted p pieces.filled;
  apart = apart_permuted joined sorted p pieces.apart;
}

pub sorted_columns : (joined sorted : List Class) → IsPermutation joined sorted → (column : List Sym)
    → some_has sorted column ≡ some_has joined column
sorted_columns joined sorted p column = some_from_same sorted joined column (times_permuted joined sorted p column)

pub sorted_differ : (joined sorted : List Class) → IsPermutation joined sorted → AllPairs DifferTwice joined
    → AllPairs DifferTwice sorted
sorted_differ joined sorted p differ = pairs_permuted DifferTwice turned joined sorted p differ

-- what `join` gives is put at the end of other arcs
pub adds_joined : (target width : ℕ) (classes joined : List Class) (old new : List ArcLine)
    → ArePieces width classes → ArePieces width joined
    → ((column : List Sym) → some_has joined column ≡ some_has classes column) → AllPairs DifferTwice joined
    → IsSorted class_cmp joined → new ≡ old ++ map (arc_to target) joined → AddsJoined target classes old new
adds_joined target width classes joined old new pieces made columns differ sorted is = record {
  added = joined;
  new_is = is;
  held = λ column. held_same joined classes column made.apart pieces.apart (columns column);
  filled = made.filled;
  differ = differ;
  sorted = sorted;
}

-- and so is one class as it is
pub adds_one : (target width : ℕ) (classes : List Class) (old new : List ArcLine) → length classes < 2
    → ArePieces width classes → new ≡ old ++ map (arc_to target) classes → AddsJoined target classes old new
adds_one target width classes old new few pieces is = record {
  added = classes;
  new_is = is;
  held = λ column. refl;
  filled = pieces.filled;
  differ = λ i j d less inside. absurd (omega arith);
  sorted = λ k d low inside. absurd (omega arith);
}

-- ---- lines and groups

-- an arc is not above another in the order of arcs
abbrev pub NotAbove : ArcLine → ArcLine → Type 0
NotAbove a b = is_lt (arc_cmp b a) ≡ false

-- an arc to a lower target is not above
below_not_above : (a b : ArcLine) → a.target < b.target → NotAbove a b
below_not_above a b less =
    sym (ap (λ o. is_lt (ordering_then o (slice_cmp nat_cmp (sets_of b.class) (sets_of a.class))))
    (nat_cmp_is b.target a.target Greater less))

-- arcs to one target on sorted classes
sorted_to : (target : ℕ) (classes : List Class) → IsSorted class_cmp classes
    → AllPairs NotAbove (map (arc_to target) classes)
sorted_to target classes sorted = pairs_map NotAbove (arc_to target) classes (λ i j d less inside.
    let a = get_or classes i d in
    let b = get_or classes j d in
    sym (ap (λ o. is_lt (ordering_then o (slice_cmp nat_cmp (sets_of b) (sets_of a))))
    (nat_cmp_is target target Equal refl))
    ∙ sorted_far (λ x y. is_lt (class_cmp x y)) (ranks_by nat_list_cmp_total sets_of) classes sorted i j d
    (omega arith) inside)

-- The first n lines are joined, but for those of the group at hand.
pub record AreJoinedSoFar (lines : List ArcLine) (n : ℕ) (done : List ArcLine) (target : ℕ)
    (classes : List Class) : Type 0 where
  pub held : (to : ℕ → Bool) (column : List Sym)
      → times_to to done column + times_to to (map (arc_to target) classes) column ≡ times_to to (take n lines) column
  pub filled : All (λ (arc : ArcLine). IsTrue (is_filled arc.class)) done
  pub joined : AreJoined done
  pub rising : AllPairs NotAbove done
  pub below : All (λ (arc : ArcLine). arc.target < target) done
  pub pieces : ArePieces (width_of (arc_classes lines)) classes
  pub ahead : (k : ℕ) (d : ArcLine) → n ≤ k → k < length lines → target ≤ (get_or lines k d).target

-- The first n lines are joined, and none has a greater target.
pub record AreJoinedUpto (lines : List ArcLine) (n : ℕ) (done : List ArcLine) (target : ℕ) : Type 0 where
  pub held : (to : ℕ → Bool) (column : List Sym) → times_to to done column ≡ times_to to (take n lines) column
  pub filled : All (λ (arc : ArcLine). IsTrue (is_filled arc.class)) done
  pub joined : AreJoined done
  pub rising : AllPairs NotAbove done
  pub upto : All (λ (arc : ArcLine). arc.target ≤ target) done

-- arcs of one target are joined if any two of their classes differ twice
joined_to : (target : ℕ) (classes : List Class) → AllPairs DifferTwice classes → AreJoined (map (arc_to target) classes)
joined_to target classes differ =
    pairs_map (λ (a b : ArcLine). a.target ≡ b.target → DifferTwice a.class b.class) (arc_to target) classes
    (λ i j d less inside same. differ i j d less inside)

-- the group at hand is at an end
pub group_joined : (lines : List ArcLine) (n : ℕ) (done new : List ArcLine) (target : ℕ) (classes : List Class)
    → AreJoinedSoFar lines n done target classes → AddsJoined target classes done new
    → AreJoinedUpto lines n new target
group_joined lines n done new target classes a adds = subst (λ arcs. AreJoinedUpto lines n arcs target)
    (sym adds.new_is) (record {
      held = λ to column. omega (
        arith,
        times-both to column done (map (arc_to target) adds.added),
        times-same to column target adds.added classes (adds.held column),
        a.held to column,
      );
      filled = All-append (λ (arc : ArcLine). IsTrue (is_filled arc.class)) done (map (arc_to target) adds.added)
          a.filled (All-map (λ (arc : ArcLine). IsTrue (is_filled arc.class)) (arc_to target) adds.added adds.filled);
      joined = pairs-append (λ (x y : ArcLine). x.target ≡ y.target → DifferTwice x.class y.class) done
          (map (arc_to target) adds.added) a.joined (joined_to target adds.added adds.differ)
          (λ arc c. All-map (λ (y : ArcLine). arc.target ≡ y.target → DifferTwice arc.class y.class) (arc_to target)
          adds.added (λ k d inside same. let less = All-contains (λ (x : ArcLine). x.target < target) done arc a.below c
          in absurd (omega arith)));
      rising = pairs-append NotAbove done (map (arc_to target) adds.added) a.rising
          (sorted_to target adds.added adds.sorted)
          (λ arc c. All-map (NotAbove arc) (arc_to target) adds.added (λ k d inside.
          below_not_above arc (arc_to target (get_or adds.added k d))
          (All-contains (λ (x : ArcLine). x.target < target) done arc a.below c)));
      upto = All-append (λ (arc : ArcLine). arc.target ≤ target) done (map (arc_to target) adds.added)
          (λ k d inside. let less = a.below k d inside in omega arith)
          (All-map (λ (arc : ArcLine). arc.target ≤ target) (arc_to target) adds.added (λ k d inside. omega arith));
    })

module _ (lines : List ArcLine) (pieces : ArePieces (width_of (arc_classes lines)) (arc_classes lines))
    (sorted : AllPairs (λ (a b : ArcLine). a.target ≤ b.target) lines) (n : ℕ) (line : ArcLine)
    (inside : n < length lines) (is : line ≡ get_or lines n line) where
  abbrev width : ℕ
  width = width_of (arc_classes lines)

  wide : length (sets_of line.class) ≡ width
  wide = subst (λ (arc : ArcLine). length (sets_of arc.class) ≡ width) (sym is)
      (subst (λ class. length (sets_of class) ≡ width)
      (get_or-map (λ (arc : ArcLine). arc.class) lines n line line.class inside)
      (pieces.one_width n line.class (omega (arith, length-map lines (λ (arc : ArcLine). arc.class)))))

  filled : IsTrue (is_filled line.class)
  filled = subst (λ (arc : ArcLine). IsTrue (is_filled arc.class)) (sym is)
      (subst (λ class. IsTrue (is_filled class))
      (get_or-map (λ (arc : ArcLine). arc.class) lines n line line.class inside)
      (pieces.filled n line.class (omega (arith, length-map lines (λ (arc : ArcLine). arc.class)))))

  -- no line behind it has a lower target
  line_ahead : (k : ℕ) (d : ArcLine) → n + 1 ≤ k → k < length lines → line.target ≤ (get_or lines k d).target
  line_ahead k d past within = subst (λ (arc : ArcLine). arc.target ≤ (get_or lines k d).target) (sym is)
      (subst (λ (arc : ArcLine). (get_or lines n line).target ≤ arc.target) (get_or_default lines k line d within)
      (sorted n k line (omega arith) within))

  -- one line more is counted
  taken : (to : ℕ → Bool) (column : List Sym)
      → times_to to (take (n + 1) lines) column ≡ times_to to (take n lines) column + adds to column line
  taken to column =
      let more : take (n + 1) lines ≡ take n lines ++ line ∷ [] =
      take_more lines n line inside ∙ ap (λ arc. take n lines ++ arc ∷ []) (sym is) in
      let count = times-both to column (take n lines) (line ∷ []) in
      let one = times-arc to column line [] in
      omega (arith, ap (λ arcs. times_to to arcs column) more, count, one)

  -- a group that is counted among the lines is one of pieces
  pieces_if : (done : List ArcLine) (target : ℕ) (classes : List Class)
      → All (λ class. length (sets_of class) ≡ width) classes → All (λ class. IsTrue (is_filled class)) classes
      → ((column : List Sym) → times_to anywhere done column + times_to anywhere (map (arc_to target) classes) column
      ≡ times_to anywhere (take (n + 1) lines) column) → ArePieces width classes
  pieces_if done target classes one_width all_filled held = pieces_from_once width classes one_width all_filled
      (λ column. omega (
        arith,
        times-target anywhere column target classes,
        held column,
        times-take anywhere column lines (n + 1),
        once_if_apart lines pieces.apart column,
      ))

  -- the line has the target of the group
  pub same_group : (done : List ArcLine) (target : ℕ) (classes : List Class) → line.target ≡ target
      → AreJoinedSoFar lines n done target classes
      → AreJoinedSoFar lines (n + 1) done target (classes ++ line.class ∷ [])
  same_group done target classes same a =
      let held : (to : ℕ → Bool) (column : List Sym)
      → times_to to done column + times_to to (map (arc_to target) (classes ++ line.class ∷ [])) column
      ≡ times_to to (take (n + 1) lines) column = λ to column. omega (
        arith,
        ap (λ arcs. times_to to arcs column) (map-append (arc_to target) classes (line.class ∷ [])),
        times-both to column (map (arc_to target) classes) (arc_to target line.class ∷ []),
        times-arc to column (arc_to target line.class) [],
        ap (λ t. adds to column (arc_to t line.class)) same,
        a.held to column,
        taken to column,
      ) in
      record {
        held = held;
        filled = a.filled;
        joined = a.joined;
        rising = a.rising;
        below = a.below;
        pieces = pieces_if done target (classes ++ line.class ∷ [])
            (All-push (λ class. length (sets_of class) ≡ width) classes line.class a.pieces.one_width wide)
            (All-push (λ class. IsTrue (is_filled class)) classes line.class a.pieces.filled filled)
            (λ column. held anywhere column);
        ahead = λ k d past within. a.ahead k d (omega arith) within;
      }

  -- the line has another target, and the group is joined
  pub other_group : (done new : List ArcLine) (target : ℕ) (classes : List Class) → line.target ≢ target
      → AreJoinedSoFar lines n done target classes → AddsJoined target classes done new
      → AreJoinedSoFar lines (n + 1) new line.target (line.class ∷ [])
  other_group done new target classes other a add =
      let upto = group_joined lines n done new target classes a add in
      let here : target ≤ line.target = subst (λ (arc : ArcLine). target ≤ arc.target) (sym is)
      (a.ahead n line (omega arith) inside) in
      let held : (to : ℕ → Bool) (column : List Sym)
      → times_to to new column + times_to to (map (arc_to line.target) (line.class ∷ [])) column
      ≡ times_to to (take (n + 1) lines) column = λ to column. omega (
        arith,
        times-arc to column line [],
        upto.held to column,
        taken to column,
      ) in
      record {
        held = held;
        filled = upto.filled;
        joined = upto.joined;
        rising = upto.rising;
        below = λ k d within. let most = upto.upto k d within in omega (arith, other);
        pieces = pieces_if new line.target (line.class ∷ [])
            (All-push (λ class. length (sets_of class) ≡ width) [] line.class
            (All-nil (λ class. length (sets_of class) ≡ width)) wide)
            (All-push (λ class. IsTrue (is_filled class)) [] line.class
            (All-nil (λ class. IsTrue (is_filled class))) filled)
            (λ column. held anywhere column);
        ahead = line_ahead;
      }

-- all lines are joined
pub lines_joined : (lines : List ArcLine) (done new : List ArcLine) (target : ℕ) (classes : List Class)
    → AreJoinedSoFar lines (length lines) done target classes → AddsJoined target classes done new
    → AreJoinedFrom lines new
lines_joined lines done new target classes a add =
    let upto = group_joined lines (length lines) done new target classes a add in
    record {
      held = λ to column. upto.held to column
          ∙ ap (λ arcs. times_to to arcs column) (take_all (length lines) lines (omega arith));
      filled = upto.filled;
      joined = upto.joined;
    }

-- and sorted
pub arcs_rise : (lines : List ArcLine) (n : ℕ) (done new : List ArcLine) (target : ℕ) (classes : List Class)
    → AreJoinedSoFar lines n done target classes → AddsJoined target classes done new → IsSorted arc_cmp new
arcs_rise lines n done new target classes a add k d low inside =
    (group_joined lines n done new target classes a add).rising k (k + 1) d (omega arith) inside

-- ---- lines that are sorted, and arcs

-- sorted lines have targets that never fall
pub targets_rise : (lines : List ArcLine) → IsSorted (λ (a b : ArcLine). nat_cmp a.target b.target) lines
    → AllPairs (λ (a b : ArcLine). a.target ≤ b.target) lines
targets_rise lines sorted = λ i j d less inside.
    let a = get_or lines i d in
    let b = get_or lines j d in
    let kept = sorted_far (λ (x y : ArcLine). is_lt (nat_cmp x.target y.target))
    (ranks_by nat_cmp_total (λ (x : ArcLine). x.target)) lines sorted i j d (omega arith) inside in
    ⊎_elim
    (λ below. absurd (true≢false (ap is_lt (nat_cmp_is b.target a.target Less below) ∙ kept)))
    (λ upto. upto)
    (cases_lt b.target a.target)

-- the classes of lines are pieces in any order
pub pieces_permuted : (width : ℕ) (lines others : List ArcLine) → IsPermutation lines others
    → ArePieces width (arc_classes lines) → ArePieces (width_of (arc_classes others)) (arc_classes others)
pieces_permuted width lines others p pieces =
    let same : IsPermutation (arc_classes lines) (arc_classes others)
    = IsPermutation-map (λ (arc : ArcLine). arc.class) lines others p in
    pieces_of_width width (arc_classes others)
    (sorted_pieces width (arc_classes lines) (arc_classes others) same pieces)

-- what is joined stays so in any order of lines
pub joined_permuted : (moves lines arcs : List ArcLine) → IsPermutation moves lines → AreJoinedFrom lines arcs
    → AreJoinedFrom moves arcs
joined_permuted moves lines arcs p a = record {
  held = λ to column. a.held to column ∙ times-permuted to column moves lines p;
  filled = a.filled;
  joined = a.joined;
}
