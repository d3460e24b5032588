-- Classes that are gathered: what they hold, one by one.
use Rattle.std.proofs.Common.{◌≡◌, ℕ, zero, suc, ◌+◌, ◌-◌, ◌<◌, ◌≤◌, ◌&&◌, ◌||◌, Bool, true, false, IsTrue, List}
use Rattle.std.proofs.Common.{[], ◌∷◌, ◌++◌, take, drop, length, get_or, slice_get, Some, refl, sym, ap, ◌∙◌, subst}
use Rattle.std.proofs.{Common.arith, lemmas.List.{drop_more, drop_all, length-drop, get_or-drop, take_all}}
use Rattle.std.proofs.lemmas.List.Elements.{All-append, All-from_recursion}
use Rattle.std.proofs.{lemmas.List.Folds.{list_any-append, list_any_more}, lemmas.Bool.and_right}
use Rattle.std.specs.List.{list_any}
use Rattle.tier_core.specs.{declared.sym.Sym.Sym, declared.class.Class.Class, Classes.has, Filled.is_filled}
use Rattle.symbol_class.specs.Held.{some_has}
use Rattle.tier_core.proofs.{Filled.empty_holds, Bools.or_false}
use Rattle.answer_text.specs.{declared.automaton.ArcLine.ArcLine, ArcClasses.arc_classes}
use Rattle.cert_check.specs.{Arcs.is_twice, Gathered.{AreFilled, AddsColumns}}

or_assoc : (a b c : Bool) → ((a || b) || c) ≡ (a || (b || c))
or_assoc true b c = refl
or_assoc false b c = refl

pub adds_none : (xs : List Class) → AddsColumns xs xs (λ column. false)
adds_none xs = record { filled = λ h. h; held = λ column. sym (or_false _) }

pub adds_same : (xs ys : List Class) (s t : List Sym → Bool) → ((column : List Sym) → s column ≡ t column)
    → AddsColumns xs ys s → AddsColumns xs ys t
adds_same xs ys s t h a = record {
  filled = a.filled;
  held = λ column. a.held column ∙ ap (λ b. some_has xs column || b) (h column);
}

pub adds_both : (xs ys zs : List Class) (s t : List Sym → Bool) → AddsColumns xs ys s → AddsColumns ys zs t
    → AddsColumns xs zs (λ column. s column || t column)
adds_both xs ys zs s t a b = record {
  filled = λ h. b.filled (a.filled h);
  held = λ column. b.held column ∙ ap (λ c. c || t column) (a.held column)
      ∙ or_assoc (some_has xs column) (s column) (t column);
}

-- classes that are put at the end
pub adds_more : (xs ys zs : List Class) (t : List Sym → Bool) → ys ≡ xs ++ zs → AreFilled zs
    → ((column : List Sym) → some_has zs column ≡ t column) → AddsColumns xs ys t
adds_more xs ys zs t e f h = record {
  filled = λ old. subst AreFilled (sym e) (All-append (λ (class : Class). IsTrue (is_filled class)) xs zs old f);
  held = λ column. ap (λ cs. some_has cs column) e ∙ list_any-append (λ class. has class column) xs zs
      ∙ ap (λ b. some_has xs column || b) (h column);
}

pub adds_one : (xs ys : List Class) (class : Class) → ys ≡ xs ++ class ∷ [] → IsTrue (is_filled class)
    → AddsColumns xs ys (has class)
adds_one xs ys class e f = adds_more xs ys _ _ e
    (All-from_recursion (λ (c : Class). IsTrue (is_filled c)) (class ∷ []) (f, tt)) (λ column. or_false _)

-- what is added by an arc more
pub arc_more : (xs ys zs : List Class) (test : ArcLine → List Sym → Bool) (arcs : List ArcLine) (n : ℕ) (arc : ArcLine)
    → n < length arcs → arc ≡ get_or arcs n arc
    → AddsColumns xs ys (λ column. list_any (λ x. test x column) (take n arcs)) → AddsColumns ys zs (test arc)
    → AddsColumns xs zs (λ column. list_any (λ x. test x column) (take (n + 1) arcs))
arc_more xs ys zs test arcs n arc l e a b =
    adds_same xs zs _ _ (λ column. ap (λ x. list_any (λ y. test y column) (take n arcs) || test x column) e ∙ sym
    (list_any_more (λ x. test x column) arcs n arc l)) (adds_both xs ys zs _ _ a b)

-- ---- what a class has in common with arcs

common_or : (a b c : Bool) → ((a && b) || (a && c)) ≡ (a && (b || c))
common_or true b c = refl
common_or false b c = refl

pub common_held : (class : Class) (arcs : List ArcLine) (column : List Sym)
    → list_any (λ arc. has class column && has arc.class column) arcs
    ≡ (has class column && some_has (arc_classes arcs) column)
common_held class [] column = sym (and_right (has class column) false refl)
common_held class (arc ∷ arcs) column =
    ap (λ b. (has class column && has arc.class column) || b) (common_held class arcs column)
    ∙ common_or (has class column) (has arc.class column) (some_has (arc_classes arcs) column)

-- what an arc has in common with those behind it, up to a place
abbrev pub is_shared_to : List ArcLine → ℕ → ℕ → Class → List Sym → Bool
is_shared_to arcs place n class column =
    list_any (λ arc. has class column && has arc.class column) (take (n - (place + 1)) (drop (place + 1) arcs))

pub shared_more : (arcs : List ArcLine) (place n : ℕ) (class : Class) (arc : ArcLine) (xs ys zs : List Class)
    → place + 1 ≤ n → n < length arcs → arc ≡ get_or arcs n arc
    → AddsColumns xs ys (is_shared_to arcs place n class)
    → AddsColumns ys zs (λ column. has class column && has arc.class column)
    → AddsColumns xs zs (is_shared_to arcs place (n + 1) class)
shared_more arcs place n class arc xs ys zs from l e a b =
    let one_more : n - (place + 1) + 1 ≡ n + 1 - (place + 1) = omega (arith, from) in
    let at : place + 1 + (n - (place + 1)) ≡ n = omega (arith, from) in
    rw one_more at (arc_more xs ys zs _ _ (n - (place + 1)) arc (omega (arith, from, l, length-drop (place + 1) arcs))
    (e ∙ sym (ap (λ m. get_or arcs m arc) at) ∙ sym (get_or-drop (place + 1) arcs (n - (place + 1)) arc)) a b)

pub shared_all : (arcs : List ArcLine) (place n : ℕ) (class : Class) (xs ys : List Class) → length arcs ≤ n
    → AddsColumns xs ys (is_shared_to arcs place n class)
    → AddsColumns xs ys (λ column. has class column && some_has (arc_classes (drop (place + 1) arcs)) column)
shared_all arcs place n class xs ys l a = adds_same xs ys _ _ (λ column. ap
    (list_any (λ (x : ArcLine). has class column && has x.class column))
    (take_all _ _ (omega (arith, l, length-drop (place + 1) arcs))) ∙ common_held _ _ _) a

pub shared_none : (arcs : List ArcLine) (place : ℕ) (class : Class) (xs : List Class)
    → AddsColumns xs xs (is_shared_to arcs place (place + 1) class)
shared_none arcs place class xs = adds_same xs xs _ _ (λ column. ap
    (λ n. list_any (λ (x : ArcLine). has class column && has x.class column) (take n (drop (place + 1) arcs)))
    (let e : 0 ≡ place + 1 - (place + 1) = omega arith in e)) (adds_none xs)

-- ---- columns in two arcs

-- Before a place of some arcs the columns are gathered that are in two arcs, the first of them there.
pub record GathersTwice (old new : List Class) (arcs : List ArcLine) (n : ℕ) : Type 0 where
  pub filled : AreFilled old → AreFilled new
  pub held : (column : List Sym) → (some_has new column || is_twice (drop n arcs) column)
      ≡ (some_has old column || is_twice arcs column)

pub twice_none : (old : List Class) (arcs : List ArcLine) → GathersTwice old old arcs 0
twice_none old arcs = record { filled = λ h. h; held = λ column. refl }

pub twice_more : (old new more : List Class) (arcs : List ArcLine) (n : ℕ) (arc : ArcLine) → n < length arcs
    → arc ≡ get_or arcs n arc → GathersTwice old new arcs n
    → AddsColumns new more (λ column. has arc.class column && some_has (arc_classes (drop (n + 1) arcs)) column)
    → GathersTwice old more arcs (n + 1)
twice_more old new more arcs n arc l e a b = record {
  filled = λ h. b.filled (a.filled h);
  held = λ column.
      ap (λ x. x || is_twice (drop (n + 1) arcs) column) (b.held column)
      ∙ or_assoc (some_has new column) (has arc.class column && some_has (arc_classes (drop (n + 1) arcs)) column)
      (is_twice (drop (n + 1) arcs) column)
      ∙ ap (λ xs. some_has new column || is_twice xs column)
      (sym (drop_more arcs n arc l ∙ ap (λ x. x ∷ drop (n + 1) arcs) (sym e)))
      ∙ a.held column;
}

pub twice_all : (old new : List Class) (arcs : List ArcLine) (n : ℕ) → length arcs ≤ n → GathersTwice old new arcs n
    → AddsColumns old new (is_twice arcs)
twice_all old new arcs n l a = record {
  filled = a.filled;
  held = λ column. sym (or_false _) ∙ ap (λ xs. some_has new column || is_twice xs column) (sym (drop_all n arcs l)) ∙
      a.held column;
}

-- an empty class has nothing to add
pub adds_empty : (xs : List Class) (class : Class) → is_filled class ≡ false → AddsColumns xs xs (has class)
adds_empty xs class e = adds_same xs xs _ _ (λ column. sym (empty_holds _ _ e)) (adds_none xs)

-- there is an element with each number
pub one_there : {X : Type 0} (xs : List X) (i : ℕ) → i < length xs → (x : X) × (slice_get xs i ≡ Some x)
one_there [] i l = absurd (omega (arith, l))
one_there (x ∷ xs) zero l = (x, refl)
one_there (x ∷ xs) (suc i) l = one_there xs i (omega (arith, l))
