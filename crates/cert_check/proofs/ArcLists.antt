-- Lists of arcs: the targets that they have on a column, and the columns that are in two of them.
use Rattle.std.proofs.Common.{◌≡◌, ℕ, zero, suc, ◌+◌, ◌<◌, ◌==◌, ◌&&◌, ◌||◌, not, Bool, true, false, IsTrue, List}
use Rattle.std.proofs.Common.{[], ◌∷◌, ◌++◌, take, length, get_or, slice_get, refl, sym, ap, ap₂, ◌∙◌, arith}
use Rattle.std.proofs.Common.{inl, inr, Some, None, Option, Contains, true≢false, eqb-true, eq-eqb, ne_eqb}
use Rattle.std.proofs.lemmas.Bool.{and_parts, cases_order, or_cases, not-true, or_left, or_right}
use Rattle.std.proofs.lemmas.List.Folds.{list_any_at, list_any_more, list_any-append}
use Rattle.std.proofs.lemmas.Option.{slice_get_within, slice_get-get_or}
use Rattle.std.specs.Prelude.{unwrap_or}
use Rattle.tier_core.specs.{declared.sym.Sym.Sym, declared.class.Class.Class, Classes.has}
use Rattle.symbol_class.specs.Held.{some_has}
use Rattle.answer_text.specs.{declared.automaton.ArcLine.ArcLine, ArcClasses.arc_classes}
use Rattle.cert_check.specs.{Arcs.{is_twice, is_led, is_unmatched, do_differ}, Faults.IsListedTarget}
use Rattle.cert_check.proofs.Faultless.{some_same}

both_true : (a b : Bool) → a ≡ true → b ≡ true → (a && b) ≡ true
both_true true b e f = f
both_true false b e f = absurd (true≢false (sym e))

-- ---- targets

pub led_from : (arcs : List ArcLine) (column : List Sym) (m : ℕ) → IsListedTarget arcs column (Some m)
    → is_led arcs m column ≡ true
led_from arcs column m h =
    list_any_at _ _ _ _ h.1.0.1
    (ap (λ (arc : ArcLine). (arc.target == m) && has arc.class column) h.1.0.2 ∙ both_true _ _ (eq-eqb _ m h.1.2) h.1.1)

pub led_to : (arcs : List ArcLine) (column : List Sym) (m : ℕ) → is_led arcs m column ≡ true
    → IsListedTarget arcs column (Some m)
led_to [] column m h = absurd (true≢false (sym h))
led_to (a ∷ arcs) column m h = elim (or_cases _ _ h) [
  | inl e ↦ let parts = and_parts _ _ e in
      (a, ((0, omega arith, refl), parts.1, eqb-true _ m parts.0))
  | inr e ↦ let rest = led_to arcs column m e in
      (rest.0, ((suc rest.1.0.0, omega (arith, rest.1.0.1), rest.1.0.2), rest.1.1, rest.1.2))
]

or_false : (a b : Bool) → b ≡ false → a ≡ (a || b)
or_false true b e = refl
or_false false b e = sym e

-- one arc more, which leads elsewhere or to the target
module _ (arcs : List ArcLine) (n : ℕ) (arc : ArcLine) (within : n < length arcs) (is : arc ≡ get_or arcs n arc)
    (target : ℕ) where
  led_more : (column : List Sym) → is_led (take (n + 1) arcs) target column
      ≡ (is_led (take n arcs) target column || ((arc.target == target) && has arc.class column))
  led_more column = list_any_more (λ x. (x.target == target) && has x.class column) arcs n arc within
      ∙ ap (λ (x : ArcLine). is_led (take n arcs) target column || ((x.target == target) && has x.class column))
      (sym is)

  pub led_elsewhere : (arc.target ≡ target → ⊥) → (classes : List Class)
      → ((column : List Sym) → some_has classes column ≡ is_led (take n arcs) target column)
      → (column : List Sym) → some_has classes column ≡ is_led (take (n + 1) arcs) target column
  led_elsewhere other classes h column = h column ∙ or_false _ _
      (ap (λ b. b && has arc.class column) (ne_eqb arc.target target other)) ∙ sym (led_more _)

  pub led_there : arc.target ≡ target → (classes more : List Class) → more ≡ classes ++ arc.class ∷ []
      → ((column : List Sym) → some_has classes column ≡ is_led (take n arcs) target column)
      → (column : List Sym) → some_has more column ≡ is_led (take (n + 1) arcs) target column
  led_there same classes more e h column =
      ap (λ cs. some_has cs column) e ∙ list_any-append (λ class. has class column) classes (arc.class ∷ []) ∙ ap₂
      (λ a b. a || b) (h column) (sym (or_false _ _ refl)) ∙ ap
      (λ b. is_led (take n arcs) target column || (b && has arc.class column)) (sym (eq-eqb _ _ same)) ∙ sym
      (led_more _)

-- an arc that holds a column on which no other arc leads to its target
pub unmatched_to : (arcs others : List ArcLine) (column : List Sym) → is_unmatched arcs others column ≡ true
    → (arc : ArcLine) × (Contains arcs arc × (IsTrue (has arc.class column)
    × (is_led others arc.target column ≡ false)))
unmatched_to [] others column h = absurd (true≢false (sym h))
unmatched_to (a ∷ arcs) others column h = elim (or_cases _ _ h) [
  | inl e ↦ let parts = and_parts _ _ e in
      (a, ((0, omega arith, refl), (parts.0, not-true _ parts.1)))
  | inr e ↦ let rest = unmatched_to arcs others column e in
      (rest.0, ((suc rest.1.0.0, omega (arith, rest.1.0.1), rest.1.0.2), rest.1.1))
]

pub unmatched_from : (arcs others : List ArcLine) (column : List Sym) (arc : ArcLine) → Contains arcs arc
    → IsTrue (has arc.class column) → is_led others arc.target column ≡ false
    → is_unmatched arcs others column ≡ true
unmatched_from arcs others column arc h holds e =
    list_any_at _ _ _ _ h.1 (ap (λ (x : ArcLine). has x.class column && not (is_led others x.target column)) h.2 ∙
    both_true _ _ holds (ap not e))

-- a column has one target at most
abbrev pub HasOneTarget : List ArcLine → List Sym → Type 0
HasOneTarget arcs column = (m n : ℕ) → IsListedTarget arcs column (Some m) → IsListedTarget arcs column (Some n)
    → m ≡ n

-- where no column is in two arcs, it has one target
pub one_target : (arcs : List ArcLine) (column : List Sym) → ((i j : ℕ) (x y : ArcLine) → i < j
    → slice_get arcs i ≡ Some x → slice_get arcs j ≡ Some y → IsTrue (has x.class column)
    → IsTrue (has y.class column) → ⊥) → HasOneTarget arcs column
one_target arcs column two m n a b = elim (cases_order a.1.0.0 b.1.0.0) [
  | inl same ↦ sym a.1.2 ∙ ap (λ (x : ArcLine). x.target)
      (some_same (sym (numbered a.0 a.1.0) ∙ ap (slice_get arcs) same ∙ numbered b.0 b.1.0)) ∙ b.1.2
  | inr other ↦ elim other [
    | inl less ↦ absurd (two _ _ a.0 b.0 less (numbered a.0 a.1.0) (numbered b.0 b.1.0) a.1.1 b.1.1)
    | inr more ↦ absurd (two _ _ b.0 a.0 more (numbered b.0 b.1.0) (numbered a.0 a.1.0) b.1.1 a.1.1)
  ]
]
  where
    numbered : (arc : ArcLine) (h : Contains arcs arc) → slice_get arcs h.0 ≡ Some arc
    numbered arc h = slice_get-get_or _ _ _ h.1 ∙ ap (λ (x : ArcLine). Some x) h.2

module _ (arcs others : List ArcLine) (column : List Sym) (one : HasOneTarget arcs column)
    (single : HasOneTarget others column) where
  -- a target of an arc is that of another, where nothing is unmatched
  matched : (xs ys : List ArcLine) (m : ℕ) → is_unmatched xs ys column ≡ false → IsListedTarget xs column (Some m)
      → IsListedTarget ys column (Some m)
  matched xs ys m e h = by _ refl
    where
      by : (b : Bool) → is_led ys h.0.target column ≡ b → IsListedTarget ys column (Some m)
      by true f = rw h.1.2 at (led_to ys _ _ f)
      by false f = absurd (true≢false (sym (unmatched_from xs ys _ _ h.1.0 h.1.1 f) ∙ e))

  neither : (a b : Bool) → (a || b) ≡ false → (a ≡ false) × (b ≡ false)
  neither true b e = absurd (true≢false e)
  neither false b e = (refl, e)

  pub targets_agree : do_differ arcs others column ≡ false → (s t : Option ℕ) → IsListedTarget arcs column s
      → IsListedTarget others column t → s ≡ t
  targets_agree e None None a b = refl
  targets_agree e None (Some n) a b =
      let back = matched _ _ n (neither _ _ e).1 b in
      absurd (a back.0 back.1.0 back.1.1)
  targets_agree e (Some m) None a b =
      let forth = matched _ _ m (neither _ _ e).0 a in
      absurd (b forth.0 forth.1.0 forth.1.1)
  targets_agree e (Some m) (Some n) a b =
      let forth = matched _ _ m (neither _ _ e).0 a in
      ap (λ (x : ℕ). Some x) (single m n forth b)

  -- a target of an unmatched arc is not that of the others
  unlike : (xs ys : List ArcLine) → HasOneTarget xs column → is_unmatched xs ys column ≡ true → (s t : Option ℕ)
      → IsListedTarget xs column s → IsListedTarget ys column t → s ≡ t → ⊥
  unlike xs ys only h None t a b e = let arc = unmatched_to xs ys _ h in a arc.0 arc.1.0 arc.1.1.0
  unlike xs ys only h (Some m) None a b e = absurd (none_some m e)
    where
      none_some : (n : ℕ) → Some n ≡ None → ⊥
      none_some n f = cc
  unlike xs ys only h (Some m) (Some n) a b e =
      let arc = unmatched_to xs ys _ h in
      let own : IsListedTarget xs column (Some arc.0.target) = (arc.0, (arc.1.0, arc.1.1.0, refl)) in
      let same = ap (λ o. unwrap_or o 0) (sym e) ∙ only m arc.0.target a own in
      true≢false (sym (led_from ys _ _ (rw same at b)) ∙ arc.1.1.1)

  pub targets_differ : do_differ arcs others column ≡ true → (s t : Option ℕ) → IsListedTarget arcs column s
      → IsListedTarget others column t → s ≡ t → ⊥
  targets_differ h s t a b e = elim (or_cases _ _ h) [
    | inl k ↦ unlike _ _ one k s t a b e
    | inr k ↦ unlike _ _ single k t s b a (sym e)
  ]

-- ---- columns in two arcs

some_arc : (arcs : List ArcLine) (column : List Sym) (i : ℕ) (arc : ArcLine) → slice_get arcs i ≡ Some arc
    → IsTrue (has arc.class column) → some_has (arc_classes arcs) column ≡ true
some_arc [] column i arc e h = absurd (omega (arith, slice_get_within [] i _ e))
some_arc (a ∷ arcs) column zero arc e h = or_left (has a.class column) (some_has (arc_classes arcs) column)
    (ap (λ o. has (unwrap_or o arc).class column) e ∙ h)
some_arc (a ∷ arcs) column (suc i) arc e h = or_right (has a.class column) (some_has (arc_classes arcs) column)
    (some_arc arcs _ i _ e h)

pub arc_there : (arcs : List ArcLine) (column : List Sym) → some_has (arc_classes arcs) column ≡ true
    → (i : ℕ) × ((arc : ArcLine) × ((slice_get arcs i ≡ Some arc) × IsTrue (has arc.class column)))
arc_there [] column h = absurd (true≢false (sym h))
arc_there (a ∷ arcs) column h = elim (or_cases _ _ h) [
  | inl e ↦ (0, (a, (refl, e)))
  | inr e ↦ let rest = arc_there arcs _ e in (suc rest.0, (rest.1.0, (rest.1.1.0, rest.1.1.1)))
]

-- two arcs that both hold a column
pub record AreTwo (arcs : List ArcLine) (column : List Sym) : Type 0 where
  pub first : ℕ
  pub second : ℕ
  pub ascending : first < second
  pub first_arc : ArcLine
  pub first_is : slice_get arcs first ≡ Some first_arc
  pub second_arc : ArcLine
  pub second_is : slice_get arcs second ≡ Some second_arc
  pub in_first : IsTrue (has first_arc.class column)
  pub in_second : IsTrue (has second_arc.class column)

pub twice_to : (arcs : List ArcLine) (column : List Sym) → is_twice arcs column ≡ true → AreTwo arcs column
twice_to [] column h = absurd (true≢false (sym h))
twice_to (a ∷ arcs) column h = elim (or_cases _ _ h) [
  | inl e ↦ let parts = and_parts _ _ e in
      let there = arc_there arcs column parts.1 in
      record {
        first = 0;
        second = suc there.0;
        ascending = omega arith;
        first_arc = a;
        first_is = refl;
        second_arc = there.1.0;
        second_is = there.1.1.0;
        in_first = parts.0;
        in_second = there.1.1.1;
      }
  | inr e ↦ let rest = twice_to arcs column e in
      record {
        first = suc rest.first;
        second = suc rest.second;
        ascending = omega (arith, rest.ascending);
        first_arc = rest.first_arc;
        first_is = rest.first_is;
        second_arc = rest.second_arc;
        second_is = rest.second_is;
        in_first = rest.in_first;
        in_second = rest.in_second;
      }
]

pub twice_from : (arcs : List ArcLine) (column : List Sym) (i j : ℕ) (a b : ArcLine) → i < j
    → slice_get arcs i ≡ Some a → slice_get arcs j ≡ Some b → IsTrue (has a.class column)
    → IsTrue (has b.class column) → is_twice arcs column ≡ true
twice_from [] column i j a b l e f h k = absurd (omega (arith, slice_get_within [] i a e))
twice_from (x ∷ arcs) column i zero a b l e f h k = absurd (omega (arith, l))
twice_from (x ∷ arcs) column zero (suc j) a b l e f h k =
    or_left (has x.class column && some_has (arc_classes arcs) column) (is_twice arcs column)
    (both_true _ _ (ap (λ o. has (unwrap_or o a).class column) e ∙ h) (some_arc _ column j b f k))
twice_from (x ∷ arcs) column (suc i) (suc j) a b l e f h k =
    or_right (has x.class column && some_has (arc_classes arcs) column) (is_twice arcs column)
    (twice_from arcs column i j a b (omega (arith, l)) e f h k)
