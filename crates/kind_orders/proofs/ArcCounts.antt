-- How many arcs to such targets have a column.
use Rattle.std.proofs.Common.{◌≡◌, ℕ, suc, ◌+◌, ◌≤◌, ◌==◌, Bool, true, false, ◌&&◌, cond, List, [], ◌∷◌, ◌++◌, map}
use Rattle.std.proofs.Common.{take, get_or, refl, ap, sym, ◌∙◌, arith, AllPairs, Contains, IsPermutation}
use Rattle.std.proofs.lemmas.Bool.{and_parts, and_from, eqb-true, eq-eqb}
use Rattle.std.proofs.lemmas.List.Sums.{sum_by-cons, sum_by-append, sum_by-take-le, get_or-le-sum_by}
use Rattle.std.proofs.lemmas.List.Sorted.{sum_by-IsPermutation}
use Rattle.std.specs.List.{count_by}
use Rattle.tier_core.specs.{declared.sym.Sym.Sym, declared.class.Class.Class, Classes.{has, AreDisjoint}}
use Rattle.symbol_class.specs.Held.{times_held, once_if}
use Rattle.symbol_class.proofs.{Pairs.pairs_unmap, Times.{times-cons, once_from_apart, apart_from_once}}
use Rattle.answer_text.specs.{declared.automaton.ArcLine.ArcLine, ArcClasses.arc_classes}
use Rattle.kind_orders.specs.JoinedLines.{arc_to, times_to}

-- ---- an element that is counted

pub counted : {X : Type 0} (p : X → Bool) (xs : List X) → 1 ≤ count_by p xs
    → (x : X) × (Contains xs x × (p x ≡ true))
counted p [] some = absurd (omega arith)
counted {X} p (x ∷ xs) some = go (p x) refl (counted p xs)
  where
    go : (b : Bool) → p x ≡ b → (1 ≤ count_by p xs → (y : X) × (Contains xs y × (p y ≡ true)))
        → (y : X) × (Contains (x ∷ xs) y × (p y ≡ true))
    go true here rest = (x, ((0, omega arith, refl), here))
    go false here rest =
        let more = rest (omega (arith, sum_by-cons (λ y. cond (p y) 1 0) x xs, ap {B = ℕ} (λ b. cond b 1 0) here)) in
        (more.0, ((suc more.1.0.0, omega (arith, more.1.0.1), more.1.0.2), more.1.1))

module _ (to : ℕ → Bool) (column : List Sym) where
  -- what one arc adds
  abbrev pub adds : ArcLine → ℕ
  adds arc = once_if (to arc.target && has arc.class column)

  pub times-arc : (arc : ArcLine) (arcs : List ArcLine)
      → times_to to (arc ∷ arcs) column ≡ adds arc + times_to to arcs column
  times-arc arc arcs = sum_by-cons adds arc arcs

  pub times-both : (arcs others : List ArcLine)
      → times_to to (arcs ++ others) column ≡ times_to to arcs column + times_to to others column
  times-both arcs others = sum_by-append adds arcs others

  pub times-take : (arcs : List ArcLine) (n : ℕ) → times_to to (take n arcs) column ≤ times_to to arcs column
  times-take arcs n = sum_by-take-le adds arcs n

  pub times-permuted : (arcs others : List ArcLine) → IsPermutation arcs others
      → times_to to others column ≡ times_to to arcs column
  times-permuted arcs others p = sum_by-IsPermutation adds arcs others p

  -- arcs to one target have it as often as their classes, if that is such a target
  pub times-target : (target : ℕ) (classes : List Class)
      → times_to to (map (arc_to target) classes) column ≡ cond (to target) (times_held classes column) 0
  times-target target classes = go (to target) refl classes
    where
      go : (b : Bool) → to target ≡ b → (cs : List Class)
          → times_to to (map (arc_to target) cs) column ≡ cond b (times_held cs column) 0
      go true e [] = refl
      go false e [] = refl
      go true e (c ∷ cs) = omega (
        arith,
        times-arc (arc_to target c) (map (arc_to target) cs),
        times-cons c cs column,
        ap (λ b. once_if (b && has c column)) e,
        go true e cs,
      )
      go false e (c ∷ cs) = omega (
        arith,
        times-arc (arc_to target c) (map (arc_to target) cs),
        ap (λ b. once_if (b && has c column)) e,
        go false e cs,
      )

  -- so it is only the columns of the classes that count
  pub times-same : (target : ℕ) (classes others : List Class) → times_held classes column ≡ times_held others column
      → times_to to (map (arc_to target) classes) column ≡ times_to to (map (arc_to target) others) column
  times-same target classes others same = times-target target classes ∙ ap (λ n. cond (to target) n 0) same
      ∙ sym (times-target target others)

-- arcs to any target
abbrev pub anywhere : ℕ → Bool
anywhere target = true

pub times-all : (arcs : List ArcLine) (column : List Sym)
    → times_to anywhere arcs column ≡ times_held (arc_classes arcs) column
times-all [] column = refl
times-all (arc ∷ arcs) column = omega (
  arith,
  times-arc anywhere column arc arcs,
  times-cons arc.class (arc_classes arcs) column,
  times-all arcs column,
)

-- no column is in two arcs of which none has it twice
pub apart_if_once : (arcs : List ArcLine) → ((column : List Sym) → times_to anywhere arcs column ≤ 1)
    → AllPairs (λ (a b : ArcLine). AreDisjoint a.class b.class) arcs
apart_if_once arcs once = pairs_unmap AreDisjoint (λ (arc : ArcLine). arc.class) arcs
    (apart_from_once (arc_classes arcs) (λ column. omega (arith, once column, times-all arcs column)))

pub once_if_apart : (arcs : List ArcLine) → AllPairs AreDisjoint (arc_classes arcs) → (column : List Sym)
    → times_to anywhere arcs column ≤ 1
once_if_apart arcs apart column = omega (arith, times-all arcs column, once_from_apart (arc_classes arcs) apart column)

-- ---- arcs that have each column as often as others, to each target

module _ (arcs others : List ArcLine)
    (same : (to : ℕ → Bool) (column : List Sym) → times_to to others column ≡ times_to to arcs column) where
  -- where one of the arcs goes, one of the others does
  pub goes_too : (arc : ArcLine) (column : List Sym) → Contains arcs arc → has arc.class column ≡ true
      → (other : ArcLine) × (Contains others other × ((other.target ≡ arc.target) × (has other.class column ≡ true)))
  goes_too arc column c holds =
      let to : ℕ → Bool = λ target. target == arc.target in
      let itself : to arc.target ≡ true = eq-eqb arc.target arc.target refl in
      let one : adds to column arc ≡ 1 = ap once_if (and_from (to arc.target) (has arc.class column) itself holds) in
      let listed : adds to column (get_or arcs c.0 arc) ≡ adds to column arc = ap (adds to column) c.2 in
      let some : 1 ≤ times_to to others column = omega (
        arith,
        get_or-le-sum_by (adds to column) arcs c.0 arc c.1,
        listed,
        one,
        same to column,
      ) in
      let found = counted (λ (other : ArcLine). to other.target && has other.class column) others some in
      let parts = and_parts (to found.0.target) (has found.0.class column) found.1.1 in
      (found.0, (found.1.0, (eqb-true found.0.target arc.target parts.0, parts.1)))
