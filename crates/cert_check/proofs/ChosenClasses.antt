-- Of classes those on whose columns something holds: each class is chosen whole or not at all.
use Rattle.std.proofs.Common.{◌≡◌, ℕ, ◌+◌, ◌<◌, ◌≤◌, ◌⊎◌, ◌||◌, ◌↔◌, Bool, true, false, IsTrue, List, [], ◌∷◌, ◌++◌}
use Rattle.std.proofs.Common.{length, take, get_or, refl, sym, ap, ◌∙◌, arith, inl, inr, ⊎_elim, All}
use Rattle.std.proofs.{lemmas.Bool.{both_ways, or_cases, or_left, or_right}, lemmas.List.{take_all, take_more}}
use Rattle.std.proofs.{lemmas.List.Elements.{All-from_recursion, All-push}, lemmas.List.Folds.list_any-append}
use Rattle.tier_core.specs.{declared.class.Class.Class, declared.sym.Sym.Sym, Classes.{sets_of, has}, Filled.is_filled}
use Rattle.symbol_class.specs.Held.{some_has, times_held, ArePieces}
use Rattle.symbol_class.proofs.Times.{times-append, once_from_apart, pieces_from_once}

module _ (P : List Sym → Type 0) (width : ℕ) where
  -- so far these are chosen, of the first classes of a list
  pub record ChosenOf (classes : List Class) (n : ℕ) (kept : List Class) : Type 0 where
    pub one_width : All (λ class. length (sets_of class) ≡ width) kept
    pub filled : All (λ class. IsTrue (is_filled class)) kept
    pub few : (column : List Sym) → times_held kept column ≤ times_held (take n classes) column
    pub into : (column : List Sym) → IsTrue (some_has kept column)
        → IsTrue (some_has (take n classes) column) × P column
    pub back : (column : List Sym) → IsTrue (some_has (take n classes) column)
        → P column → IsTrue (some_has kept column)

  pub chosen_of_none : (classes : List Class) (kept : List Class) → kept ≡ [] → ChosenOf classes 0 kept
  chosen_of_none classes kept e = rw e (record {
    one_width = All-from_recursion (λ class. length (sets_of class) ≡ width) [] tt;
    filled = All-from_recursion (λ class. IsTrue (is_filled class)) [] tt;
    few = λ column. omega arith;
    into = λ column h. absurd (both_ways _ refl h);
    back = λ column h t. absurd (both_ways _ refl h);
  })

  module _ (classes : List Class) (n : ℕ) (class : Class) (inside : n < length classes)
      (is : class ≡ get_or classes n class) (old new : List Class) (so_far : ChosenOf classes n old) where
    more : take (n + 1) classes ≡ take n classes ++ class ∷ []
    more = take_more classes n class inside ∙ ap (λ c. take n classes ++ c ∷ []) (sym is)

    some_more : (column : List Sym) → some_has (take (n + 1) classes) column
        ≡ some_has (take n classes ++ class ∷ []) column
    some_more column = ap (λ xs. some_has xs column) more

    parts_more : (column : List Sym) → IsTrue (some_has (take (n + 1) classes) column)
        → IsTrue (some_has (take n classes) column) ⊎ IsTrue (has class column)
    parts_more column h = ⊎_elim (λ front. inl front) (λ last. inr (last_of _ last))
        (or_cases _ _ (sym (list_any-append (λ c. has c column) (take n classes) (class ∷ [])) ∙ sym (some_more _) ∙ h))
      where
        last_of : (b : Bool) → (b || false) ≡ true → b ≡ true
        last_of true e = refl
        last_of false e = e

    front_more : (column : List Sym) → IsTrue (some_has (take n classes) column)
        → IsTrue (some_has (take (n + 1) classes) column)
    front_more column h = some_more _ ∙ list_any-append (λ c. has c column) (take n classes) (class ∷ []) ∙ or_left
        (some_has (take n classes) column) (some_has (class ∷ []) column) h

    last_more : (column : List Sym) → IsTrue (has class column) → IsTrue (some_has (take (n + 1) classes) column)
    last_more column h = some_more _ ∙ list_any-append (λ c. has c column) (take n classes) (class ∷ []) ∙ or_right
        (some_has (take n classes) column) (some_has (class ∷ []) column) (or_left (has class column) false h)

    times_more : (column : List Sym) → times_held (take (n + 1) classes) column
        ≡ times_held (take n classes) column + times_held (class ∷ []) column
    times_more column = ap (λ xs. times_held xs column) more ∙ times-append (take n classes) (class ∷ []) column

    -- a class on which it does not hold
    pub chosen_of_same : new ≡ old
        → ((column : List Sym) → IsTrue (has class column) → P column → ⊥)
        → ChosenOf classes (n + 1) new
    chosen_of_same e none = rw e (record {
      one_width = so_far.one_width;
      filled = so_far.filled;
      few = λ column. omega (arith, so_far.few column, times_more column);
      into = λ column h. let r = so_far.into column h in (front_more column r.0, r.1);
      back = λ column h t. ⊎_elim (λ front. so_far.back column front t) (λ last. absurd (none column last t))
          (parts_more _ h);
    })

    -- a class on which it holds
    pub chosen_of_more : length (sets_of class) ≡ width → IsTrue (is_filled class)
        → new ≡ old ++ class ∷ []
        → ((column : List Sym) → IsTrue (has class column) → P column)
        → ChosenOf classes (n + 1) new
    chosen_of_more wide filled e holds =
        let some : (column : List Sym) → some_has new column
        ≡ (some_has old column || some_has (class ∷ []) column) =
        λ column. ap (λ xs. some_has xs column) e
        ∙ list_any-append (λ c. has c column) old (class ∷ []) in
        record {
          one_width = rw e (All-push (λ c. length (sets_of c) ≡ width) old class so_far.one_width wide);
          filled = rw e (All-push (λ c. IsTrue (is_filled c)) old class so_far.filled filled);
          few = λ column. omega (
            arith,
            so_far.few column,
            times_more column,
            ap (λ xs. times_held xs column) e,
            times-append old (class ∷ []) column,
          );
          into = λ column h. ⊎_elim (λ front. let r = so_far.into column front in (front_more _ r.0, r.1))
              (λ last. let held = last_of _ last in
              (last_more _ held, holds column held)) (or_cases _ _ (sym (some column) ∙ h));
          back = λ column h t. some column ∙ ⊎_elim
              (λ front. or_left (some_has old column) (some_has (class ∷ []) column) (so_far.back column front t)) (λ
              last. or_right (some_has old column) (some_has (class ∷ []) column)
              (or_left (has class column) false last)) (parts_more _ h);
        }
      where
        last_of : (b : Bool) → (b || false) ≡ true → b ≡ true
        last_of true e = refl
        last_of false e = e

  -- Of all classes those are chosen on which it holds.
  pub record AreChosen (classes chosen : List Class) : Type 0 where
    pub pieces : ArePieces width chosen
    pub columns : (column : List Sym) → IsTrue (some_has chosen column)
        ↔ (IsTrue (some_has classes column) × P column)

  -- all classes
  pub chosen_of_all : (classes : List Class) (n : ℕ) (chosen : List Class) → ArePieces width classes
      → length classes ≤ n → ChosenOf classes n chosen → AreChosen classes chosen
  chosen_of_all classes n chosen pieces l a =
      let whole = take_all n _ l in
      record {
        pieces = pieces_from_once _ _ a.one_width a.filled (λ column. omega (
          arith,
          a.few column,
          ap (λ xs. times_held xs column) whole,
          once_from_apart classes pieces.apart column,
        ));
        columns = λ column. (
          λ h. let r = a.into column h in (sym (ap (λ xs. some_has xs column) whole) ∙ r.0, r.1),
          λ r. a.back column (ap (λ xs. some_has xs column) whole ∙ r.0) r.1,
        );
      }
