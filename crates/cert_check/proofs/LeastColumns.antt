-- The least column of some classes.
use Rattle.std.proofs.Common.{◌≡◌, ℕ, ◌+◌, ◌<◌, ◌==◌, ◌||◌, ◌⊎◌, true, false, cond, IsTrue, List, [], ◌∷◌, take}
use Rattle.std.proofs.Common.{length, get_or, refl, sym, ap, ◌∙◌, arith, inl, inr, Some, None, Option}
use Rattle.std.proofs.Common.{MatchOption, true≢false}
use Rattle.std.proofs.lemmas.Cmp.{nat_cmp_total, lists_total, on_total, tied_itself}
use Rattle.std.proofs.lemmas.Bool.{cases_order, or_cases, le-ltb, ne_eqb, or_left, or_right}
use Rattle.std.proofs.lemmas.List.Folds.{list_any_more}
use Rattle.std.specs.{Ordering.{is_gt, nat_cmp, ordering_then, ordering_reverse}, Cmp.IsTotalOrder}
use Rattle.std.specs.{declared.cmp.Ordering.Ordering, declared.cmp.Ordering.TheVariants.{Less, Equal, Greater}}
use Rattle.tier_core.specs.{declared.sym.Sym.Sym, declared.class.Class.Class, Classes.has, Orders.column_cmp}
use Rattle.tier_core.specs.Symbols.{rank}
use Rattle.tier_core.proofs.KindTies.{same_cmp}
use Rattle.symbol_class.specs.Held.{some_has}
use Rattle.cert_check.specs.{Arcs.{IsLeastColumn, IsNoColumn, IsLesser}, Places.{IsBefore, column_place}}
use Rattle.cert_check.proofs.ColumnPlaces.{not_after_is}

greater : (m n : ℕ) → n < m → nat_cmp m n ≡ Greater
greater m n l = ap (λ b. cond b Less (cond (m == n) Equal Greater)) (le-ltb m n (omega (arith, l)))
    ∙ ap (λ b. cond b Equal Greater) (ne_eqb m n (λ e. absurd (omega (arith, e, l))))

-- what is before a column that does not come after another is before that one too
earlier : (other column lesser : List Sym) → IsBefore (column_place other) (column_place lesser)
    → is_gt (column_cmp lesser column) ≡ false → IsBefore (column_place other) (column_place column)
earlier [] [] [] b h = b
earlier [] [] (s ∷ lesser) b h = absurd (true≢false h)
earlier [] (t ∷ column) lesser b h = tt
earlier (o ∷ other) column [] b h = absurd b
earlier (o ∷ other) [] (s ∷ lesser) b h = absurd (true≢false h)
earlier (o ∷ other) (t ∷ column) (s ∷ lesser) b h = elim (cases_order (rank s) (rank t)) [
  | inl same ↦ rest same (λ e. earlier other column lesser e
      (sym (ap (λ x. is_gt (ordering_then x (column_cmp lesser column))) (same_cmp _ _ same)) ∙ h)) b
  | inr apart ↦ elim apart [
    | inl less ↦ inl (below less b)
    | inr more ↦ absurd
        (true≢false (sym (ap (λ o. is_gt (ordering_then o (column_cmp lesser column))) (greater _ _ more)) ∙ h))
  ]
]
  where
    below : rank s < rank t → IsBefore (column_place (o ∷ other)) (column_place (s ∷ lesser)) → rank o < rank t
    below l (inl less) = omega (arith, l, less)
    below l (inr e) = omega (arith, l, e.0)

    rest : rank s ≡ rank t
        → (IsBefore (column_place other) (column_place lesser) → IsBefore (column_place other) (column_place column))
        → IsBefore (column_place (o ∷ other)) (column_place (s ∷ lesser))
        → IsBefore (column_place (o ∷ other)) (column_place (t ∷ column))
    rest e later (inl less) = inl (omega (arith, less, e))
    rest e later (inr p) = inr (p.0 ∙ e, later p.1)

-- the first n of some classes have this least column, or none
abbrev pub IsLeastOf : List Class → Option (List Sym) → Type 0
IsLeastOf classes least = MatchOption least (IsNoColumn (some_has classes)) (IsLeastColumn (some_has classes))

-- with one more class, of which the least column is at hand
module _ (classes : List Class) (n : ℕ) (class : Class) (within : n < length classes)
    (is : class ≡ get_or classes n class) (own : List Sym) (held : IsTrue (has class own))
    (first : (column : List Sym) → IsTrue (has class column) → is_gt (column_cmp own column) ≡ false) where
  more : (column : List Sym) → some_has (take (n + 1) classes) column
      ≡ (some_has (take n classes) column || has class column)
  more column = list_any_more (λ x. has x column) classes n class within
      ∙ ap (λ x. some_has (take n classes) column || has x column) (sym is)

  least_first : IsNoColumn (some_has (take n classes)) → IsLeastColumn (some_has (take (n + 1) classes)) own
  least_first none = record {
    is = more _ ∙ or_right (some_has (take n classes) own) (has class own) held;
    first = λ other h before. elim (or_cases _ _ (sym (more _) ∙ h)) [
      | inl e ↦ true≢false (sym e ∙ none other)
      | inr e ↦ not_after_is _ _ (first other e) before
    ];
  }

  -- the lesser of the least columns so far and of the class
  least_next : (column lesser : List Sym) → IsLeastColumn (some_has (take n classes)) column
      → IsLesser column own lesser → IsLeastColumn (some_has (take (n + 1) classes)) lesser
  least_next column lesser so_far two = record {
    is = more _ ∙ held_by two.one;
    first = λ other h before. elim (or_cases _ _ (sym (more _) ∙ h)) [
      | inl e ↦ so_far.first other e (earlier _ _ _ before two.not_after_first)
      | inr e ↦ not_after_is _ _ (first other e) (earlier _ _ _ before two.not_after_second)
    ];
  }
    where
      held_by : (lesser ≡ column) ⊎ (lesser ≡ own) → (some_has (take n classes) lesser || has class lesser) ≡ true
      held_by (inl e) = or_left (some_has (take n classes) lesser) (has class lesser)
          (ap (some_has (take n classes)) e ∙ so_far.is)
      held_by (inr e) = or_right (some_has (take n classes) lesser) (has class lesser) (ap (has class) e ∙ held)

  pub least_more : (best : Option (List Sym)) (result : List Sym) → IsLeastOf (take n classes) best
      → MatchOption best (result ≡ own) (λ column. IsLesser column own result)
      → IsLeastColumn (some_has (take (n + 1) classes)) result
  least_more None result so_far e = rw e (least_first so_far)
  least_more (Some column) result so_far two = least_next _ _ so_far two

-- ---- the lesser of two columns

columns_total : IsTotalOrder column_cmp
columns_total = lists_total (on_total rank nat_cmp_total)

itself : (c : List Sym) → is_gt (column_cmp c c) ≡ false
itself c = ap is_gt (tied_itself columns_total c)

turned : (o : Ordering) → is_gt o ≡ true → is_gt (ordering_reverse o) ≡ false
turned Less h = absurd (true≢false (sym h))
turned Equal h = absurd (true≢false (sym h))
turned Greater h = refl

pub second_lesser : (a b : List Sym) → is_gt (column_cmp a b) ≡ true → IsLesser a b b
second_lesser a b h = record {
  one = inr refl;
  not_after_first = ap is_gt (columns_total.antisymm b a) ∙ turned _ h;
  not_after_second = itself b;
}

pub first_lesser : (a b : List Sym) → is_gt (column_cmp a b) ≡ false → IsLesser a b a
first_lesser a b h = record { one = inl refl; not_after_first = itself a; not_after_second = h }
