-- What each step gives to a choice of the least column.
use Rattle.std.proofs.Common.{◌≡◌, ℕ, false, List, Option, Some, refl, sym, ◌∙◌, subst, ◌⊎◌, inl, inr}
use Rattle.std.specs.{Prelude.{MatchOption, ⊤}, Ordering.is_gt}
use Rattle.tier_core.specs.{declared.sym.Sym.Sym, Orders.column_cmp}
use Rattle.first_paths.proofs.Order.{column_itself, column_upto}
use Rattle.comprehend.specs.{declared.choice.Choice.Choice, Choices.IsBetter}

-- where there is no step
pub better_none : (P : List Sym → ℕ → Type 0) → ((column : List Sym) (w : ℕ) → P column w → ⊥)
    → (best : Option Choice) → IsBetter P best best
better_none P none best = record {
  from = inl refl;
  covers = λ column w p. absurd (none column w p);
  keeps = λ b e. (b, (e, column_itself b.column));
}

-- where the least of the steps is set beside the best
pub better_one : (P : List Sym → ℕ → Type 0) (best : Option Choice) (choice result : Choice)
    → P choice.column choice.cell → ((column : List Sym) (w : ℕ) → P column w
    → is_gt (column_cmp choice.column column) ≡ false)
    → (result ≡ choice) ⊎ (best ≡ Some result) → is_gt (column_cmp result.column choice.column) ≡ false
    → MatchOption best ⊤ (λ other. is_gt (column_cmp result.column other.column) ≡ false)
    → IsBetter P best (Some result)
better_one P best choice result steps least either before known = record
    { from = from either; covers = covers; keeps = keeps }
  where
    from : (result ≡ choice) ⊎ (best ≡ Some result)
        → (best ≡ Some result) ⊎ ((b : Choice) × ((Some result ≡ Some b) × P b.column b.cell))
    from (inl new) = (let Q : Choice → Type 0 = λ b. P b.column b.cell in inr (result, (refl, subst Q (sym new) steps)))
    from (inr old) = inl old

    covers : (column : List Sym) (w : ℕ) → P column w
        → (b : Choice) × ((Some result ≡ Some b) × (is_gt (column_cmp b.column column) ≡ false))
    covers column w p = (result, (refl, column_upto result.column choice.column column before (least column w p)))

    keeps : (b : Choice) → best ≡ Some b
        → (d : Choice) × ((Some result ≡ Some d) × (is_gt (column_cmp d.column b.column) ≡ false))
    keeps b e =
        (let Q : Option Choice → Type 0 = λ o. MatchOption o ⊤
        (λ other. is_gt (column_cmp result.column other.column) ≡ false) in
        (result, (refl, subst Q e known)))

-- the steps of P, and then those of Q
pub better_both : (P Q R : List Sym → ℕ → Type 0)
    → ((column : List Sym) (w : ℕ) → R column w → P column w ⊎ Q column w)
    → ((column : List Sym) (w : ℕ) → P column w → R column w)
    → ((column : List Sym) (w : ℕ) → Q column w → R column w) → (best between after : Option Choice)
    → IsBetter P best between → IsBetter Q between after → IsBetter R best after
better_both P Q R split left right best between after first second = record
    { from = from; covers = covers; keeps = keeps }
  where
    from : (best ≡ after) ⊎ ((b : Choice) × ((after ≡ Some b) × R b.column b.cell))
    from = elim second.from [
      | inl same ↦ elim first.from [
        | inl old ↦ inl (old ∙ same)
        | inr new ↦ inr (new.0, (sym same ∙ new.1.0, left new.0.column new.0.cell new.1.1))
      ]
      | inr new ↦ inr (new.0, (new.1.0, right new.0.column new.0.cell new.1.1))
    ]

    later : (column : List Sym) → (b : Choice) × ((between ≡ Some b) × (is_gt (column_cmp b.column column) ≡ false))
        → (d : Choice) × ((after ≡ Some d) × (is_gt (column_cmp d.column column) ≡ false))
    later column b = (let d = second.keeps b.0 b.1.0 in
        (d.0, (d.1.0, column_upto d.0.column b.0.column column d.1.1 b.1.1)))

    covers : (column : List Sym) (w : ℕ) → R column w
        → (d : Choice) × ((after ≡ Some d) × (is_gt (column_cmp d.column column) ≡ false))
    covers column w r = elim (split column w r) [
      | inl p ↦ later column (first.covers column w p)
      | inr q ↦ second.covers column w q
    ]

    keeps : (b : Choice) → best ≡ Some b
        → (d : Choice) × ((after ≡ Some d) × (is_gt (column_cmp d.column b.column) ≡ false))
    keeps b e = later b.column (first.keeps b e)

-- the same steps, said otherwise
pub better_same : (P R : List Sym → ℕ → Type 0) → ((column : List Sym) (w : ℕ) → P column w → R column w)
    → ((column : List Sym) (w : ℕ) → R column w → P column w) → (best after : Option Choice) → IsBetter P best after
    → IsBetter R best after
better_same P R into back best after b = record {
  from = elim b.from [ inl old ↦ inl old | inr new ↦ inr (new.0, (new.1.0, into new.0.column new.0.cell new.1.1)) ];
  covers = λ column w r. b.covers column w (back column w r);
  keeps = b.keeps;
}
