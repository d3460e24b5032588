-- What two classes hold in common.
use Rattle.std.proofs.Common.{◌≡◌, ◌&&◌, true, false, Bool, not, List, length, refl, sym, ◌∙◌, IsTrue}
use Rattle.std.proofs.lemmas.Bool.{false≢true, and_parts, and_from}
use Rattle.tier_core.specs.{declared.sym.Sym.Sym, declared.class.Class.Class, Classes.{sets_of, has}}
use Rattle.tier_core.specs.{Filled.is_filled, FirstColumn.first_column}
use Rattle.tier_core.proofs.{ClassLemmas.same_width, Filled.has-first_column}

module _ (a b both : Class) (columns : (column : List Sym) → has both column ≡ (has a column && has b column)) where
  pub in_both : (column : List Sym) → IsTrue (has both column) → IsTrue (has a column) × IsTrue (has b column)
  in_both column h = and_parts (has a column) (has b column) (sym (columns column) ∙ h)

  pub both_has : (column : List Sym) → IsTrue (has a column) → IsTrue (has b column) → IsTrue (has both column)
  both_has column ha hb = columns column ∙ and_from (has a column) (has b column) ha hb

  module _ (empty : Bool) (sets : empty ≡ not (is_filled both)) where
    pub filled : empty ≡ false → IsTrue (is_filled both)
    filled e = go (is_filled both) (sym e ∙ sets)
      where
        go : (f : Bool) → false ≡ not f → f ≡ true
        go true h = refl
        go false h = absurd (false≢true h)

    pub shared : empty ≡ false → (column : List Sym) × (IsTrue (has a column) × IsTrue (has b column))
    shared e = (let parts = in_both (first_column both) (has-first_column both (filled e)) in
        (first_column both, (parts.0, parts.1)))

  -- nothing is shared where no column is held
  pub none_shared : ((column : List Sym) → length column ≡ length (sets_of both) → has both column ≡ false)
      → (column : List Sym) → IsTrue (has a column) → IsTrue (has b column) → ⊥
  none_shared none column ha hb =
      let h = both_has column ha hb in
      false≢true (sym (none column (same_width (sets_of both) column h)) ∙ h)
