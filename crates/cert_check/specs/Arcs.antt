-- Lists of arcs: the columns that are in two of them, and those on which two lists lead to different
-- targets; and the least of some columns.
use Rattle.std.specs.Prelude.{ℕ, ◌==◌, ◌≡◌, ◌&&◌, ◌||◌, ◌⊎◌, not, Bool, false, IsTrue, List, [], ◌∷◌}
use Rattle.std.specs.List.{list_any}
use Rattle.std.specs.Ordering.{is_gt}
use Rattle.tier_core.specs.declared.sym.Sym.{Sym}
use Rattle.tier_core.specs.Classes.{has}
use Rattle.tier_core.specs.Orders.{column_cmp}
use Rattle.symbol_class.specs.Held.{some_has}
use Rattle.answer_text.specs.declared.automaton.ArcLine.{ArcLine}
use Rattle.answer_text.specs.ArcClasses.{arc_classes}
use Rattle.cert_check.specs.Places.{IsBefore, column_place}

-- whether a column is in two arcs
abbrev pub is_twice : List ArcLine → List Sym → Bool
is_twice [] column = false
is_twice (arc ∷ arcs) column = (has arc.class column && some_has (arc_classes arcs) column) || is_twice arcs column

-- whether an arc to a target holds a column
abbrev pub is_led : List ArcLine → ℕ → List Sym → Bool
is_led arcs target column = list_any (λ arc. (arc.target == target) && has arc.class column) arcs

-- whether an arc holds a column on which no other arc leads to its target
abbrev pub is_unmatched : List ArcLine → List ArcLine → List Sym → Bool
is_unmatched arcs others column = list_any (λ arc. has arc.class column && not (is_led others arc.target column)) arcs

-- whether arcs and others differ on a column
abbrev pub do_differ : List ArcLine → List ArcLine → List Sym → Bool
do_differ arcs others column = is_unmatched arcs others column || is_unmatched others arcs column

-- A column passes a test, and none that passes comes before it.
pub record IsLeastColumn (test : List Sym → Bool) (column : List Sym) : Type 0 where
  pub is : IsTrue (test column)
  pub first : (other : List Sym) → IsTrue (test other) → IsBefore (column_place other) (column_place column) → ⊥

-- no column passes
abbrev pub IsNoColumn : (List Sym → Bool) → Type 0
IsNoColumn test = (column : List Sym) → test column ≡ false

-- One of two columns, which does not come after either.
pub record IsLesser (first second lesser : List Sym) : Type 0 where
  pub one : (lesser ≡ first) ⊎ (lesser ≡ second)
  pub not_after_first : is_gt (column_cmp lesser first) ≡ false
  pub not_after_second : is_gt (column_cmp lesser second) ≡ false
