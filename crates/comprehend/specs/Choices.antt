-- Choices of the least column among steps.
use Rattle.std.specs.Prelude.{◌≡◌, ◌+◌, ◌*◌, ◌<◌, ◌⊎◌, ℕ, IsTrue, List, Contains, Option, Some, false, length, slice_get}
use Rattle.std.specs.Ordering.{is_gt}
use Rattle.tier_core.specs.declared.sym.Sym.{Sym}
use Rattle.tier_core.specs.declared.class.Class.{Class}
use Rattle.tier_core.specs.Classes.{has}
use Rattle.tier_core.specs.Orders.{column_cmp}
use Rattle.answer_text.specs.declared.automaton.ArcLine.{ArcLine}
use Rattle.comprehend.specs.declared.choice.Choice.{Choice}
use Rattle.comprehend.specs.Searches.{IsLeft}
use Rattle.comprehend.specs.Steps.{Turns}

-- The best choice so far is replaced by another only if a new step reads a lesser column.
pub record IsBetter (steps : List Sym → ℕ → Type 0) (best after : Option Choice) : Type 0 where
  pub from : (best ≡ after) ⊎ ((b : Choice) × ((after ≡ Some b) × steps b.column b.cell))
  pub covers : (column : List Sym) (w : ℕ) → steps column w
      → (b : Choice) × ((after ≡ Some b) × (is_gt (column_cmp b.column column) ≡ false))
  pub keeps : (b : Choice) → best ≡ Some b
      → (d : Choice) × ((after ≡ Some d) × (is_gt (column_cmp d.column b.column) ≡ false))

-- a column of both classes leads to this cell, and n columns are left there
pub record LeadsToCell (a b : Class) (cell : ℕ) (left : List ℕ) (n : ℕ) (column : List Sym) (w : ℕ) : Type 0 where
  pub first : IsTrue (has a column)
  pub second : IsTrue (has b column)
  pub at : w ≡ cell
  pub left_at : IsLeft left w n

-- a column of the class leads to a cell of the target, and n columns are left there
pub record LeadsAlong (tests : List Class) (place : ℕ) (left : List ℕ) (n : ℕ) (class : Class) (target : ℕ)
    (column : List Sym) (w : ℕ) : Type 0 where
  pub next : ℕ
  pub arrives : w ≡ target * length tests + next
  pub after : next < length tests
  pub holds : IsTrue (has class column)
  pub turns : Turns tests place column next
  pub left_at : IsLeft left w n

-- one of the arcs leads there in this way, and the state has its target's number
pub record LeadsByOne (numbers : List ℕ) (tests : List Class) (place : ℕ) (left : List ℕ) (n : ℕ)
    (arcs : List ArcLine) (column : List Sym) (w : ℕ) : Type 0 where
  pub arc : ArcLine
  pub target : ℕ
  pub listed : Contains arcs arc
  pub leads : slice_get numbers target ≡ Some arc.target
  pub along : LeadsAlong tests place left n arc.class target column w
