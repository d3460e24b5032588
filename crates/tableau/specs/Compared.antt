-- How a timeline is compared with the least counts.
use Rattle.std.specs.Prelude.{◌≡◌, ◌≢◌, ℕ, ◌<◌, List, length, take, slice_index, MatchOption}
use Rattle.tier_core.specs.declared.sym.Sym.{Sym}
use Rattle.tier_core.specs.declared.constraint.Constraint.{Constraint}
use Rattle.violation.specs.Candidates.{vec}
use Rattle.tableau.specs.declared.table.TableauRow.{TableauRow}

-- two lists of counts are the same before this place, and differ there
pub record IsFirstOther (least counts : List ℕ) (place : ℕ) : Type 0 where
  pub there : place < length least
  pub before : take place counts ≡ take place least
  pub other : slice_index counts place ≢ slice_index least place

-- a row has the timeline, its violation vector, and the first constraint whose count differs
pub record IsCompared (constraints : List Constraint) (least : List ℕ) (T : List (List Sym))
    (row : TableauRow) : Type 0 where
  pub timeline : row.timeline ≡ T
  pub counts : row.counts.items ≡ vec constraints T
  pub worse : MatchOption row.worse (row.counts.items ≡ least) (IsFirstOther least row.counts.items)
