-- Timelines are compared by number of columns first, then column by column, symbol by symbol.
use Rattle.std.specs.Prelude.{IsTrue, List, length}
use Rattle.std.specs.Ordering.{nat_cmp, ordering_then, is_le}
use Rattle.std.specs.Cmp.Lexicographic.{slice_cmp}
use Rattle.std.specs.declared.cmp.Ordering.{Ordering}
use Rattle.tier_core.specs.declared.sym.Sym.{Sym}
use Rattle.tier_core.specs.Symbols.{rank}

abbrev pub sym_cmp : Sym → Sym → Ordering
sym_cmp a b = nat_cmp (rank a) (rank b)

abbrev pub column_cmp : List Sym → List Sym → Ordering
column_cmp a b = slice_cmp sym_cmp a b

abbrev pub timeline_cmp : List (List Sym) → List (List Sym) → Ordering
timeline_cmp T U = ordering_then (nat_cmp (length T) (length U)) (slice_cmp column_cmp T U)

-- the first of a set of timelines
pub record IsFirst (S : List (List Sym) → Type 0) (T : List (List Sym)) : Type 0 where
  pub member : S T
  pub least : (U : List (List Sym)) → S U → IsTrue (is_le (timeline_cmp T U))
