-- Timelines: lists of columns, each with one symbol for each tier.
use Rattle.std.specs.Prelude.{[], ◌≡◌, ℕ, ◌<◌, ◌||◌, Bool, IsTrue, List, length, map, filter, slice_index_or}
use Rattle.std.specs.List.{list_any, AllByRecursion}
use Rattle.tier_core.specs.declared.sym.Sym.{Sym}
use Rattle.tier_core.specs.declared.sym.Sym.TheVariants.{Outside}
use Rattle.tier_core.specs.Words.{starts, ends, IsWellFormedWord}

-- the symbol of a column on a tier
abbrev pub symbol : List Sym → ℕ → Sym
symbol column t = slice_index_or column t Outside

-- the column at a place
abbrev pub column_at : List (List Sym) → ℕ → List Sym
column_at T k = slice_index_or T k []

-- what a tier has, place by place
abbrev pub tier_word : List (List Sym) → ℕ → List Sym
tier_word T t = map (λ column. symbol column t) T

pub record IsWellFormed (width : ℕ) (T : List (List Sym)) : Type 0 where
  pub one_width : AllByRecursion (λ column. length column ≡ width) T
  pub each_tier : (t : ℕ) → t < width → IsWellFormedWord (tier_word T t)

abbrev pub is_edge : Sym → Bool
is_edge s = starts s || ends s

abbrev pub has_edge : List Sym → Bool
has_edge column = list_any is_edge column

-- each column has an edge
abbrev pub IsReduced : List (List Sym) → Type 0
IsReduced T = AllByRecursion (λ column. IsTrue (has_edge column)) T

-- the columns that have an edge
abbrev pub squeeze : List (List Sym) → List (List Sym)
squeeze T = filter has_edge T

-- the symbols of some tiers, which are named in their order
abbrev pub project : List ℕ → List (List Sym) → List (List Sym)
project tiers T = map (λ column. map (symbol column) tiers) T
