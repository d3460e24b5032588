-- The columns that fit a kind, in pieces; and pieces that tests part.
use Rattle.std.specs.Prelude.{ℕ, ◌≡◌, ◌<◌, ◌↔◌, IsTrue, List, All}
use Rattle.tier_core.specs.declared.sym.Sym.{Sym}
use Rattle.tier_core.specs.declared.class.Class.{Class}
use Rattle.tier_core.specs.Kinds.{PrefixKind}
use Rattle.tier_core.specs.Scan.{opens}
use Rattle.tier_core.specs.Timelines.{symbol, has_edge}
use Rattle.symbol_class.specs.Held.{some_has, ArePieces}
use Rattle.symbol_class.specs.Parts.{IsAlike, IsPartOf}
use Rattle.violation.specs.Moves.{input_of, FitsKind}
use Rattle.violation.specs.Problems.{Problem}
use Rattle.cert_check.specs.Pieces.{IsUniform}

-- all columns of a class have an edge on the input tiers, or none has
abbrev pub IsReadAlike : Problem → Class → Type 0
IsReadAlike problem class = IsAlike (λ column. has_edge (input_of problem.tiers column)) class

-- pieces hold exactly the columns that fit a kind
pub record AreFitting (problem : Problem) (k : PrefixKind) (classes : List Class) : Type 0 where
  pub pieces : ArePieces problem.tiers.width classes
  pub columns : (column : List Sym) → IsTrue (some_has classes column) ↔ FitsKind problem k column
  pub read : All (IsReadAlike problem) classes

-- Pieces are parted by tests: the parts hold the same columns, each of them is a part of one piece, and
-- the tests agree on each part.
pub record ArePartedByTests (width : ℕ) (tests : List Class) (wholes parts : List Class) : Type 0 where
  pub pieces : ArePieces width parts
  pub columns : (column : List Sym) → some_has parts column ≡ some_has wholes column
  pub within : All (IsPartOf wholes) parts
  pub uniform : All (IsUniform tests) parts

-- the same tiers are open after two columns
abbrev pub OpenAlike : ℕ → List Sym → List Sym → Type 0
OpenAlike width c d = (t : ℕ) → t < width → opens (symbol c t) ≡ opens (symbol d t)
