-- Kinds by their numbers in a list.
use Rattle.std.specs.Prelude.{ℕ, List, slice_index_or}
use Rattle.tier_core.specs.declared.kind.Kind.{Kind}
use Rattle.tier_core.specs.EmptyKind.{empty_kind}

-- the kind of a number, or that of the empty prefix if there is no such number
abbrev pub kind_numbered : List Kind → ℕ → Kind
kind_numbered kinds number = slice_index_or kinds number empty_kind
