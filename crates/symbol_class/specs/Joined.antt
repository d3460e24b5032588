-- Classes that are joined along a tier, and classes no two of which can be joined.
use Rattle.std.specs.Prelude.{◌≡◌, ◌≢◌, ℕ, ◌<◌, ◌≤◌, IsTrue, List, length, map, slice_index_or, slice_set, bit_or, All, AllPairs, IsPermutation}
use Rattle.std.specs.Ordering.{nat_cmp}
use Rattle.std.specs.Cmp.Lexicographic.{slice_cmp}
use Rattle.std.specs.declared.cmp.Ordering.{Ordering}
use Rattle.tier_core.specs.declared.sym.Sym.{Sym}
use Rattle.tier_core.specs.declared.class.Class.{Class}
use Rattle.tier_core.specs.Classes.{sets_of}
use Rattle.tier_core.specs.Filled.{is_filled}
use Rattle.symbol_class.specs.Held.{times_held}

-- Two classes differ in the sets of at least two tiers.
pub record DifferTwice (a b : Class) : Type 0 where
  pub first : ℕ
  pub second : ℕ
  pub ascending : first < second
  pub at_first : slice_index_or (sets_of a) first 0 ≢ slice_index_or (sets_of b) first 0
  pub at_second : slice_index_or (sets_of a) second 0 ≢ slice_index_or (sets_of b) second 0

-- the sets of all tiers but this one, whose set is replaced by 0
abbrev pub sets_beside : ℕ → List ℕ → List ℕ
sets_beside tier sets = slice_set sets tier 0

-- sets are compared by those of all tiers but this one
abbrev pub beside_cmp : ℕ → List ℕ → List ℕ → Ordering
beside_cmp tier a b = slice_cmp nat_cmp (sets_beside tier a) (sets_beside tier b)

-- the first sets, but this tier has the symbols that it has in either
abbrev pub union_on : ℕ → List ℕ → List ℕ → List ℕ
union_on tier a b = slice_set a tier (bit_or (slice_index_or a tier 0) (slice_index_or b tier 0))

-- no two classes agree on all tiers but this one
abbrev pub DifferBeside : ℕ → List Class → Type 0
DifferBeside tier classes = AllPairs (λ a b. sets_beside tier (sets_of a) ≢ sets_beside tier (sets_of b)) classes

-- Classes are joined along a tier: those that agreed on all other tiers have become one. Each
-- column is held as often as before, and if there are as many classes as before, they are the same.
pub record JoinsAlong (tier : ℕ) (old new : List Class) : Type 0 where
  pub held : (column : List Sym) → times_held new column ≡ times_held old column
  pub one_width : (width : ℕ) → All (λ class. length (sets_of class) ≡ width) old
      → All (λ class. length (sets_of class) ≡ width) new
  pub filled : All (λ class. IsTrue (is_filled class)) new
  pub fewer : length new ≤ length old
  pub kept : length new ≡ length old → IsPermutation (map sets_of old) (map sets_of new)
  pub differ : DifferBeside tier new

-- Classes of one width are joined along each of the first n tiers in turn. Each column is held as
-- often as before, and if there are as many classes as before, no two agree on all tiers but one of
-- these.
pub record JoinsBelow (width n : ℕ) (old new : List Class) : Type 0 where
  pub held : (column : List Sym) → times_held new column ≡ times_held old column
  pub one_width : All (λ class. length (sets_of class) ≡ width) new
  pub filled : All (λ class. IsTrue (is_filled class)) new
  pub fewer : length new ≤ length old
  pub differ : length new ≡ length old → (tier : ℕ) → tier < n → DifferBeside tier new
