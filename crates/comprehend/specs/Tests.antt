-- The tests of a surface: classes of columns by what they have on the overt tiers.
use Rattle.std.specs.Prelude.{◌≡◌, ℕ, ◌+◌, if◌then◌else◌, List, [], ◌∷◌, map, slice_index_or}
use Rattle.tier_core.specs.declared.sym.Sym.{Sym}
use Rattle.tier_core.specs.declared.class.Class.{Class}
use Rattle.tier_core.specs.declared.tier.TierKind.{TierKind}
use Rattle.tier_core.specs.Classes.{sets_of}
use Rattle.tier_core.specs.Sets.{single_set}
use Rattle.tier_core.specs.Tiers.{is_overt}

-- on an overt tier no edge, and on any other tier any symbol
abbrev pub still_set : TierKind → ℕ
still_set kind = if is_overt kind then 3 else 31

abbrev pub still_sets : List TierKind → List ℕ
still_sets kinds = map still_set kinds

-- on an overt tier the set with this number among those of the overt tiers, and on any other tier any symbol
abbrev pub heard_set : TierKind → List ℕ → ℕ → ℕ
heard_set kind sets n = if is_overt kind then slice_index_or sets n 0 else 31

-- one overt tier more, if it is one
abbrev pub overt_after : TierKind → ℕ → ℕ
overt_after kind n = if is_overt kind then n + 1 else n

-- the sets of all tiers, if n overt tiers come before them
abbrev pub heard_sets : List TierKind → List ℕ → ℕ → List ℕ
heard_sets [] sets n = []
heard_sets (kind ∷ kinds) sets n = heard_set kind sets n ∷ heard_sets kinds sets (overt_after kind n)

-- test 0 is of the columns without an edge on an overt tier, and after it comes for each column of
-- the surface the test of the columns that have it on the overt tiers
pub record AreTestsOf (kinds : List TierKind) (surface : List (List Sym)) (tests : List Class) : Type 0 where
  pub sets : map sets_of tests ≡ still_sets kinds ∷ map (λ column. heard_sets kinds (map single_set column) 0) surface
