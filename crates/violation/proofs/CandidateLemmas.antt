-- The input part of a column, tier by tier.
use Rattle.std.proofs.{Common.{◌≡◌, ℕ, ◌≤◌, List, [], map, drop, length, ap}, lemmas.List.drop_all}
use Rattle.tier_core.specs.{declared.sym.Sym.Sym, declared.tier.TierKind.TierKind, Tiers.{is_input, numbers_from}}
use Rattle.tier_core.specs.Timelines.{symbol}

-- what the tiers from k on have of a column's input part
abbrev pub part_from : List TierKind → List Sym → ℕ → List Sym
part_from kinds column k = map (symbol column) (numbers_from is_input k (drop k kinds))

pub part_end : (kinds : List TierKind) (column : List Sym) (k : ℕ) → length kinds ≤ k → part_from kinds column k ≡ []
part_end kinds column k l = ap (λ ks. map (symbol column) (numbers_from is_input k ks)) (drop_all k kinds l)
