-- The set of all symbols.
use Rattle.std.proofs.Common.{◌≡◌, ℕ, zero, suc, ◌≤◌, ◌&&◌, true, List, [], ◌∷◌, take, replicate, length, refl, ap₂}
use Rattle.std.proofs.Common.{arith}
use Rattle.tier_core.specs.{declared.sym.Sym.Sym, Classes.sets_have}
use Rattle.tier_core.proofs.KnownSets.{in_all}

pub all_have : (width n : ℕ) (column : List Sym) → width ≤ n → length column ≡ width
    → sets_have (take width (replicate n 31)) column ≡ true
all_have zero n [] l e = refl
all_have zero n (s ∷ column) l e = absurd (omega arith)
all_have (suc width) zero column l e = absurd (omega arith)
all_have (suc width) (suc n) [] l e = absurd (omega arith)
all_have (suc width) (suc n) (s ∷ column) l e = ap₂ (λ a b. a && b) (in_all s)
    (all_have width n _ (omega arith) (omega arith))
