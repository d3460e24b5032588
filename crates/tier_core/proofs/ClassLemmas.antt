-- Which columns a class holds.
use Rattle.std.proofs.Common.{◌≡◌, ℕ, zero, suc, ◌<◌, true, List, [], ◌∷◌, length, get_or, refl, ap, arith}
use Rattle.std.proofs.lemmas.Bool.{false≢true, and_parts, and_from}
use Rattle.tier_core.specs.{declared.sym.Sym.Sym, Sets.is_in, Classes.sets_have, Timelines.symbol}

-- a column that sets have has as many symbols
pub same_width : (sets : List ℕ) (column : List Sym) → sets_have sets column ≡ true → length column ≡ length sets
same_width [] [] h = refl
same_width [] (s ∷ column) h = absurd (false≢true h)
same_width (set ∷ sets) [] h = absurd (false≢true h)
same_width (set ∷ sets) (s ∷ column) h = ap suc (same_width sets column (and_parts _ _ h).1)

-- and each of its symbols is in the set of its tier
pub each_in : (sets : List ℕ) (column : List Sym) → sets_have sets column ≡ true → (t : ℕ) → t < length sets
    → is_in (get_or sets t 0) (symbol column t) ≡ true
each_in [] column h t l = absurd (omega arith)
each_in (set ∷ sets) [] h t l = absurd (false≢true h)
each_in (set ∷ sets) (s ∷ column) h zero l = (and_parts _ _ h).0
each_in (set ∷ sets) (s ∷ column) h (suc t) l = each_in sets column (and_parts _ _ h).1 t (omega arith)

-- sets have each such column
pub have_each : (sets : List ℕ) (column : List Sym) → length column ≡ length sets
    → ((t : ℕ) → t < length sets → is_in (get_or sets t 0) (symbol column t) ≡ true) → sets_have sets column ≡ true
have_each [] [] e h = refl
have_each [] (s ∷ column) e h = absurd (omega arith)
have_each (set ∷ sets) [] e h = absurd (omega arith)
have_each (set ∷ sets) (s ∷ column) e h = and_from _ _ (h zero (omega arith))
    (have_each sets column (omega arith) (λ t l. h (suc t) (omega arith)))
