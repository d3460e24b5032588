-- Classes whose first sets have no symbol in common are disjoint.
use Rattle.std.proofs.Common.{◌≡◌, ℕ, true, false, List, [], ◌∷◌, length, get_or, sym, ◌∙◌, arith}
use Rattle.std.proofs.lemmas.Bool.{and_parts, and_from, false≢true}
use Rattle.std.specs.List.{list_any}
use Rattle.tier_core.specs.{declared.sym.Sym.Sym, Symbols.symbols, Sets.is_in, Classes.sets_have}
use Rattle.tier_core.proofs.SetLemmas.{any_of}
use Rattle.definition_tests.specs.Fit.{in_both}

pub disjoint_by_first : (xs ys : List ℕ) (column : List Sym) → length xs ≡ 1 → length ys ≡ 1
    → list_any (in_both (get_or xs 0 0) (get_or ys 0 0)) symbols ≡ false → sets_have xs column ≡ true
    → sets_have ys column ≡ true → ⊥
disjoint_by_first [] ys column l m e h k = absurd (omega (arith, l))
disjoint_by_first (x ∷ xs) [] column l m e h k = absurd (omega (arith, m))
disjoint_by_first (x ∷ xs) (y ∷ ys) [] l m e h k = false≢true h
disjoint_by_first (x ∷ xs) (y ∷ ys) (s ∷ ss) l m e h k =
    let first = and_parts (is_in x s) (sets_have xs ss) h in
    let second = and_parts (is_in y s) (sets_have ys ss) k in
    false≢true (sym e ∙ any_of (in_both x y) s (and_from (is_in x s) (is_in y s) first.0 second.0))
