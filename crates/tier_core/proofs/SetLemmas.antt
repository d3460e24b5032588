-- Sets of symbols by their numbers.
use Rattle.std.proofs.Common.{◌≡◌, ℕ, suc, length, ◌==◌, ◌&&◌, not, Bool, true, false, List, [], ◌∷◌, map, refl, ap}
use Rattle.std.proofs.Common.{sym, ◌∙◌, get_or, ⊎_elim, ◌<◌, arith}
use Rattle.std.proofs.lemmas.Bool.{false≢true, cases_eq, and_parts, and_from, agree_below_at}
use Rattle.std.proofs.{lemmas.Nat.Bits.{bit_at-pow_same, bit_at-pow_other}, lemmas.List.Folds.list_any_at}
use Rattle.std.specs.{Int.bit_at, List.list_any}
use Rattle.tier_core.specs.{declared.sym.Sym.Sym, declared.sym.Sym.TheVariants.{Outside, Inside, Start, End, Both}}
use Rattle.tier_core.specs.{Symbols.{rank, symbols}, Sets.{is_in, single_set}, Classes.sets_have}
use Rattle.tier_core.proofs.Bools.{and_false}

-- a symbol is the one of its number
pub of_rank : (s : Sym) → get_or symbols (rank s) Outside ≡ s
of_rank Outside = refl
of_rank Inside = refl
of_rank Start = refl
of_rank End = refl
of_rank Both = refl

rank_within : (s : Sym) → rank s < length symbols
rank_within Outside = omega arith
rank_within Inside = omega arith
rank_within Start = omega arith
rank_within End = omega arith
rank_within Both = omega arith

-- a symbol that passes is one of the five
pub any_of : (p : Sym → Bool) (s : Sym) → p s ≡ true → list_any p symbols ≡ true
any_of p s e = list_any_at p symbols (rank s) Outside (rank_within s) (ap p (of_rank s) ∙ e)

pub rank_same : (r s : Sym) → rank r ≡ rank s → r ≡ s
rank_same r s e = sym (of_rank r) ∙ ap (λ n. get_or symbols n Outside) e ∙ of_rank s

-- the set of one symbol has that symbol alone
pub alone_in : (s : Sym) → is_in (single_set s) s ≡ true
alone_in s = ap (λ n. n == 1) (bit_at-pow_same (rank s))

pub only_in : (s r : Sym) → is_in (single_set s) r ≡ true → r ≡ s
only_in s r h = ⊎_elim (rank_same r s)
    (λ other. let none : bit_at (single_set s) (rank r)
    ≡ 0 = bit_at-pow_other (rank s) (rank r) other in absurd (false≢true (sym (ap (λ n. n == 1) none) ∙ h)))
    (cases_eq (rank r) (rank s))

-- single sets have their own column alone
pub alone_have : (column : List Sym) → sets_have (map single_set column) column ≡ true
alone_have [] = refl
alone_have (s ∷ column) = and_from _ _ (alone_in s) (alone_have column)

pub only_have : (column other : List Sym) → sets_have (map single_set column) other ≡ true → other ≡ column
only_have [] [] h = refl
only_have [] (r ∷ other) h = absurd (false≢true h)
only_have (s ∷ column) [] h = absurd (false≢true h)
only_have (s ∷ column) (r ∷ other) h = let parts : (is_in (single_set s) r ≡ true) ×
    (sets_have (map single_set column) other ≡ true) = and_parts _ _ h in cc
    (only_in s r parts.0, only_have column other parts.1)

-- sets have no column of another width
pub other_width : (sets : List ℕ) (column : List Sym) → (length sets ≡ length column → ⊥)
    → sets_have sets column ≡ false
other_width [] [] h = absurd (h refl)
other_width [] (s ∷ column) h = refl
other_width (set ∷ sets) [] h = refl
other_width (set ∷ sets) (s ∷ column) h =
    ap (λ b. is_in set s && b) (other_width sets column (λ e. h (ap suc e))) ∙ and_false (is_in set s)

-- a set has a symbol unless its number is 0
pub some_symbol : (x : ℕ) → x < 32 → list_any (is_in x) symbols ≡ not (x == 0)
some_symbol x l = agree_below_at (λ x. list_any (is_in x) symbols) (λ x. not (x == 0)) 32 x refl l
