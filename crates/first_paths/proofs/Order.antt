-- Columns in order.
use Rattle.std.proofs.Common.{◌≡◌, ◌≢◌, false, List, [], ◌∷◌, refl}
use Rattle.std.proofs.lemmas.Cmp.{ranked, upto, tied_itself, nat_cmp_total, on_total, lists_total}
use Rattle.std.specs.{declared.cmp.Ordering.Ordering, declared.cmp.Ordering.TheVariants.{Less, Equal, Greater}}
use Rattle.std.specs.{Cmp.IsTotalOrder, Ordering.{nat_cmp, ordering_then, is_gt, ordering_reverse}}
use Rattle.std.specs.Cmp.Lexicographic.{slice_cmp}
use Rattle.tier_core.specs.{declared.sym.Sym.Sym, Symbols.rank, Orders.{sym_cmp, column_cmp}}
use Rattle.tier_core.proofs.SetLemmas.{rank_same}

pub column_total : IsTotalOrder column_cmp
column_total = lists_total (on_total rank nat_cmp_total)

-- columns that compare as equal are equal
pub equal_columns : (a b : List Sym) → column_cmp a b ≡ Equal → a ≡ b
equal_columns [] [] e = refl
equal_columns [] (y ∷ ys) e = cc
equal_columns (x ∷ xs) [] e = cc
equal_columns (x ∷ xs) (y ∷ ys) e = go (nat_cmp (rank x) (rank y)) refl e (equal_columns xs ys)
  where
    go : (r : Ordering) → r ≡ nat_cmp (rank x) (rank y) → ordering_then r (slice_cmp sym_cmp xs ys) ≡ Equal
        → (slice_cmp sym_cmp xs ys ≡ Equal → xs ≡ ys) → (x ∷ xs) ≡ (y ∷ ys)
    go Less h e more = cc
    go Equal h e more = (let same : x ≡ y = rank_same x y (ranked (rank x) (rank y) Equal h) in let rest : xs
        ≡ ys = more e in cc)
    go Greater h e more = cc

pub column_itself : (a : List Sym) → is_gt (column_cmp a a) ≡ false
column_itself a = rw (tied_itself column_total a) refl

pub column_upto : (a b c : List Sym) → is_gt (column_cmp a b) ≡ false → is_gt (column_cmp b c) ≡ false
    → is_gt (column_cmp a c) ≡ false
column_upto a b c ab bc = upto column_total a b c ab bc

-- what is not less is not before
pub not_before : (a b : List Sym) (r : Ordering) → r ≡ column_cmp a b → r ≢ Less → is_gt (column_cmp b a) ≡ false
not_before a b r e ne = rw (column_total.antisymm b a) (go r e ne)
  where
    go : (r : Ordering) → r ≡ column_cmp a b → r ≢ Less → is_gt (ordering_reverse (column_cmp a b)) ≡ false
    go Less e ne = absurd (ne refl)
    go Equal e ne = rw (← e) refl
    go Greater e ne = rw (← e) refl
