-- One word before another: the one with fewer columns, or the lesser of two of one length.
use Rattle.std.proofs.Common.{◌≡◌, ◌<◌, ◌⊎◌, List, true, false, length, refl, sym, inl, inr, arith}
use Rattle.std.proofs.{lemmas.Bool.false≢true, lemmas.Cmp.ranked}
use Rattle.std.specs.{declared.cmp.Ordering.Ordering, declared.cmp.Ordering.TheVariants.{Less, Equal, Greater}}
use Rattle.std.specs.{Ordering.{nat_cmp, ordering_then, is_gt, is_le}, Cmp.Lexicographic.slice_cmp}
use Rattle.tier_core.specs.{declared.sym.Sym.Sym, Orders.{column_cmp, timeline_cmp}}

-- words of one length are compared column by column
abbrev pub word_cmp : List (List Sym) → List (List Sym) → Ordering
word_cmp = slice_cmp column_cmp

-- w has fewer columns than v, or as many and is not after it
abbrev pub IsFirstOf : List (List Sym) → List (List Sym) → Type 0
IsFirstOf w v = (length w < length v) ⊎ ((length w ≡ length v) × (is_gt (word_cmp w v) ≡ false))

not_after : (r : Ordering) → is_gt r ≡ false → is_le r ≡ true
not_after Less e = refl
not_after Equal e = refl
not_after Greater e = absurd (false≢true (sym e))

-- the order of timelines says the same
pub first_le : (w v : List (List Sym)) → IsFirstOf w v → is_le (timeline_cmp w v) ≡ true
first_le w v h = go (nat_cmp (length w) (length v)) refl h
  where
    go : (r : Ordering) → r ≡ nat_cmp (length w) (length v) → IsFirstOf w v
        → is_le (ordering_then r (word_cmp w v)) ≡ true
    go Less e h = refl
    go Equal e (inl less) = absurd (let same = ranked (length w) (length v) Equal e in omega (arith, less, same))
    go Equal e (inr even) = not_after (word_cmp w v) even.1
    go Greater e (inl less) = absurd (let more = ranked (length w) (length v) Greater e in omega (arith, less, more))
    go Greater e (inr even) = absurd (let more = ranked (length w) (length v) Greater e in omega (arith, even.0, more))
