-- The order of vectors, number by number.
use Rattle.std.proofs.Common.{◌≡◌, ℕ, zero, suc, ◌-◌, ◌<◌, ◌≤◌, true, List, [], ◌∷◌, take, length, get_or, refl}
use Rattle.std.proofs.{Common.{sym, ap, ◌∙◌, subst, arith}, lemmas.Bool.false≢true}
use Rattle.std.proofs.lemmas.Cmp.{ranked, nat_list_cmp_total}
use Rattle.std.specs.{declared.cmp.Ordering.Ordering, declared.cmp.Ordering.TheVariants.{Less, Equal, Greater}}
use Rattle.std.specs.Ordering.{nat_cmp, is_le, ordering_then, ordering_reverse, MatchOrdering}
use Rattle.tier_core.proofs.KindTies.{then_equal}
use Rattle.violation.specs.Candidates.{vec_cmp, IsAtMost}

-- an order that is decided by one, and then by another
then_first : (o p : Ordering) → is_le (ordering_then o p) ≡ true → is_le o ≡ true
then_first Less p h = refl
then_first Equal p h = refl
then_first Greater p h = h

then_second : (o p : Ordering) → is_le (ordering_then o p) ≡ true → o ≡ Equal → is_le p ≡ true
then_second o p h e = subst (λ x. is_le (ordering_then x p) ≡ true) e h

then_both : (o p : Ordering) → is_le o ≡ true → (o ≡ Equal → is_le p ≡ true) → is_le (ordering_then o p) ≡ true
then_both Less p h k = refl
then_both Equal p h k = k refl
then_both Greater p h k = h

then_assoc : (o p q : Ordering) → ordering_then o (ordering_then p q) ≡ ordering_then (ordering_then o p) q
then_assoc Less p q = refl
then_assoc Equal p q = refl
then_assoc Greater p q = refl

-- numbers
pub le_from_cmp : (x y : ℕ) → is_le (nat_cmp x y) ≡ true → x ≤ y
le_from_cmp x y = go (nat_cmp x y) (ranked x y (nat_cmp x y) refl)
  where
    go : (o : Ordering) → MatchOrdering o (x < y) (x ≡ y) (y < x) → is_le o ≡ true → x ≤ y
    go Less m h = omega arith
    go Equal m h = omega arith
    go Greater m h = absurd (false≢true h)

pub cmp_from_le : (x y : ℕ) → x ≤ y → is_le (nat_cmp x y) ≡ true
cmp_from_le x y = go (nat_cmp x y) (ranked x y (nat_cmp x y) refl)
  where
    go : (o : Ordering) → MatchOrdering o (x < y) (x ≡ y) (y < x) → x ≤ y → is_le o ≡ true
    go Less m l = refl
    go Equal m l = refl
    go Greater m l = absurd (omega arith)

-- the first numbers of vectors, and one more
cmp_more : (i : ℕ) (a b : List ℕ) → i < length a → i < length b
    → vec_cmp (take (suc i) a) (take (suc i) b)
    ≡ ordering_then (vec_cmp (take i a) (take i b)) (nat_cmp (get_or a i 0) (get_or b i 0))
cmp_more i [] b l m = absurd (omega arith)
cmp_more i (x ∷ a) [] l m = absurd (omega arith)
cmp_more zero (x ∷ a) (y ∷ b) l m = then_equal (nat_cmp x y)
cmp_more (suc i) (x ∷ a) (y ∷ b) l m =
    ap (ordering_then (nat_cmp x y)) (cmp_more i a b (omega arith) (omega arith))
    ∙ then_assoc (nat_cmp x y) (vec_cmp (take i a) (take i b)) (nat_cmp (get_or a i 0) (get_or b i 0))

-- what is at most another is so by fewer numbers
pub at_most_fewer : (n m : ℕ) (a b : List ℕ) → n ≤ m → IsAtMost (take m a) (take m b) → IsAtMost (take n a) (take n b)
at_most_fewer zero m a b l h = refl
at_most_fewer (suc n) zero a b l h = absurd (omega arith)
at_most_fewer (suc n) (suc m) [] [] l h = refl
at_most_fewer (suc n) (suc m) [] (y ∷ b) l h = refl
at_most_fewer (suc n) (suc m) (x ∷ a) [] l h = h
at_most_fewer (suc n) (suc m) (x ∷ a) (y ∷ b) l h =
    then_both (nat_cmp x y) (vec_cmp (take n a) (take n b)) (then_first (nat_cmp x y) (vec_cmp (take m a) (take m b)) h)
    (λ e. at_most_fewer n m a b (omega arith) (then_second (nat_cmp x y) (vec_cmp (take m a) (take m b)) h e))

-- vectors that are at most each other compare as equal
-- what is at most the other, both ways, is the same
pub equal_from_both : (o p : Ordering) → o ≡ ordering_reverse p → is_le o ≡ true → is_le p ≡ true → o ≡ Equal
equal_from_both o Equal e h k = e
equal_from_both o Less e h k = absurd (false≢true (sym (ap is_le e) ∙ h))
equal_from_both o Greater e h k = absurd (false≢true k)

pub both_equal : (a b : List ℕ) → IsAtMost a b → IsAtMost b a → vec_cmp a b ≡ Equal
both_equal a b h k = equal_from_both (vec_cmp a b) (vec_cmp b a) (nat_list_cmp_total.antisymm a b) h k

-- what compares as equal is at most the same vectors
pub equal_at_most : (a b c : List ℕ) → vec_cmp a b ≡ Equal → IsAtMost a c → IsAtMost b c
equal_at_most a b c e h = sym (ap is_le (nat_list_cmp_total.congr a b c e)) ∙ h

-- The first r numbers, for r from 1 on, are compared by the first r - 1 and then by the last.
module _ (r : ℕ) (ranked : 1 ≤ r) (a b : List ℕ) (in_a : r ≤ length a) (in_b : r ≤ length b) where
  last_decides : vec_cmp (take r a) (take r b)
      ≡ ordering_then (vec_cmp (take (r - 1) a) (take (r - 1) b)) (nat_cmp (get_or a (r - 1) 0) (get_or b (r - 1) 0))
  last_decides =
      let next : r ≡ suc (r - 1) = omega arith in
      ap (λ (n : ℕ). vec_cmp (take n a) (take n b)) next ∙ cmp_more (r - 1) a b (omega arith) (omega arith)

  pub at_most_last : IsAtMost (take r a) (take r b) → vec_cmp (take (r - 1) a) (take (r - 1) b) ≡ Equal
      → get_or a (r - 1) 0 ≤ get_or b (r - 1) 0
  at_most_last h e =
      le_from_cmp (get_or a (r - 1) 0) (get_or b (r - 1) 0)
      (then_second (vec_cmp (take (r - 1) a) (take (r - 1) b)) (nat_cmp (get_or a (r - 1) 0) (get_or b (r - 1) 0))
      (ap is_le (sym last_decides) ∙ h) e)

  pub at_most_by_last : IsAtMost (take (r - 1) a) (take (r - 1) b)
      → (vec_cmp (take (r - 1) a) (take (r - 1) b) ≡ Equal → get_or a (r - 1) 0 ≤ get_or b (r - 1) 0)
      → IsAtMost (take r a) (take r b)
  at_most_by_last h k =
      ap is_le last_decides
      ∙ then_both (vec_cmp (take (r - 1) a) (take (r - 1) b)) (nat_cmp (get_or a (r - 1) 0) (get_or b (r - 1) 0)) h
      (λ e. cmp_from_le (get_or a (r - 1) 0) (get_or b (r - 1) 0) (k e))
