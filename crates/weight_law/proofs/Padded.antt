-- Vectors as the parts of ranked weights: their sums, their order and their greatest part.
use Rattle.std.proofs.Common.{◌≡◌, ℕ, zero, suc, ◌+◌, ◌-◌, ◌≤◌, Bool, true, false, max, List, [], ◌∷◌, ◌++◌, map}
use Rattle.std.proofs.{Common.{replicate, length, refl, sym, ap, ◌∙◌, subst, arith}, lemmas.Bool.false≢true}
use Rattle.std.proofs.{lemmas.List.length-map, lemmas.Cmp.{tied_itself, nat_list_cmp_total}}
use Rattle.std.specs.{declared.cmp.Ordering.Ordering, declared.cmp.Ordering.TheVariants.{Less, Equal, Greater}}
use Rattle.std.specs.Ordering.{nat_cmp, is_lt, is_le, ordering_then, ordering_reverse}
use Rattle.weight_law.specs.Meaning.{Meaning, AtMost}
use Rattle.weight_law.specs.Ranked.{greatest_part, add_each, parts_of_vector, ranked_meaning}
use Rattle.weight_law.specs.{RankedLaws.{parts_cmp, length-sum}, declared.ranked.Ranked.Ranked}

sum-append : (a b xs ys : List ℕ) → length a ≡ length b
    → add_each (a ++ xs) (b ++ ys) ≡ add_each a b ++ add_each xs ys
sum-append [] [] xs ys e = refl
sum-append [] (y ∷ b) xs ys e = absurd (omega (arith, e))
sum-append (x ∷ a) [] xs ys e = absurd (omega (arith, e))
sum-append (x ∷ a) (y ∷ b) xs ys e = ap (λ ns. (x + y) ∷ ns) (sum-append a b xs ys (omega arith))

sum-zeros : (n : ℕ) → add_each (replicate n 0) (replicate n 0) ≡ replicate n 0
sum-zeros zero = refl
sum-zeros (suc n) = ap (λ ns. 0 ∷ ns) (sum-zeros n)

-- the sum of two vectors of one length
pub sum-padded : (a b : List ℕ) → length a ≡ length b → add_each (parts_of_vector a) (parts_of_vector b)
    ≡ parts_of_vector (add_each a b)
sum-padded a b e =
    ap (λ (n : ℕ). add_each (parts_of_vector a) (b ++ replicate (24 - n) 0)) (sym e)
    ∙ sum-append a b (replicate (24 - length a) 0) (replicate (24 - length a) 0) e
    ∙ ap (λ ns. add_each a b ++ ns) (sum-zeros (24 - length a))
    ∙ ap (λ (n : ℕ). add_each a b ++ replicate (24 - n) 0) (sym (length-sum a b e))

-- a zero for each element
abbrev zeros_of : {X : Type 0} → List X → List ℕ
zeros_of xs = map (λ x. 0) xs

zeros-append : {X : Type 0} (xs : List X) (n : ℕ) → length xs ≤ n
    → zeros_of xs ++ replicate (n - length xs) 0 ≡ replicate n 0
zeros-append [] n l = (let same : n - 0 ≡ n = omega arith in rw same refl)
zeros-append (x ∷ xs) zero l = absurd (omega arith)
zeros-append (x ∷ xs) (suc n) l =
    let less : suc n - suc (length xs) ≡ n - length xs = omega arith in
    rw less (ap (λ (ns : List ℕ). 0 ∷ ns) (zeros-append xs n (omega arith)))

-- a vector of zeros
pub padded_zero : {X : Type 0} (xs : List X) → length xs ≤ 24 → parts_of_vector (map (λ x. 0) xs) ≡ replicate 24 0
padded_zero xs l = ap (λ (n : ℕ). zeros_of xs ++ replicate (24 - n) 0) (length-map xs (λ x. 0)) ∙ zeros-append xs 24 l

cmp-append : (a b xs : List ℕ) → length a ≡ length b → parts_cmp (a ++ xs) (b ++ xs) ≡ parts_cmp a b
cmp-append [] [] xs e = tied_itself nat_list_cmp_total xs
cmp-append [] (y ∷ b) xs e = absurd (omega (arith, e))
cmp-append (x ∷ a) [] xs e = absurd (omega (arith, e))
cmp-append (x ∷ a) (y ∷ b) xs e = ap (ordering_then (nat_cmp x y)) (cmp-append a b xs (omega arith))

cmp-padded : (a b : List ℕ) → length a ≡ length b → parts_cmp (parts_of_vector a) (parts_of_vector b) ≡ parts_cmp a b
cmp-padded a b e =
    ap (λ (n : ℕ). parts_cmp (parts_of_vector a) (b ++ replicate (24 - n) 0)) (sym e)
    ∙ cmp-append a b (replicate (24 - length a) 0) e

not_below : (r s : Ordering) → r ≡ ordering_reverse s → is_lt r ≡ false → is_le s ≡ true
not_below r Less e h = refl
not_below r Equal e h = refl
not_below r Greater e h = absurd (false≢true (sym h ∙ ap is_lt e))

below_not : (r s : Ordering) → r ≡ ordering_reverse s → is_le s ≡ true → is_lt r ≡ false
below_not r Less e h = ap is_lt e
below_not r Equal e h = ap is_lt e
below_not r Greater e h = absurd (false≢true h)

-- weights of vectors of one length are compared as these
module _ (a b : Ranked) (v w : List ℕ) (is_v : a.parts ≡ parts_of_vector v) (is_w : b.parts ≡ parts_of_vector w)
    (even : length w ≡ length v) where
  turned : parts_cmp b.parts a.parts ≡ ordering_reverse (parts_cmp v w)
  turned =
      ap (parts_cmp b.parts) is_v
      ∙ ap (λ xs. parts_cmp xs (parts_of_vector v)) is_w
      ∙ cmp-padded w v even
      ∙ nat_list_cmp_total.antisymm w v

  pub at_most_vector : AtMost ranked_meaning a b → is_le (parts_cmp v w) ≡ true
  at_most_vector h = not_below (parts_cmp b.parts a.parts) (parts_cmp v w) turned h

  pub vector_at_most : is_le (parts_cmp v w) ≡ true → AtMost ranked_meaning a b
  vector_at_most h = below_not (parts_cmp b.parts a.parts) (parts_cmp v w) turned h

greatest-append : (a xs : List ℕ) → greatest_part (a ++ xs) ≡ max (greatest_part a) (greatest_part xs)
greatest-append [] xs = omega arith
greatest-append (x ∷ a) xs = omega (arith, greatest-append a xs)

greatest-zeros : (n : ℕ) → greatest_part (replicate n 0) ≡ 0
greatest-zeros zero = refl
greatest-zeros (suc n) = omega (arith, greatest-zeros n)

pub greatest-padded : (v : List ℕ) → greatest_part (parts_of_vector v) ≡ greatest_part v
greatest-padded v = omega (arith, greatest-append v (replicate (24 - length v) 0), greatest-zeros (24 - length v))
