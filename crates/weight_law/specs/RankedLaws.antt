-- Vectors of violations satisfy the laws of weights.
use Rattle.std.specs.Prelude.{◌≡◌, ℕ, zero, suc, ◌+◌, ◌<◌, ◌≤◌, ◌==◌, true, false, List, [], ◌∷◌, replicate, length, if◌then◌else◌, refl}
use Rattle.std.specs.declared.cmp.Ordering.{Ordering}
use Rattle.std.specs.declared.cmp.Ordering.TheVariants.{Less, Equal, Greater}
use Rattle.std.specs.Ordering.{nat_cmp, is_lt, ordering_then, ordering_reverse}
use Rattle.std.specs.Cmp.Lexicographic.{slice_cmp}
use Rattle.std.proofs.Common.{sym, ap, ◌∙◌, get_or, arith}
use Rattle.std.proofs.lemmas.Bool.{false≢true, eqb-true, eq-eqb}
use Rattle.std.proofs.lemmas.Bool.Decides.{nat_tests}
use Rattle.std.proofs.lemmas.List.{ext_get_or}
use Rattle.std.proofs.lemmas.Cmp.{ranked, tied_itself, nat_list_cmp_total}
use Rattle.weight_law.specs.Meaning.{IsLawful}
use Rattle.weight_law.specs.Ranked.{greatest_part, add_each, ranked_of, ranked_meaning}
use Rattle.weight_law.specs.declared.ranked.Ranked.{Ranked}

-- how two vectors compare
abbrev pub parts_cmp : List ℕ → List ℕ → Ordering
parts_cmp = slice_cmp nat_cmp

pub length-sum : (xs ys : List ℕ) → length xs ≡ length ys → length (add_each xs ys) ≡ length xs
length-sum [] ys e = refl
length-sum (x ∷ xs) [] e = sym e
length-sum (x ∷ xs) (y ∷ ys) e = ap suc (length-sum xs ys (omega arith))

pub sum-assoc : (xs ys zs : List ℕ) → add_each (add_each xs ys) zs ≡ add_each xs (add_each ys zs)
sum-assoc [] ys zs = refl
sum-assoc (x ∷ xs) [] zs = refl
sum-assoc (x ∷ xs) (y ∷ ys) [] = refl
sum-assoc (x ∷ xs) (y ∷ ys) (z ∷ zs) =
    let e : x + y + z ≡ x + (y + z) = omega arith in
    let rest = sum-assoc xs ys zs in
    cc

sum-comm : (xs ys : List ℕ) → add_each xs ys ≡ add_each ys xs
sum-comm [] [] = refl
sum-comm [] (y ∷ ys) = refl
sum-comm (x ∷ xs) [] = refl
sum-comm (x ∷ xs) (y ∷ ys) =
    let e : x + y ≡ y + x = omega arith in
    let rest = sum-comm xs ys in
    cc

sum-zero : (n : ℕ) (xs : List ℕ) → length xs ≡ n → add_each xs (replicate n 0) ≡ xs
sum-zero n [] e = refl
sum-zero zero (x ∷ xs) e = absurd (omega (arith, e))
sum-zero (suc n) (x ∷ xs) e =
    let same : x + 0 ≡ x = omega arith in
    let rest = sum-zero n xs (omega arith) in
    cc

greatest-sum : (xs ys : List ℕ) → greatest_part (add_each xs ys) ≤ greatest_part xs + greatest_part ys
greatest-sum [] ys = omega arith
greatest-sum (x ∷ xs) [] = omega arith
greatest-sum (x ∷ xs) (y ∷ ys) = omega (arith, greatest-sum xs ys)

greatest-zero : (n : ℕ) → greatest_part (replicate n 0) ≡ 0
greatest-zero zero = refl
greatest-zero (suc n) = omega (arith, greatest-zero n)

-- no part is greater than the greatest
pub part-greatest : (xs : List ℕ) (i : ℕ) → get_or xs i 0 ≤ greatest_part xs
part-greatest [] i = omega arith
part-greatest (x ∷ xs) zero = omega arith
part-greatest (x ∷ xs) (suc i) = omega (arith, part-greatest xs i)

pub get_or-sum : (xs ys : List ℕ) (i : ℕ) → length xs ≡ length ys
    → get_or (add_each xs ys) i 0 ≡ get_or xs i 0 + get_or ys i 0
get_or-sum [] [] i e = refl
get_or-sum [] (y ∷ ys) i e = absurd (omega (arith, e))
get_or-sum (x ∷ xs) [] i e = absurd (omega (arith, e))
get_or-sum (x ∷ xs) (y ∷ ys) zero e = refl
get_or-sum (x ∷ xs) (y ∷ ys) (suc i) e = get_or-sum xs ys i (omega arith)

-- a list whose parts are the sums is the sum
pub sum_from_parts : (xs ys zs : List ℕ) → length xs ≡ length ys → length zs ≡ length xs
    → ((k : ℕ) → k < length zs → get_or zs k 0 ≡ get_or xs k 0 + get_or ys k 0) → zs ≡ add_each xs ys
sum_from_parts xs ys zs e f each =
    ext_get_or 0 zs (add_each xs ys)
    (f ∙ sym (length-sum xs ys e))
    (λ i l. each i l ∙ sym (get_or-sum xs ys i e))

equal_parts : (a b : List ℕ) → parts_cmp a b ≡ Equal → a ≡ b
equal_parts [] [] e = refl
equal_parts [] (y ∷ ys) e = cc
equal_parts (x ∷ xs) [] e = cc
equal_parts (x ∷ xs) (y ∷ ys) e = go (nat_cmp x y) refl e (equal_parts xs ys)
  where
    go : (r : Ordering) → r ≡ nat_cmp x y → ordering_then r (parts_cmp xs ys) ≡ Equal
        → (parts_cmp xs ys ≡ Equal → xs ≡ ys) → (x ∷ xs) ≡ (y ∷ ys)
    go Less h e more = cc
    go Equal h e more =
        let same : x ≡ y = ranked x y Equal h in
        let rest : xs ≡ ys = more e in
        cc
    go Greater h e more = cc

not_below_zero : (n : ℕ) (xs : List ℕ) → length xs ≡ n → is_lt (parts_cmp xs (replicate n 0)) ≡ false
not_below_zero zero [] e = refl
not_below_zero (suc n) [] e = absurd (omega (arith, e))
not_below_zero zero (x ∷ xs) e = refl
not_below_zero (suc n) (x ∷ xs) e = go (nat_cmp x 0) refl (not_below_zero n xs (omega arith))
  where
    go : (r : Ordering) → r ≡ nat_cmp x 0 → is_lt (parts_cmp xs (replicate n 0)) ≡ false
        → is_lt (ordering_then r (parts_cmp xs (replicate n 0))) ≡ false
    go Less h k =
        let below = ranked x 0 Less h in
        absurd (omega (arith, below))
    go Equal h k = k
    go Greater h k = refl

cmp_shift : (x y z : ℕ) → nat_cmp (x + z) (y + z) ≡ nat_cmp x y
cmp_shift x y z = grind (arith, nat_tests)

cmp-sum : (xs ys zs : List ℕ) → length xs ≡ length zs → length ys ≡ length zs
    → parts_cmp (add_each xs zs) (add_each ys zs) ≡ parts_cmp xs ys
cmp-sum [] [] zs e f = refl
cmp-sum [] (y ∷ ys) zs e f = absurd (omega (arith, e, f))
cmp-sum (x ∷ xs) [] zs e f = absurd (omega (arith, e, f))
cmp-sum (x ∷ xs) (y ∷ ys) [] e f = absurd (omega (arith, e))
cmp-sum (x ∷ xs) (y ∷ ys) (z ∷ zs) e f =
    ap (λ r. ordering_then r (parts_cmp (add_each xs zs) (add_each ys zs))) (cmp_shift x y z)
    ∙ ap (λ r. ordering_then (nat_cmp x y) r) (cmp-sum xs ys zs (omega arith) (omega arith))

less_from : (r : Ordering) → is_lt r ≡ true → r ≡ Less
less_from Less e = refl
less_from Equal e = absurd (false≢true e)
less_from Greater e = absurd (false≢true e)

equal_from : (r s : Ordering) → r ≡ ordering_reverse s → is_lt r ≡ false → is_lt s ≡ false → r ≡ Equal
equal_from Less s t e f = absurd (false≢true (sym e))
equal_from Equal s t e f = refl
equal_from Greater Less t e f = absurd (false≢true (sym f))
equal_from Greater Equal t e f = cc
equal_from Greater Greater t e f = cc

-- an order and its reverse, by whether each is `Less`
order_from : (r s : Ordering) → r ≡ ordering_reverse s
    → r ≡ (if is_lt r then Less else (if is_lt s then Greater else Equal))
order_from Less s t = refl
order_from Equal Less t = cc
order_from Equal Equal t = refl
order_from Equal Greater t = cc
order_from Greater Less t = refl
order_from Greater Equal t = cc
order_from Greater Greater t = cc

-- how two vectors compare, by whether each is below the other
pub order_by_tests : (a b : List ℕ)
    → parts_cmp a b ≡ (if is_lt (parts_cmp a b) then Less else (if is_lt (parts_cmp b a) then Greater else Equal))
order_by_tests a b = order_from (parts_cmp a b) (parts_cmp b a) (nat_list_cmp_total.antisymm a b)

many : (a : Ranked) → (length a.parts == 24) ≡ true → length a.parts ≡ 24
many a h = eqb-true (length a.parts) 24 h

as_many : (a b : Ranked) → (length a.parts == 24) ≡ true → (length b.parts == 24) ≡ true
    → length a.parts ≡ length b.parts
as_many a b oa ob = many a oa ∙ sym (many b ob)

pub ranked_lawful : IsLawful ranked_meaning
ranked_lawful = record {
  lawful_zero = refl;
  lawful_sum = λ a b oa ob.
      eq-eqb (length (add_each a.parts b.parts)) 24
      (length-sum a.parts b.parts (as_many a b oa ob) ∙ many a oa);
  size_zero = greatest-zero 24;
  size_sum = λ a b _ _. greatest-sum a.parts b.parts;
  sum_assoc = λ a b c _ _ _. ap ranked_of (sum-assoc a.parts b.parts c.parts);
  sum_comm = λ a b _ _. ap ranked_of (sum-comm a.parts b.parts);
  sum_zero = λ a oa. ap ranked_of (sum-zero 24 a.parts (many a oa));
  below_itself = λ a _. rw (tied_itself nat_list_cmp_total a.parts) refl;
  below_transitive = λ a b c _ _ _ p q.
      rw (nat_list_cmp_total.trans a.parts b.parts c.parts
      (less_from (parts_cmp a.parts b.parts) p)
      (less_from (parts_cmp b.parts c.parts) q))
      refl;
  below_total = λ a b _ _ p q.
      ap ranked_of (equal_parts a.parts b.parts
      (equal_from (parts_cmp a.parts b.parts) (parts_cmp b.parts a.parts)
      (nat_list_cmp_total.antisymm a.parts b.parts) p q));
  below_zero = λ a oa. not_below_zero 24 a.parts (many a oa);
  below_sum = λ a b c oa ob oc. ap is_lt (cmp-sum a.parts b.parts c.parts (as_many a c oa oc) (as_many b c ob oc));
}
