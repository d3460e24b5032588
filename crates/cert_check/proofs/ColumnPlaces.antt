-- Places are in a total order, and columns are compared as their places are.
use Rattle.std.proofs.Common.{◌≡◌, ℕ, true, false, List, [], ◌∷◌, refl, arith, ⊎_elim, inl, inr, ◌⊎◌}
use Rattle.std.proofs.{lemmas.Bool.{cases_lt, true≢false, false≢true}, lemmas.Cmp.ranked}
use Rattle.std.specs.{Ordering.{nat_cmp, ordering_then, is_gt}, declared.cmp.Ordering.Ordering}
use Rattle.std.specs.declared.cmp.Ordering.TheVariants.{Less, Equal, Greater}
use Rattle.tier_core.specs.{declared.sym.Sym.Sym, Orders.column_cmp, Symbols.rank}
use Rattle.cert_check.specs.Places.{IsBefore, column_place}

-- what comes between
pub before_or : (a b c : List ℕ) → IsBefore a c → IsBefore a b ⊎ IsBefore b c
before_or a b [] h = absurd h
before_or [] [] (z ∷ c) h = inr tt
before_or [] (y ∷ b) (z ∷ c) h = inl tt
before_or (x ∷ a) [] (z ∷ c) h = inr tt
before_or (x ∷ a) (y ∷ b) (z ∷ c) (inl less) = ⊎_elim (λ l. inl (inl l)) (λ l. inr (inl (omega arith))) (cases_lt x y)
before_or (x ∷ a) (y ∷ b) (z ∷ c) (inr same) =
    ⊎_elim (λ l. inl (inl l))
    (λ l. ⊎_elim (λ m. inr (inl (let e = same.0 in omega (arith, e))))
    (λ m. ⊎_elim (λ r. inl (inr (omega arith, r))) (λ r. inr (inr (let e = same.0 in omega (arith, e), r)))
    (before_or a b c same.1))
    (cases_lt y x))
    (cases_lt x y)

pub not_both_before : (a b : List ℕ) → IsBefore a b → IsBefore b a → ⊥
not_both_before a [] h k = h
not_both_before [] (y ∷ b) h k = k
not_both_before (x ∷ a) (y ∷ b) (inl less) (inl more) = absurd (omega arith)
not_both_before (x ∷ a) (y ∷ b) (inl less) (inr same) = absurd (let e = same.0 in omega (arith, e))
not_both_before (x ∷ a) (y ∷ b) (inr same) (inl more) = absurd (let e = same.0 in omega (arith, e))
not_both_before (x ∷ a) (y ∷ b) (inr same) (inr also) = not_both_before a b same.1 also.1

-- ---- columns

then_greater : (x y : Sym) (a b : List Sym) (o : Ordering)
    → (is_gt o ≡ true → IsBefore (column_place b) (column_place a)) → (r : Ordering)
    → r ≡ nat_cmp (rank x) (rank y) → is_gt (ordering_then r o) ≡ true
    → IsBefore (column_place (y ∷ b)) (column_place (x ∷ a))
then_greater x y a b o rest Less e h = absurd (false≢true h)
then_greater x y a b o rest Equal e h = inr (let q = ranked (rank x) (rank y) Equal e in omega (arith, q), rest h)
then_greater x y a b o rest Greater e h = inl (let q = ranked (rank x) (rank y) Greater e in omega (arith, q))

pub after_is : (a b : List Sym) → is_gt (column_cmp a b) ≡ true → IsBefore (column_place b) (column_place a)
after_is [] [] h = absurd (false≢true h)
after_is [] (y ∷ b) h = absurd (false≢true h)
after_is (x ∷ a) [] h = tt
after_is (x ∷ a) (y ∷ b) h = then_greater x y a b _ (after_is a b) _ refl h

then_not : (x y : Sym) (a b : List Sym) (o : Ordering)
    → (is_gt o ≡ false → IsBefore (column_place b) (column_place a) → ⊥) → (r : Ordering)
    → r ≡ nat_cmp (rank x) (rank y) → is_gt (ordering_then r o) ≡ false
    → IsBefore (column_place (y ∷ b)) (column_place (x ∷ a)) → ⊥
then_not x y a b o rest Less e h (inl less) = absurd (let q = ranked (rank x) (rank y) Less e in omega (arith, q))
then_not x y a b o rest Less e h (inr same) = absurd
    (let q = ranked (rank x) (rank y) Less e in let s = same.0 in omega (arith, q, s))
then_not x y a b o rest Equal e h (inl less) = absurd (let q = ranked (rank x) (rank y) Equal e in omega (arith, q))
then_not x y a b o rest Equal e h (inr same) = rest h same.1
then_not x y a b o rest Greater e h p = absurd (true≢false h)

pub not_after_is : (a b : List Sym) → is_gt (column_cmp a b) ≡ false
    → IsBefore (column_place b) (column_place a) → ⊥
not_after_is [] [] h p = p
not_after_is [] (y ∷ b) h p = p
not_after_is (x ∷ a) [] h p = absurd (true≢false h)
not_after_is (x ∷ a) (y ∷ b) h p = then_not x y a b _ (not_after_is a b) _ refl h p
