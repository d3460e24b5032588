-- Where a number stands in a list of distinct numbers.
use Rattle.std.proofs.Common.{◌≡◌, ◌≢◌, ℕ, ◌+◌, ◌<◌, false, List, [], ◌∷◌, ◌++◌, None, Some, length, get_or, take}
use Rattle.std.proofs.Common.{sym, ap, ◌∙◌, arith, inl, inr, cond, eqb, eq-eqb}
use Rattle.std.proofs.lemmas.Bool.{false≢true, eqb-true, cases_order, ne_eqb}
use Rattle.std.proofs.lemmas.Option.{slice_get-get_or, slice_get_within, get_or_from_slice_get}
use Rattle.std.proofs.lemmas.List.{get_or-take, get_or_default, length-take-le, take_more}
use Rattle.std.proofs.{lemmas.List.Folds.list_any_none, lemmas.List.Sums.fails_before_first}
use Rattle.std.proofs.lemmas.List.Quantifiers.{position-Some}
use Rattle.std.specs.{Prelude.{AllPairs, slice_get, position}, List.list_any}
use Rattle.indexmap.specs.IndexSet.{insert_key}
use Rattle.timeline_text.proofs.Splits.{position_none}

module _ (numbers : List ℕ) (n : ℕ) where
  pub found_at : (k : ℕ) → position (eqb n) numbers ≡ Some k → slice_get numbers k ≡ Some n
  found_at k e =
      let at = position-Some (eqb n) numbers k 0 e in
      let same : n ≡ get_or numbers k 0 = eqb-true n (get_or numbers k 0) at.1 in
      slice_get-get_or numbers k 0 at.0 ∙ ap (λ x. Some x) (sym same)

  pub found_nowhere : (k : ℕ) → position (eqb n) numbers ≡ None → slice_get numbers k ≡ Some n → ⊥
  found_nowhere k e at =
      let inside = slice_get_within numbers k n at in
      let here : get_or numbers k 0 ≡ n = get_or_from_slice_get numbers k n 0 at in
      let fails = fails_before_first (eqb n) numbers k 0 (omega (arith, inside, position_none (eqb n) numbers e)) in
      absurd (false≢true (sym fails ∙ eq-eqb n (get_or numbers k 0) (sym here)))

  -- no number stands twice
  pub once_at : AllPairs (λ a b. a ≢ b) numbers → (j k : ℕ) → slice_get numbers j ≡ Some n
      → slice_get numbers k ≡ Some n → j ≡ k
  once_at once j k at_j at_k = elim (cases_order j k) [
    | inl same ↦ same
    | inr other ↦ elim other [
      | inl less ↦ absurd (once j k 0 less (slice_get_within numbers k n at_k) (there j at_j ∙ sym (there k at_k)))
      | inr more ↦ absurd (once k j 0 more (slice_get_within numbers j n at_j) (there k at_k ∙ sym (there j at_j)))
    ]
  ]
    where
      there : (i : ℕ) → slice_get numbers i ≡ Some n → get_or numbers i 0 ≡ n
      there i at = get_or_from_slice_get numbers i n 0 at

-- a number is none of those before it
pub new_number : (numbers : List ℕ) (i : ℕ) → AllPairs (λ a b. a ≢ b) numbers → i < length numbers
    → list_any (eqb (get_or numbers i 0)) (take i numbers) ≡ false
new_number numbers i once inside = list_any_none (eqb (get_or numbers i 0)) (take i numbers) each
  where
    each : (k : ℕ) (d : ℕ) → k < length (take i numbers)
        → eqb (get_or numbers i 0) (get_or (take i numbers) k d) ≡ false
    each k d l =
        let below : k < i = omega (arith, l, length-take-le i numbers (omega arith)) in
        let other : get_or numbers i 0 ≢ get_or (take i numbers) k d = λ e. once k i 0 below inside
        (sym (get_or-take i numbers k 0 below) ∙ get_or_default (take i numbers) k 0 d l ∙ sym e) in
        ne_eqb (get_or numbers i 0) (get_or (take i numbers) k d) other

-- one number more is put at the end
pub numbered_more : (numbers : List ℕ) (i n : ℕ) (keys new : List ℕ) → AllPairs (λ a b. a ≢ b) numbers
    → i < length numbers → keys ≡ take i numbers → get_or numbers i 0 ≡ n → new ≡ insert_key eqb keys n
    → new ≡ take (i + 1) numbers
numbered_more numbers i n keys new once inside before here put =
    put ∙ ap (λ ks. insert_key eqb ks n) before ∙ ap (insert_key eqb (take i numbers)) (sym here)
    ∙ ap (λ b. cond b (take i numbers) (take i numbers ++ get_or numbers i 0 ∷ [])) (new_number numbers i once inside)
    ∙ sym (take_more numbers i 0 inside)
