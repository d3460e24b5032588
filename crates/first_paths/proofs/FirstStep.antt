-- One column more at the front of a first word.
use Rattle.std.proofs.Common.{◌≡◌, ℕ, ◌+◌, ◌≤◌, false, List, [], ◌∷◌, length, refl, sym, subst, arith, inl}
use Rattle.std.proofs.{Common.inr, lemmas.Bool.{false≢true, cases_lt}}
use Rattle.std.specs.{declared.cmp.Ordering.Ordering, declared.cmp.Ordering.TheVariants.{Less, Equal, Greater}}
use Rattle.std.specs.Ordering.{ordering_then, is_gt}
use Rattle.tier_core.specs.{declared.sym.Sym.Sym, Orders.{column_cmp, IsFirst}}
use Rattle.first_paths.specs.Search.{ReadsFrom, AreLengths, IsLeastStep, HasStep}
use Rattle.first_paths.proofs.{Order.equal_columns, FirstFrom.{word_cmp, IsFirstOf, first_le}}

module _ (step : ℕ → List Sym → ℕ → Type 0) (ends : ℕ → Type 0) where
  -- the first of the words that are read from v
  pub record IsFirstFrom (v : ℕ) (word : List (List Sym)) : Type 0 where
    pub read : ReadsFrom step ends v word
    pub first : (other : List (List Sym)) → ReadsFrom step ends v other → IsFirstOf word other

  pub is_first : (v : ℕ) (word : List (List Sym)) → IsFirstFrom v word → IsFirst (ReadsFrom step ends v) word
  is_first v word f = record { member = f.read; least = λ other r. first_le word other (f.first other r) }

  module _ (left : ℕ → ℕ → Type 0) (same_left : (v m n : ℕ) → left v m → left v n → m ≡ n)
      (are : AreLengths step ends left) where
    -- with no column left the empty word is the first
    pub first_empty : (v : ℕ) → left v 0 → IsFirstFrom v []
    first_empty v at = record {
      read = go (are.some v 0 at).0 (are.some v 0 at).1.0 (are.some v 0 at).1.1;
      first = first;
    }
      where
        go : (word : List (List Sym)) → ReadsFrom step ends v word → length word ≡ 0 → ReadsFrom step ends v []
        go [] r e = r
        go (c ∷ word) r e = absurd (omega (arith, e))

        first : (other : List (List Sym)) → ReadsFrom step ends v other → IsFirstOf [] other
        first [] r = inr (refl, refl)
        first (c ∷ other) r = inl (omega arith)

    -- the first word has as many columns as are left
    first_length : (v n : ℕ) (word : List (List Sym)) → left v n → IsFirstFrom v word → length word ≡ n
    first_length v n word at first =
        let bound = are.least v word first.read in
        let some = are.some v n at in
        let same : bound.0 ≡ n = same_left v bound.0 n bound.1.0 at in
        let upper : length word ≤ length some.0 = elim
        (first.first some.0 some.1.0) [ inl l ↦ omega arith | inr e ↦ omega (arith, e.0) ] in
        omega (arith, bound.1.1, some.1.1, same, upper)

    -- where columns are left, a step leads nearer
    pub step_exists : (v n : ℕ) → left v (n + 1) → HasStep step left v n
    step_exists v n at = go (are.some v (n + 1) at).0 (are.some v (n + 1) at).1.0 (are.some v (n + 1) at).1.1
      where
        go : (word : List (List Sym)) → ReadsFrom step ends v word → length word ≡ n + 1 → HasStep step left v n
        go [] r e = absurd (omega (arith, e))
        go (c ∷ word) r e =
            let w = r.0 in
            let near = are.least w word r.1.1 in
            let best = are.some w near.0 near.1.0 in
            let back = are.least v (c ∷ best.0) (w, (r.1.0, best.1.0)) in
            let same : back.0 ≡ n + 1 = same_left v back.0 (n + 1) back.1.0 at in
            let P : ℕ → Type 0 = λ k. left w k in
            let here : near.0 ≡ n = omega (arith, near.1.1, back.1.1, best.1.1, same, e) in
            (c, w, (r.1.0, subst P here near.1.0))

    module _ (one : (v w x : ℕ) (column : List Sym) → step v column w → step v column x → w ≡ x) (v n : ℕ)
        (at : left v (n + 1)) (column : List Sym) (w : ℕ) (choice : IsLeastStep step left v n column w)
        (word : List (List Sym)) (rest : IsFirstFrom w word) where
      word_length : length word ≡ n
      word_length = first_length w n word choice.nearer rest

      at_most_other : (d : List Sym) (x : ℕ) (vs : List (List Sym)) → step v d x → left x n
          → ReadsFrom step ends x vs → length vs ≡ n → is_gt (word_cmp (column ∷ word) (d ∷ vs)) ≡ false
      at_most_other d x vs steps near read long = go (column_cmp column d) refl (choice.least d x steps near)
        where
          go : (r : Ordering) → column_cmp column d ≡ r → is_gt r ≡ false
              → is_gt (ordering_then (column_cmp column d) (word_cmp word vs)) ≡ false
          go Less e f = rw e refl
          go Equal e f =
              (let same : column ≡ d = equal_columns column d e in
              let P : List Sym → Type 0 = λ c. step v c w in
              let meets : x ≡ w = one v x w d steps (subst P same choice.steps) in
              let R : ℕ → Type 0 = λ y. ReadsFrom step ends y vs in
              let later : is_gt (word_cmp word vs)
              ≡ false = elim (rest.first vs (subst R meets read)) [
                | inl shorter ↦ absurd
                    (omega (arith, shorter, word_length, long))
                | inr even ↦ even.1
              ] in
              rw e later)
          go Greater e f = absurd (false≢true (sym f))

      pub first_step : IsFirstFrom v (column ∷ word)
      first_step = record { read = (w, (choice.steps, rest.read)); first = first }
        where
          first : (other : List (List Sym)) → ReadsFrom step ends v other → IsFirstOf (column ∷ word) other
          first [] r =
              (let back = are.least v [] r in
              let same : back.0 ≡ n + 1 = same_left v back.0 (n + 1) back.1.0 at in
              absurd (omega (arith, back.1.1, same)))
          first (d ∷ vs) r =
              (let x = r.0 in
              let near = are.least x vs r.1.1 in
              let best = are.some x near.0 near.1.0 in
              let back = are.least v (d ∷ best.0) (x, (r.1.0, best.1.0)) in
              let same : back.0 ≡ n + 1 = same_left v back.0 (n + 1) back.1.0 at in
              elim (cases_lt n (length vs)) [
                | inl more ↦ inl (omega (arith, word_length, more))
                | inr few ↦
                    (let P : ℕ → Type 0 = λ k. left x k in
                    let here : near.0 ≡ n = omega (arith, near.1.1, back.1.1, best.1.1, same, few) in
                    let long : length vs ≡ n = omega (arith, few, near.1.1, back.1.1, best.1.1, same) in
                    inr (
                      omega (arith, word_length, long),
                      at_most_other d x vs r.1.0 (subst P here near.1.0) r.1.1 long,
                    ))
              ])
