-- A kind is put among those that are listed: it is one of them, or goes last.
use Rattle.std.proofs.Common.{◌≡◌, ℕ, suc, ◌+◌, ◌<◌, ◌≤◌, Bool, true, false, not, cond, List, [], ◌∷◌, Some, length}
use Rattle.std.proofs.{Common.{refl, ap, sym, ◌∙◌, subst, arith, inl, inr}, lemmas.List.length_push}
use Rattle.std.proofs.lemmas.Option.{slice_get_within}
use Rattle.std.specs.{List.position_or_len, Map.keys_of}
use Rattle.indexmap.specs.IndexMap.{insert_entry}
use Rattle.tier_core.specs.declared.kind.Kind.{Kind}
use Rattle.tier_core.proofs.SameKinds.{kind_eq, kind_eq-Decides}
use Rattle.stage_tables.specs.Listed.{IsAt, IsPutLast, IsNumbered}

module _ (kind : Kind) (state : ℕ) where
  -- if the kind is listed, it stands over the state
  abbrev StandsAt : List (Kind × ℕ) → Type 0
  StandsAt entries = (k s : ℕ) → IsAt entries k kind s → s ≡ state

  -- its own number, or the next one
  abbrev number : List (Kind × ℕ) → ℕ
  number entries = position_or_len (kind_eq kind) (keys_of entries)

  pub numbered_as : (entries now next : List (Kind × ℕ)) (j k : ℕ) → now ≡ next → j ≡ k
      → IsNumbered entries next k kind state → IsNumbered entries now j kind state
  numbered_as entries now next j k same at n = rw same (rw at n)

  -- a kind more in front
  behind : (e : Kind × ℕ) (entries next : List (Kind × ℕ)) (k : ℕ) → IsNumbered entries next k kind state
      → IsNumbered (e ∷ entries) (e ∷ next) (suc k) kind state
  behind e entries next k n = record {
    at = n.at;
    grows = elim n.grows [
      | inl same ↦ inl (ap (λ xs. e ∷ xs) same)
      | inr put ↦ inr (ap (λ xs. e ∷ xs) put.0, ap suc put.1)
    ];
  }

  -- a kind that is inserted is numbered
  pub numbered : (entries : List (Kind × ℕ)) → StandsAt entries
      → IsNumbered entries (insert_entry kind_eq entries kind state) (number entries) kind state
  numbered [] over = record { at = refl; grows = inr (refl, refl) }
  numbered (e ∷ entries) over = by _ refl (numbered entries (λ k s at. over (suc k) s at))
    where
      by : (b : Bool) → kind_eq kind e.0 ≡ b
          → IsNumbered entries (insert_entry kind_eq entries kind state) (number entries) kind state
          → IsNumbered (e ∷ entries) (insert_entry kind_eq (e ∷ entries) kind state) (number (e ∷ entries)) kind state
      by true h rest =
          let same = (kind_eq-Decides _ _).0 h in
          let here = ap (λ (x : Kind). Some (x, e.1)) (sym same) in
          let own = over 0 e.1 here in
          numbered_as _ _ _ _ 0 (ap (λ b. cond b ((e.0, state) ∷ entries) (e ∷ insert_entry kind_eq entries kind state))
          h ∙ ap (λ x. (e.0, x) ∷ entries) (sym own)) (ap (λ b. cond (not b) (1 + number entries) 0) h)
          (record { at = here ∙ ap (λ (x : ℕ). Some (kind, x)) own; grows = inl refl })
      by false h rest =
          let one : 1 + number entries ≡ suc (number entries) = omega arith in
          numbered_as _ _ _ _ _ (ap (λ b. cond b ((e.0, state) ∷ entries) (e ∷ insert_entry kind_eq entries kind state))
          h) (ap (λ b. cond (not b) (1 + number entries) 0) h ∙ one) (behind e _ _ _ rest)

module _ (entries next : List (Kind × ℕ)) (k : ℕ) (kind : Kind) (s budget : ℕ)
    (n : IsNumbered entries next k kind s) (few : length entries ≤ budget) where
  -- a number within the budget leaves no more kinds than that
  pub few_numbered : k < budget → length next ≤ budget
  few_numbered inside = elim n.grows [
    | inl same ↦ (let e = ap (λ xs. length xs) same in omega arith)
    | inr put ↦
        (let e = ap (λ xs. length xs) put.0 ∙ length_push _ _ in
        omega (arith, put.1))
  ]

  -- a number over the budget is a new one
  pub put_beyond : budget ≤ k → IsPutLast entries next kind s
  put_beyond over = elim n.grows [
    | inl same ↦
        (let e = ap (λ xs. length xs) same in
        let l = slice_get_within next k (kind, s) n.at in
        absurd (omega arith))
    | inr put ↦ put.0
  ]
