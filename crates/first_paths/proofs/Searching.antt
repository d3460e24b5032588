-- The search backward: what its start, one level and its end give.
use Rattle.std.proofs.Common.{◌≡◌, ℕ, ◌+◌, ◌<◌, ◌≤◌, List, [], ◌∷◌, length, sym, ◌∙◌, subst, arith, inl, inr}
use Rattle.std.proofs.lemmas.Bool.{cases_lt}
use Rattle.std.specs.Prelude.{Contains}
use Rattle.tier_core.specs.declared.sym.Sym.{Sym}
use Rattle.first_paths.specs.Search.{ReadsFrom, AreLengths, IsPredecessor, ReachesIn, IsSearchedIn}

module _ {X : Type 0} {left_in : List X → ℕ → ℕ → Type 0} {unknown : List X → ℕ} (step : ℕ → List Sym → ℕ → Type 0)
    (ends : ℕ → Type 0) (total : ℕ) where
  pub search_start : (start left : List X) (level : List ℕ) → length start ≡ total → unknown start ≡ total
      → ((v n : ℕ) → left_in start v n → ⊥) → ReachesIn left_in unknown ends 0 start left [] level
      → IsSearchedIn left_in unknown step ends total left level 0
  search_start start left level size all none reach = record {
    each = reach.same ∙ size;
    few = omega (arith, reach.number, all);
    at_most = λ v n at. omega (arith, (now v n at).0);
    some = λ v n at. ([], ((now v n at).1, sym (now v n at).0));
    ended = ended;
    closed = λ v w n column step_is at less. absurd (omega (arith, less));
    last = λ v at. (now v 0 at).2;
    level_is = λ v here. elim (reach.listed v here) [ inl before ↦ absurd (omega (arith, before.1)) | inr at ↦ at ];
  }
    where
      now : (v n : ℕ) → left_in left v n → (n ≡ 0) × ends v × Contains level v
      now v n at = elim (reach.found v n at) [ inl old ↦ absurd (none v n old) | inr new ↦ new ]

      ended : (v : ℕ) → ends v → left_in left v 0
      ended v end =
          let at = reach.reached v end in
          let P : ℕ → Type 0 = λ n. left_in left v n in
          subst P (now v at.0 at.1).0 at.1

  -- once a level is empty, each way has been counted
  pub search_end : (left : List X) (level : List ℕ) (k : ℕ)
      → IsSearchedIn left_in unknown step ends total left level k → length level ≡ 0
      → AreLengths step ends (left_in left)
  search_end left level k are empty = record { some = are.some; least = least }
    where
      least : (v : ℕ) (word : List (List Sym)) → ReadsFrom step ends v word
          → (n : ℕ) × (left_in left v n × (n ≤ length word))
      least v [] end = (0, (are.ended v end, omega arith))
      least v (column ∷ word) way =
          let rest = least way.0 word way.1.1 in
          let less : rest.0 < k = elim (cases_lt rest.0 k) [
            | inl l ↦ l
            | inr ge ↦ absurd (let P : ℕ → Type 0 = λ n. left_in left way.0 n in
                let same : rest.0 ≡ k = omega (arith, ge, are.at_most way.0 rest.0 rest.1.0) in
                let here = are.last way.0 (subst P same rest.1.0) in omega (arith, here.1, empty))
          ] in
          let own = are.closed v way.0 rest.0 column way.1.0 rest.1.0 less in
          (own.0, (own.1.0, omega (arith, own.1.1, rest.1.1)))

  pub search_next : (left new : List X) (level next : List ℕ) (k : ℕ)
      → IsSearchedIn left_in unknown step ends total left level k → 0 < length level
      → ReachesIn left_in unknown (IsPredecessor step level) (k + 1) left new [] next
      → IsSearchedIn left_in unknown step ends total new next (k + 1)
  search_next left new level next k are some_level reach = record {
    each = reach.same ∙ are.each;
    few = omega (arith, are.few, reach.number, some_level);
    at_most = at_most;
    some = some;
    ended = λ v end. reach.kept v 0 (are.ended v end);
    closed = closed;
    last = last;
    level_is = λ v here. elim (reach.listed v here) [ inl none ↦ absurd (omega (arith, none.1)) | inr at ↦ at ];
  }
    where
      at_most : (v n : ℕ) → left_in new v n → n ≤ k + 1
      at_most v n at = elim (reach.found v n at) [
        | inl known ↦ (let old = are.at_most v n known in omega (arith, old))
        | inr now ↦ omega (arith, now.0)
      ]

      some : (v n : ℕ) → left_in new v n → (word : List (List Sym)) × (ReadsFrom step ends v word × (length word ≡ n))
      some v n at = elim (reach.found v n at) [
        | inl known ↦ are.some v n known
        | inr now ↦
            (let from = now.1 in
            let rest = are.some from.0 k (are.level_is from.0 from.1) in
            (from.2.0 ∷ rest.0, ((from.0, (from.2.1, rest.1.0)), omega (arith, rest.1.1, now.0))))
      ]

      closed : (v w n : ℕ) (column : List Sym) → step v column w → left_in new w n → n < k + 1
          → (m : ℕ) × (left_in new v m × (m ≤ n + 1))
      closed v w n column steps at less = elim (reach.found w n at) [
        | inl known ↦ elim (cases_lt n k) [
          | inl l ↦ (let own = are.closed v w n column steps known l in (own.0, (reach.kept v own.0 own.1.0, own.1.1)))
          | inr ge ↦
              (let P : ℕ → Type 0 = λ x. left_in left w x in
              let same : n ≡ k = omega (arith, ge, less) in
              let own = reach.reached v (w, are.last w (subst P same known), (column, steps)) in
              (own.0, (own.1, omega (arith, same, at_most v own.0 own.1))))
        ]
        | inr now ↦ absurd (omega (arith, now.0, less))
      ]

      last : (v : ℕ) → left_in new v (k + 1) → Contains next v
      last v at = elim (reach.found v (k + 1) at) [
        | inl known ↦ absurd (let old = are.at_most v (k + 1) known in omega (arith, old))
        | inr now ↦ now.2
      ]
