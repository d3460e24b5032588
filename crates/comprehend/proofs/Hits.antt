-- What each entry gives to the hits.
use Rattle.std.proofs.Common.{◌≡◌, ℕ, zero, suc, ◌+◌, ◌<◌, List, [], ◌∷◌, ◌++◌, Option, None, Some, length, get_or}
use Rattle.std.proofs.{Common.{take, refl, sym, ap, ◌∙◌, subst, arith, ◌⊎◌, inl, inr}, lemmas.Bool.cases_lt}
use Rattle.std.proofs.lemmas.List.{get_or-map, length-map, map-append}
use Rattle.std.proofs.lemmas.List.Elements.{All-contains_itself, All-weaker, Contains-append_left, Contains-push}
use Rattle.std.proofs.{lemmas.List.Elements.Contains-push_cases, lemmas.Option.{slice_get-get_or, slice_get_within}}
use Rattle.std.specs.{Prelude.{All, Contains, MatchOption, slice_get}, List.Sorted.IsStrictlySortedBy}
use Rattle.std.specs.{Ordering.nat_cmp, Cmp.nat_cmp_is, declared.cmp.Ordering.TheVariants.Less}
use Rattle.tier_core.specs.{declared.sym.Sym.Sym, Orders.IsFirst}
use Rattle.violation.specs.Problems.{Problem}
use Rattle.lexicon.specs.declared.entry.Entry.{Entry}
use Rattle.tier_core.proofs.Members.{contains_of_map}
use Rattle.ranked_gen.proofs.Ascending.{sorted_from, ascends_from, ascends_append}
use Rattle.ranked_gen.specs.Budgets.{AreAllWithin, IsFirstOver}
use Rattle.comprehend.specs.{declared.hit.Hit.Hit, Surfaces.HasSurface}
use Rattle.comprehend.specs.Hears.{forms_of, indexes_of, IsHit, IsPushed, Hears, AreEntriesWithin, IsFirstEntryOver}

-- the elements of the first n
pub of_taken : {X : Type 0} (n : ℕ) (xs : List X) (k : ℕ) (x : X) → slice_get (take n xs) k ≡ Some x
    → (k < n) × (slice_get xs k ≡ Some x)
of_taken zero xs k x e = absurd (let f : ⊥ = cc in f)
of_taken (suc n) [] k x e = absurd (let f : ⊥ = cc in f)
of_taken (suc n) (y ∷ xs) zero x e = (omega arith, e)
of_taken (suc n) (y ∷ xs) (suc k) x e = (let rest = of_taken n xs k x e in (omega (arith, rest.0), rest.1))

pub taken : {X : Type 0} (n : ℕ) (xs : List X) (k : ℕ) (x : X) → k < n → slice_get xs k ≡ Some x
    → slice_get (take n xs) k ≡ Some x
taken zero xs k x l e = absurd (omega (arith, l))
taken (suc n) [] k x l e = e
taken (suc n) (y ∷ xs) zero x l e = e
taken (suc n) (y ∷ xs) (suc k) x l e = taken n xs k x (omega (arith, l)) e

module _ (ask : List (List Sym) → Problem) (forms : List (List (List Sym))) (surface : List (List Sym)) (i : ℕ)
    (form : List (List Sym)) (at : slice_get forms i ≡ Some form) where
  -- the entries of one number more
  entry_cases : (k : ℕ) (other : List (List Sym)) → slice_get (take (i + 1) forms) k ≡ Some other
      → (slice_get (take i forms) k ≡ Some other) ⊎ ((k ≡ i) × (form ≡ other))
  entry_cases k other e =
      let own = of_taken (i + 1) forms k other e in
      elim (cases_lt k i) [
        | inl l ↦ inl (taken i forms k other l own.1)
        | inr ge ↦
            (let same : k ≡ i = omega (arith, own.0, ge) in
            let both : Some form ≡ Some other = sym at ∙ ap (slice_get forms) (sym same) ∙ own.1 in
            let one : form ≡ other = cc in
            inr (same, one))
      ]

  longer : (k : ℕ) (other : List (List Sym)) → slice_get (take i forms) k ≡ Some other
      → slice_get (take (i + 1) forms) k ≡ Some other
  longer k other e = (let own = of_taken i forms k other e in taken (i + 1) forms k other (omega (arith, own.0)) own.1)

  still_hit : (hit : Hit) → IsHit ask (take i forms) surface hit → IsHit ask (take (i + 1) forms) surface hit
  still_hit hit h = record { form = h.form; numbered = longer hit.index h.form h.numbered; first = h.first }

  pub within_more : (budget : ℕ) → AreEntriesWithin ask (take i forms) budget → AreAllWithin (ask form) budget
      → AreEntriesWithin ask (take (i + 1) forms) budget
  within_more budget before own k other e = elim (entry_cases k other e) [
    | inl earlier ↦ before k other earlier
    | inr now ↦ (let P : List (List Sym) → Type 0 = λ f. AreAllWithin (ask f) budget in subst P now.1 own)
  ]

  pub over_here : (budget stage : ℕ) → AreEntriesWithin ask (take i forms) budget
      → IsFirstOver (ask form) budget stage → IsFirstEntryOver ask forms budget i stage
  over_here budget stage before over = record
      { form = form; numbered = at; over = over; before = λ k other l e. before k other (taken i forms k other l e) }

  -- an entry that is not heard
  pub hears_none : (hits : List Hit) → Hears ask (take i forms) surface hits
      → ((T : List (List Sym)) → HasSurface (ask form) surface T → ⊥) → Hears ask (take (i + 1) forms) surface hits
  hears_none hits h none = record {
    in_order = h.in_order;
    each = λ hit here. still_hit hit (h.each hit here);
    every = λ k other T e has. elim (entry_cases k other e) [
      | inl earlier ↦ h.every k other T earlier has
      | inr now ↦ (let P : List (List Sym)
          → Type 0 = λ f. HasSurface (ask f) surface T in absurd (none T (subst P (sym now.1) has)))
    ];
  }

  -- an entry that is heard
  pub hears_more : (hits : List Hit) (hit : Hit) → hit.index ≡ i → IsFirst (HasSurface (ask form) surface) hit.example
      → Hears ask (take i forms) surface hits → Hears ask (take (i + 1) forms) surface (hits ++ hit ∷ [])
  hears_more hits hit is first h = record { in_order = in_order; each = each; every = every }
    where
      indexes : indexes_of (hits ++ hit ∷ []) ≡ indexes_of hits ++ hit.index ∷ []
      indexes = map-append (λ (x : Hit). x.index) hits (hit ∷ [])

      below : (k : ℕ) → Contains (indexes_of hits) k → k < i
      below k here =
          (let own = contains_of_map (λ (x : Hit). x.index) hits k here in
          let old = h.each own.0 own.1.0 in
          let l = (of_taken i forms own.0.index old.form old.numbered).0 in
          omega (arith, l, own.1.1))

      across : (x y : ℕ) → Contains (indexes_of hits) x → Contains (hit.index ∷ []) y → nat_cmp x y ≡ Less
      across x y inx iny =
          (let l = below x inx in
          let same : hit.index ≡ y = elim
          (Contains-push_cases [] hit.index y iny) [
            | inl none ↦ absurd
                (omega (arith, none.1))
            | inr now ↦ now
          ] in
          sym (nat_cmp_is x y Less (omega (arith, l, is, same))))

      in_order : IsStrictlySortedBy nat_cmp (indexes_of (hits ++ hit ∷ []))
      in_order =
          (let P : List ℕ → Type 0 = λ xs. IsStrictlySortedBy nat_cmp xs in
          subst P (sym indexes) (sorted_from nat_cmp (indexes_of hits ++ hit.index ∷ [])
          (ascends_append nat_cmp (indexes_of hits) (hit.index ∷ [])
          (ascends_from nat_cmp (indexes_of hits) h.in_order) (tt, tt) across)))

      each : (x : Hit) → Contains (hits ++ hit ∷ []) x → IsHit ask (take (i + 1) forms) surface x
      each x here = elim (Contains-push_cases hits hit x here) [
        | inl earlier ↦ still_hit x (h.each x earlier)
        | inr now ↦
            (let P : Hit → Type 0 = λ y. IsHit ask (take (i + 1) forms) surface y in
            let own : slice_get (take (i + 1) forms) hit.index ≡ Some form = ap (slice_get (take (i + 1) forms)) is
            ∙ taken (i + 1) forms i form (omega arith) at in
            subst P now (record { form = form; numbered = own; first = first }))
      ]

      every : (k : ℕ) (other T : List (List Sym)) → slice_get (take (i + 1) forms) k ≡ Some other
          → HasSurface (ask other) surface T → Contains (indexes_of (hits ++ hit ∷ [])) k
      every k other T e has =
          (let P : List ℕ → Type 0 = λ xs. Contains xs k in
          subst P (sym indexes) (elim (entry_cases k other e) [
            | inl earlier ↦ Contains-append_left (indexes_of hits) (hit.index ∷ []) k (h.every k other T earlier has)
            | inr now ↦ (let Q : ℕ → Type 0 = λ y. Contains (indexes_of hits ++ hit.index ∷ []) y in subst Q
                (is ∙ sym now.0) (Contains-push (indexes_of hits) hit.index))
          ]))

pub hears_nothing : (ask : List (List Sym) → Problem) (forms : List (List (List Sym))) (surface : List (List Sym))
    → Hears ask (take 0 forms) surface []
hears_nothing ask forms surface = record {
  in_order = sorted_from nat_cmp [] tt;
  each = λ hit here. absurd (omega (arith, here.1));
  every = λ k other T e has. absurd (omega (arith, (of_taken 0 forms k other e).0));
}

-- the form of an entry stands at its number
pub form_at : (lexicon : List Entry) (i : ℕ) (entry : Entry) → i < length lexicon → entry ≡ get_or lexicon i entry
    → slice_get (forms_of lexicon) i ≡ Some entry.form
form_at lexicon i entry inside is =
    slice_get-get_or (forms_of lexicon) i entry.form (omega (arith, inside, length-map lexicon (λ (e : Entry). e.form)))
    ∙ ap (λ x. Some x) (get_or-map (λ (e : Entry). e.form) lexicon i entry entry.form inside
    ∙ ap (λ (e : Entry). e.form) (sym is))

-- what is heard of an entry
pub hears_next : (ask : List (List Sym) → Problem) (forms : List (List (List Sym))) (surface : List (List Sym))
    (i : ℕ) (form : List (List Sym)) → slice_get forms i ≡ Some form
    → (hits new : List Hit) (heard : Option (List (List Sym)))
    → MatchOption heard ((T : List (List Sym)) → HasSurface (ask form) surface T → ⊥)
    (IsFirst (HasSurface (ask form) surface)) → IsPushed hits new i heard → Hears ask (take i forms) surface hits
    → Hears ask (take (i + 1) forms) surface new
hears_next ask forms surface i form at hits new None none pushed h =
    (let P : List Hit → Type 0 = λ xs. Hears ask (take (i + 1) forms) surface xs in subst P (sym pushed)
    (hears_none ask forms surface i form at hits h none))
hears_next ask forms surface i form at hits new (Some example) first pushed h =
    (let P : List Hit → Type 0 = λ xs. Hears ask (take (i + 1) forms) surface xs in
    let hit : Hit = record { index = i; example = example } in
    subst P (sym pushed) (hears_more ask forms surface i form at hits hit refl first h))

-- each hit is of an entry
pub hits_inside : (ask : List (List Sym) → Problem) (entries : List Entry) (surface : List (List Sym))
    (hits : List Hit) → Hears ask (forms_of entries) surface hits
    → All (λ (hit : Hit). hit.index < length entries) hits
hits_inside ask entries surface hits heard =
    All-weaker (Contains hits) (λ (hit : Hit). hit.index < length entries)
    (λ hit there.
    let own = heard.each hit there in
    omega (
      arith,
      slice_get_within (forms_of entries) hit.index own.form own.numbered,
      length-map entries (λ (e : Entry). e.form),
    )) hits (All-contains_itself hits)
