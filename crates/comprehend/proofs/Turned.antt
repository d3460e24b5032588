-- Arcs turned round, one after another.
use Rattle.std.proofs.Common.{◌≡◌, ◌≢◌, ℕ, ◌+◌, ◌<◌, ◌≤◌, List, [], ◌∷◌, ◌++◌, length, get_or, map, set, take, refl}
use Rattle.std.proofs.{Common.{sym, ap, ◌∙◌, subst, arith, ◌⊎◌, inl, inr, Some}, lemmas.Bool.{cases_lt, cases_eq}}
use Rattle.std.proofs.{lemmas.Option.slice_get_within, lemmas.List.{get_or-set_same, get_or-set_other, length-map}}
use Rattle.std.proofs.lemmas.List.{length-set, map-set, take_more, take_all}
use Rattle.std.proofs.lemmas.List.Elements.{Contains-append_left, Contains-push, Contains-push_cases}
use Rattle.std.specs.{Prelude.{AllPairs, Contains, slice_get}, Global.Vec}
use Rattle.answer_text.specs.{declared.automaton.ArcLine.ArcLine, declared.automaton.StateLine.StateLine}
use Rattle.answer_text.specs.Right.{numbers_of}
use Rattle.comprehend.specs.{declared.entering.Entering.Entering, Steps.arcs_at}
use Rattle.comprehend.specs.Entering.{entering_at, AreReverseArcs, IsReverseArc, IsArcBelow, IsArcOf}
use Rattle.comprehend.proofs.{Levels.arcs_inside, Numbers.once_at}

-- the arcs of the states before a number, and the first of the state with it
abbrev pub IsArcSoFar : List StateLine → ℕ → ℕ → ℕ → ArcLine → Type 0
IsArcSoFar states n k s arc = IsArcBelow states n s arc ⊎ ((s ≡ n) × Contains (take k (arcs_at states n)) arc)

abbrev items_of : Vec Entering → List Entering
items_of v = v.items

-- the same arcs, said otherwise
pub turned_same : (P R : ℕ → ArcLine → Type 0) → ((s : ℕ) (arc : ArcLine) → P s arc → R s arc)
    → ((s : ℕ) (arc : ArcLine) → R s arc → P s arc) → (numbers : List ℕ) (into : List (Vec Entering))
    → AreReverseArcs P numbers into → AreReverseArcs R numbers into
turned_same P R to back numbers into are = record {
  each_state = are.each_state;
  sound = λ t entry here. (let own = are.sound t entry here in
      (own.0, (to entry.source own.0 own.1.0, own.1.1, own.1.2)));
  complete = λ s t arc r leads. are.complete s t arc (back s arc r) leads;
}

pub turned_all : (states : List StateLine) (n : ℕ) → length states ≤ n → (into : List (Vec Entering))
    → AreReverseArcs (IsArcBelow states n) (numbers_of states) into
    → AreReverseArcs (IsArcOf states) (numbers_of states) into
turned_all states n all = turned_same (IsArcBelow states n) (IsArcOf states) (λ s arc below. below.1)
    (λ s arc here. (omega (arith, arcs_inside states s arc here, all), here)) (numbers_of states)

module _ (states : List StateLine) (n : ℕ) (numbers : List ℕ) (into : List (Vec Entering)) where
  pub so_far_none : AreReverseArcs (IsArcBelow states n) numbers into
      → AreReverseArcs (IsArcSoFar states n 0) numbers into
  so_far_none = turned_same (IsArcBelow states n) (IsArcSoFar states n 0) (λ s arc below. inl below)
      (λ s arc h. elim h [ inl below ↦ below | inr own ↦ absurd (omega (arith, own.1.1)) ]) numbers into

  pub so_far_all : (k : ℕ) → length (arcs_at states n) ≤ k → AreReverseArcs (IsArcSoFar states n k) numbers into
      → AreReverseArcs (IsArcBelow states (n + 1)) numbers into
  so_far_all k all = turned_same (IsArcSoFar states n k) (IsArcBelow states (n + 1))
      (λ s arc h. elim h [
        | inl below ↦ (omega (arith, below.0), below.1)
        | inr own ↦
            (let P : ℕ → Type 0 = λ x. Contains (arcs_at states x) arc in
            let Q : List ArcLine → Type 0 = λ xs. Contains xs arc in
            (omega (arith, own.0), subst P (sym own.0) (subst Q (take_all k (arcs_at states n) all) own.1)))
      ])
      (λ s arc h. elim (cases_lt s n) [
        | inl less ↦ inl (less, h.1)
        | inr more ↦
            (let same : s ≡ n = omega (arith, more, h.0) in
            let P : ℕ → Type 0 = λ x. Contains (arcs_at states x) arc in
            let Q : List ArcLine → Type 0 = λ xs. Contains xs arc in
            inr (same, subst Q (sym (take_all k (arcs_at states n) all)) (subst P same h.1)))
      ]) numbers into

-- the arcs with the next one
module _ (states : List StateLine) (n k : ℕ) (arc : ArcLine) (inside : k < length (arcs_at states n))
    (is : arc ≡ get_or (arcs_at states n) k arc) where
  last : take (k + 1) (arcs_at states n) ≡ take k (arcs_at states n) ++ arc ∷ []
  last = take_more (arcs_at states n) k arc inside ∙ ap (λ x. take k (arcs_at states n) ++ x ∷ []) (sym is)

  next_cases : (s : ℕ) (a : ArcLine) → IsArcSoFar states n (k + 1) s a
      → IsArcSoFar states n k s a ⊎ ((s ≡ n) × (arc ≡ a))
  next_cases s a (inl below) = inl (inl below)
  next_cases s a (inr own) =
      (let Q : List ArcLine → Type 0 = λ xs. Contains xs a in
      elim (Contains-push_cases (take k (arcs_at states n)) arc a (subst Q last own.1)) [
        | inl earlier ↦ inl (inr (own.0, earlier))
        | inr now ↦ inr (own.0, now)
      ])

  earlier_too : (s : ℕ) (a : ArcLine) → IsArcSoFar states n k s a → IsArcSoFar states n (k + 1) s a
  earlier_too s a (inl below) = inl below
  earlier_too s a (inr own) = (let Q : List ArcLine
      → Type 0 = λ xs. Contains xs a in inr
      (own.0, subst Q (sym last) (Contains-append_left (take k (arcs_at states n)) (arc ∷ []) a own.1)))

  own_too : IsArcSoFar states n (k + 1) n arc
  own_too = (let Q : List ArcLine → Type 0 = λ xs. Contains xs arc in inr
      (refl, subst Q (sym last) (Contains-push (take k (arcs_at states n)) arc)))

  module _ (numbers : List ℕ) (into : List (Vec Entering))
      (are : AreReverseArcs (IsArcSoFar states n k) numbers into) where
    -- an arc that leads to no state
    pub turned_skip : ((t : ℕ) → slice_get numbers t ≡ Some arc.target → ⊥)
        → AreReverseArcs (IsArcSoFar states n (k + 1)) numbers into
    turned_skip none = record {
      each_state = are.each_state;
      sound = λ t entry here. (let own = are.sound t entry here in
          (own.0, (earlier_too entry.source own.0 own.1.0, own.1.1, own.1.2)));
      complete = λ s t a passes leads. elim (next_cases s a passes) [
        | inl earlier ↦ are.complete s t a earlier leads
        | inr now ↦ absurd (none t (leads ∙ ap (λ (x : ArcLine). Some x.target) (sym now.1)))
      ];
    }

    -- an arc that leads to state t
    module _ (once : AllPairs (λ a b. a ≢ b) numbers) (t : ℕ) (leads_t : slice_get numbers t ≡ Some arc.target)
        (entry : Entering) (source_is : entry.source ≡ n) (class_is : entry.class ≡ arc.class) (arcs : Vec Entering)
        (items : arcs.items ≡ entering_at into t ++ entry ∷ []) where
      within : t < length into
      within = omega (arith, slice_get_within numbers t arc.target leads_t, are.each_state)

      here_is : entering_at (set into t arcs) t ≡ entering_at into t ++ entry ∷ []
      here_is = ap (λ xs. get_or xs t []) (map-set items_of into t arcs)
          ∙ get_or-set_same (map items_of into) t arcs.items [] (omega (arith, within, length-map into items_of))
          ∙ items

      other_is : (j : ℕ) → j ≢ t → entering_at (set into t arcs) j ≡ entering_at into j
      other_is j ne = ap (λ xs. get_or xs j []) (map-set items_of into t arcs)
          ∙ get_or-set_other (map items_of into) t j arcs.items [] ne

      own_turned : IsReverseArc (IsArcSoFar states n (k + 1)) numbers t entry
      own_turned = (let P : ℕ → Type 0 = λ s. IsArcSoFar states n (k + 1) s arc in
          (arc, (subst P (sym source_is) own_too, sym class_is, leads_t)))

      old_turned : (j : ℕ) (e : Entering) → Contains (entering_at into j) e
          → IsReverseArc (IsArcSoFar states n (k + 1)) numbers j e
      old_turned j e here = (let own = are.sound j e here in
          (own.0, (earlier_too e.source own.0 own.1.0, own.1.1, own.1.2)))

      sound : (j : ℕ) (e : Entering) → Contains (entering_at (set into t arcs) j) e
          → IsReverseArc (IsArcSoFar states n (k + 1)) numbers j e
      sound j e here = elim (cases_eq j t) [
        | inl same ↦
            (let P : ℕ → Type 0 = λ x. Contains (entering_at (set into t arcs) x) e in
            let Q : List Entering → Type 0 = λ xs. Contains xs e in
            let R : ℕ → Type 0 = λ x. IsReverseArc (IsArcSoFar states n (k + 1)) numbers x e in
            subst R (sym same) (elim (Contains-push_cases (entering_at into t) entry e
            (subst Q here_is (subst P same here))) [
              | inl earlier ↦ old_turned t e earlier
              | inr now ↦ (let S : Entering
                  → Type 0 = λ x. IsReverseArc (IsArcSoFar states n (k + 1)) numbers t x in subst S now own_turned)
            ]))
        | inr ne ↦ (let Q : List Entering
            → Type 0 = λ xs. Contains xs e in old_turned j e (subst Q (other_is j ne) here))
      ]

      still : (j : ℕ) (e : Entering) → Contains (entering_at into j) e → Contains (entering_at (set into t arcs) j) e
      still j e here = elim (cases_eq j t) [
        | inl same ↦
            (let P : ℕ → Type 0 = λ x. Contains (entering_at into x) e in
            let Q : List Entering → Type 0 = λ xs. Contains xs e in
            let R : ℕ → Type 0 = λ x. Contains (entering_at (set into t arcs) x) e in
            subst R (sym same) (subst Q (sym here_is)
            (Contains-append_left (entering_at into t) (entry ∷ []) e (subst P same here))))
        | inr ne ↦ (let Q : List Entering → Type 0 = λ xs. Contains xs e in subst Q (sym (other_is j ne)) here)
      ]

      complete : (s j : ℕ) (a : ArcLine) → IsArcSoFar states n (k + 1) s a → slice_get numbers j ≡ Some a.target
          → (e : Entering) × (Contains (entering_at (set into t arcs) j) e × (e.source ≡ s) × (e.class ≡ a.class))
      complete s j a passes leads = elim (next_cases s a passes) [
        | inl earlier ↦ (let e = are.complete s j a earlier leads in (e.0, (still j e.0 e.1.0, e.1.1, e.1.2)))
        | inr now ↦
            (let at : slice_get numbers j ≡ Some arc.target = leads ∙ ap (λ (x : ArcLine). Some x.target) (sym now.1) in
            let same : t ≡ j = once_at numbers arc.target once t j leads_t at in
            let Q : List Entering → Type 0 = λ xs. Contains xs entry in
            let R : ℕ → Type 0 = λ x. Contains (entering_at (set into t arcs) x) entry in (
              entry,
              (
                subst R same (subst Q (sym here_is) (Contains-push (entering_at into t) entry)),
                source_is
                    ∙ sym now.0,
                class_is ∙ ap (λ (x : ArcLine). x.class) now.1,
              ),
            ))
      ]

      pub turned_push : AreReverseArcs (IsArcSoFar states n (k + 1)) numbers (set into t arcs)
      turned_push = record { each_state = length-set into t arcs ∙ are.each_state; sound = sound; complete = complete }
