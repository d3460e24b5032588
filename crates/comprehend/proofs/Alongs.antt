-- What the looks along the arcs give to a choice.
use Rattle.std.proofs.Common.{◌≡◌, ℕ, ◌+◌, ◌*◌, ◌<◌, List, [], ◌∷◌, ◌++◌, Option, Some, length, get_or, take, refl}
use Rattle.std.proofs.{Common.{sym, ap, ◌∙◌, subst, arith, ◌⊎◌, inl, inr, IsTrue}, lemmas.List.take_more}
use Rattle.std.proofs.lemmas.List.Elements.{Contains-append_left, Contains-push, Contains-push_cases}
use Rattle.std.specs.Prelude.{slice_get}
use Rattle.tier_core.specs.{declared.sym.Sym.Sym, declared.class.Class.Class}
use Rattle.answer_text.specs.declared.automaton.ArcLine.{ArcLine}
use Rattle.comprehend.specs.{declared.choice.Choice.Choice, Steps.test_has}
use Rattle.comprehend.specs.Choices.{IsBetter, LeadsToCell, LeadsAlong, LeadsByOne}
use Rattle.comprehend.proofs.{Looks.test_at, Bettering.{better_same, better_both}}

module _ (tests : List Class) (place : ℕ) (left : List ℕ) (n : ℕ) (class : Class) (target : ℕ)
    (inside : place < length tests) (test : Class) (is : test ≡ get_or tests 0 test) (stay : ℕ)
    (stay_is : stay ≡ target * length tests + place) where
  stays_along : (column : List Sym) (w : ℕ) → LeadsToCell class test stay left n column w
      → LeadsAlong tests place left n class target column w
  stays_along column w l = record {
    next = place;
    arrives = l.at ∙ stay_is;
    after = inside;
    holds = l.first;
    turns = inl (refl, test_at tests 0 test (omega arith) is column ∙ l.second);
    left_at = l.left_at;
  }

  along_stays : (column : List Sym) (w : ℕ) (l : LeadsAlong tests place left n class target column w) → l.next ≡ place
      → IsTrue (test_has tests 0 column) → LeadsToCell class test stay left n column w
  along_stays column w l same held = record {
    first = l.holds;
    second = sym (test_at tests 0 test (omega arith) is column) ∙ held;
    at = l.arrives ∙ ap (λ x. target * length tests + x) same ∙ sym stay_is;
    left_at = l.left_at;
  }

  -- at the last place only staying leads on
  pub last_place : place + 1 ≡ length tests → (best after : Option Choice)
      → IsBetter (LeadsToCell class test stay left n) best after
      → IsBetter (LeadsAlong tests place left n class target) best after
  last_place last best after b = better_same (LeadsToCell class test stay left n)
      (LeadsAlong tests place left n class target) stays_along
      (λ column w l. elim l.turns [
        | inl stays ↦ along_stays column w l stays.0 stays.1
        | inr on ↦ absurd
            (omega (arith, on.0, l.after, last))
      ])
      best after b

  module _ (next_inside : place + 1 < length tests) (next : Class)
      (next_is : next ≡ get_or tests (place + 1) next) where
    goes_along : (column : List Sym) (w : ℕ) → LeadsToCell class next (stay + 1) left n column w
        → LeadsAlong tests place left n class target column w
    goes_along column w l = record {
      next = place + 1;
      arrives = omega (arith, l.at, stay_is);
      after = next_inside;
      holds = l.first;
      turns = inr (refl, test_at tests (place + 1) next next_inside next_is column ∙ l.second);
      left_at = l.left_at;
    }

    along_goes : (column : List Sym) (w : ℕ) (l : LeadsAlong tests place left n class target column w)
        → l.next ≡ place + 1 → IsTrue (test_has tests l.next column) → LeadsToCell class next (stay + 1) left n column w
    along_goes column w l on held =
        let P : ℕ → Type 0 = λ k. IsTrue (test_has tests k column) in
        record {
          first = l.holds;
          second = sym (test_at tests (place + 1) next next_inside next_is column) ∙ subst P on held;
          at = omega (arith, l.arrives, on, stay_is);
          left_at = l.left_at;
        }

    pub any_place : (best between after : Option Choice) → IsBetter (LeadsToCell class test stay left n) best between
        → IsBetter (LeadsToCell class next (stay + 1) left n) between after
        → IsBetter (LeadsAlong tests place left n class target) best after
    any_place = better_both (LeadsToCell class test stay left n) (LeadsToCell class next (stay + 1) left n)
        (LeadsAlong tests place left n class target)
        (λ column w l. elim l.turns [
          | inl stays ↦ inl (along_stays column w l stays.0 stays.1)
          | inr on ↦ inr
              (along_goes column w l on.0 on.1)
        ])
        stays_along goes_along

module _ (numbers : List ℕ) (tests : List Class) (place : ℕ) (left : List ℕ) (n : ℕ) (arcs : List ArcLine) (i : ℕ)
    (arc : ArcLine) (inside : i < length arcs) (is : arc ≡ get_or arcs i arc) where
  last : take (i + 1) arcs ≡ take i arcs ++ arc ∷ []
  last = take_more arcs i arc inside ∙ ap (λ x. take i arcs ++ x ∷ []) (sym is)

  -- the leads of the arcs before this one, or of this one
  leads_cases : (column : List Sym) (w : ℕ) → LeadsByOne numbers tests place left n (take i arcs ++ arc ∷ []) column w
      → LeadsByOne numbers tests place left n (take i arcs) column w ⊎
      ((t : ℕ) × ((slice_get numbers t ≡ Some arc.target) × LeadsAlong tests place left n arc.class t column w))
  leads_cases column w l = elim (Contains-push_cases (take i arcs) arc l.arc l.listed) [
    | inl earlier ↦ inl (record { arc = l.arc; target = l.target; listed = earlier; leads = l.leads; along = l.along })
    | inr now ↦
        (let P : ArcLine → Type 0 = λ a.
        (slice_get numbers l.target ≡ Some a.target) × LeadsAlong tests place left n a.class l.target column w in
        inr (l.target, subst P (sym now) (l.leads, l.along)))
  ]

  earlier_leads : (column : List Sym) (w : ℕ) → LeadsByOne numbers tests place left n (take i arcs) column w
      → LeadsByOne numbers tests place left n (take i arcs ++ arc ∷ []) column w
  earlier_leads column w l = record {
    arc = l.arc;
    target = l.target;
    listed = Contains-append_left (take i arcs) (arc ∷ []) l.arc l.listed;
    leads = l.leads;
    along = l.along;
  }

  -- an arc that leads to no state
  pub arc_nowhere : ((t : ℕ) → slice_get numbers t ≡ Some arc.target → ⊥) → (best after : Option Choice)
      → IsBetter (LeadsByOne numbers tests place left n (take i arcs)) best after
      → IsBetter (LeadsByOne numbers tests place left n (take (i + 1) arcs)) best after
  arc_nowhere none best after b =
      let P : List ArcLine → Type 0 = λ xs. IsBetter (LeadsByOne numbers tests place left n xs) best after in
      subst P (sym last)
      (better_same (LeadsByOne numbers tests place left n (take i arcs))
      (LeadsByOne numbers tests place left n (take i arcs ++ arc ∷ [])) earlier_leads
      (λ column w l. elim (leads_cases column w l) [ inl earlier ↦ earlier | inr now ↦ absurd (none now.0 now.1.0) ])
      best after b)

  -- an arc that leads to the state of this number alone
  pub arc_more : (target : ℕ) → slice_get numbers target ≡ Some arc.target
      → ((t : ℕ) → slice_get numbers t ≡ Some arc.target → t ≡ target)
      → (best between after : Option Choice)
      → IsBetter (LeadsByOne numbers tests place left n (take i arcs)) best between
      → IsBetter (LeadsAlong tests place left n arc.class target) between after
      → IsBetter (LeadsByOne numbers tests place left n (take (i + 1) arcs)) best after
  arc_more target leads only best between after first second =
      let P : List ArcLine → Type 0 = λ xs. IsBetter (LeadsByOne numbers tests place left n xs) best after in
      subst P (sym last)
      (better_both (LeadsByOne numbers tests place left n (take i arcs))
      (LeadsAlong tests place left n arc.class target)
      (LeadsByOne numbers tests place left n (take i arcs ++ arc ∷ []))
      (λ column w l. elim (leads_cases column w l) [
        | inl earlier ↦ inl earlier
        | inr now ↦ (let Q : ℕ → Type 0 = λ t. LeadsAlong tests place left n arc.class t column w in inr
            (subst Q (only now.0 now.1.0) now.1.1))
      ])
      earlier_leads
      (λ column w l. record {
        arc = arc;
        target = target;
        listed = Contains-push (take i arcs) arc;
        leads = leads;
        along = l;
      })
      best between after first second)
