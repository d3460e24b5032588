-- Where reading leads: in parts, and to one state alone.
use Rattle.std.proofs.Common.{◌≡◌, ℕ, ◌<◌, List, [], ◌∷◌, ◌++◌, length, get_or, refl, sym, ap, ◌∙◌, subst, arith}
use Rattle.std.proofs.{Common.{inl, inr, All, AllPairs, Contains}, lemmas.Bool.cases_order}
use Rattle.std.proofs.{lemmas.List.{get_or-map, get_or_default, length-map}, lemmas.List.Elements.All-contains}
use Rattle.std.proofs.lemmas.Map.Keys.{below_from_sorted}
use Rattle.std.specs.{List.Sorted.IsStrictlySortedBy, Ordering.nat_cmp}
use Rattle.tier_core.specs.{declared.sym.Sym.Sym, Classes.{has, AreDisjoint}}
use Rattle.answer_text.specs.{declared.automaton.ArcLine.ArcLine, declared.automaton.StateLine.StateLine}
use Rattle.answer_text.specs.{Acceptance.{HasArc, Leads}, Right.numbers_of}

pub leads_joined : (states : List StateLine) (p q : List (List Sym)) (n m l : ℕ) → Leads states n p m
    → Leads states m q l → Leads states n (p ++ q) l
leads_joined states [] q n m l a b = subst (λ i. Leads states i q l) (sym a) b
leads_joined states (column ∷ p) q n m l a b = (a.0, (a.1.0, leads_joined states p q a.0 m l a.1.1 b))

pub leads_parts : (states : List StateLine) (p q : List (List Sym)) (n l : ℕ) → Leads states n (p ++ q) l
    → (m : ℕ) × (Leads states n p m × Leads states m q l)
leads_parts states [] q n l a = (n, (refl, a))
leads_parts states (column ∷ p) q n l a = let rest = leads_parts states p q a.0 l a.1.1 in
    (rest.0, ((a.0, (a.1.0, rest.1.0)), rest.1.1))

module _ (states : List StateLine) (ascending : IsStrictlySortedBy nat_cmp (numbers_of states)) where
  number_at : (s : StateLine) (i : ℕ) → i < length states → get_or states i s ≡ s
      → get_or (numbers_of states) i 0 ≡ s.node
  number_at s i l e = get_or-map (λ (state : StateLine). state.node) states i s 0 l
      ∙ ap (λ (state : StateLine). state.node) e

  -- a state has a number of its own
  pub one_state : (s t : StateLine) → Contains states s → Contains states t → s.node ≡ t.node → s ≡ t
  one_state s t h k e =
      let size : length (numbers_of states) ≡ length states = length-map states (λ (state : StateLine). state.node) in
      let first : get_or (numbers_of states) h.0 0 ≡ s.node = number_at s h.0 h.1 h.2 in
      let second : get_or (numbers_of states) k.0 0 ≡ t.node = number_at t k.0 k.1 k.2 in
      elim (cases_order h.0 k.0) [
        | inl same ↦ sym h.2 ∙ get_or_default states h.0 s t h.1 ∙ ap (λ i. get_or states i t) same ∙ k.2
        | inr other ↦ elim other [
          | inl less ↦ absurd (omega (
            arith,
            below_from_sorted (numbers_of states) h.0 k.0 0 ascending less (omega (arith, size, k.1)),
            first,
            second,
            e,
          ))
          | inr more ↦ absurd (omega (
            arith,
            below_from_sorted (numbers_of states) k.0 h.0 0 ascending more (omega (arith, size, h.1)),
            first,
            second,
            e,
          ))
        ]
      ]

  module _ (apart : All (λ state. AllPairs (λ a b. AreDisjoint a.class b.class) state.arcs.items) states) where
    -- a column has one target
    pub one_target : (n m l : ℕ) (column : List Sym) → HasArc states n m column → HasArc states n l column → m ≡ l
    one_target n m l column a b =
        let same : b.state ≡ a.state = one_state b.state a.state b.listed a.listed (b.from ∙ sym a.from) in
        let h : Contains a.state.arcs.items a.arc = a.leaves in
        let k : Contains a.state.arcs.items b.arc = subst
        (λ (s : StateLine). Contains s.arcs.items b.arc) same b.leaves in
        let arcs : List ArcLine = a.state.arcs.items in
        let pairs : AllPairs (λ c d. AreDisjoint c.class d.class) arcs = All-contains
        (λ (state : StateLine). AllPairs
        (λ (c d : ArcLine). AreDisjoint c.class d.class) state.arcs.items) states a.state apart a.listed in
        elim (cases_order h.0 k.0) [
          | inl one ↦ sym a.to ∙ ap (λ (arc : ArcLine). arc.target)
              (sym h.2 ∙ get_or_default arcs h.0 a.arc b.arc h.1 ∙ ap (λ i. get_or arcs i b.arc) one ∙ k.2) ∙ b.to
          | inr other ↦ elim other [
            | inl less ↦ absurd (pairs h.0 k.0 a.arc less k.1 column
                (ap (λ (arc : ArcLine). has arc.class column) h.2 ∙ a.holds)
                (ap (λ (arc : ArcLine). has arc.class column) (get_or_default arcs k.0 a.arc b.arc k.1 ∙ k.2)
                ∙ b.holds))
            | inr more ↦ absurd (pairs k.0 h.0 a.arc more h.1 column
                (ap (λ (arc : ArcLine). has arc.class column) (get_or_default arcs k.0 a.arc b.arc k.1 ∙ k.2) ∙ b.holds)
                (ap (λ (arc : ArcLine). has arc.class column) h.2 ∙ a.holds))
          ]
        ]

    pub leads_one : (q : List (List Sym)) (n m l : ℕ) → Leads states n q m → Leads states n q l → m ≡ l
    leads_one [] n m l a b = sym a ∙ b
    leads_one (column ∷ q) n m l a b =
        let same : b.0 ≡ a.0 = one_target n b.0 a.0 column b.1.0 a.1.0 in
        leads_one q a.0 m l a.1.1 (subst (λ i. Leads states i q l) same b.1.1)
