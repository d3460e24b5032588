-- A test that nothing which an automaton accepts comes before a timeline.
use Rattle.std.proofs.Common.{◌≡◌, ℕ, zero, suc, ◌==◌, ◌≤◌, IsTrue, Bool, true, false, cond, eqb, not, ◌&&◌, List}
use Rattle.std.proofs.Common.{[], ◌∷◌, map, length, refl, sym, ap, ◌∙◌, subst, arith, Contains, Less, Equal}
use Rattle.std.proofs.Common.{Greater, is_le, lt-ltb, le-ltb, eq-eqb, ne_eqb, inl, inr}
use Rattle.std.proofs.{lemmas.Bool.{false≢true, and_parts, cases_lt, cases_eq}, lemmas.Bool.Decides.Decides-eqb}
use Rattle.std.specs.{List.list_all, Ordering.{nat_cmp, ordering_then}, Cmp.Lexicographic.slice_cmp}
use Rattle.std.specs.declared.cmp.Ordering.{Ordering}
use Rattle.tier_core.specs.{declared.sym.Sym.Sym, Classes.sets_of, Orders.{column_cmp, timeline_cmp}}
use Rattle.answer_text.specs.{declared.automaton.StateLine.StateLine, Acceptance.{HasArc, IsFinalState, Leads}}
use Rattle.answer_text.specs.Values.{ArcValue, StateValue, arc_value, state_value}
use Rattle.answer_examples.proofs.Tests.{implied, Decides-true, each_seen}
use Rattle.answer_examples.proofs.AutomatonTests.{each_column, Decides-class}

-- a test by an order, of which one part is made
abbrev pub by_order : Ordering → (Unit {0} → Bool) → (Unit {0} → Bool) → (Unit {0} → Bool) → Bool
by_order Less less equal greater = less tt
by_order Equal less equal greater = equal tt
by_order Greater less equal greater = greater tt

-- the states of this number are not final, and each of their arcs passes
abbrev pub goes_by : List StateValue → ℕ → (ArcValue → Bool) → Bool
goes_by states n test =
    list_all (λ z. implied (z.node == n) (λ _. not z.accepting && list_all test z.arcs)) states

-- from the states of this number nothing is accepted that has less than so many columns
abbrev pub reads_long : List StateValue → ℕ → ℕ → Bool
reads_long states zero n = true
reads_long states (suc size) n = goes_by states n (λ a. reads_long states size a.target)

-- nothing is accepted from them that comes before a timeline
abbrev pub reads_from : List StateValue → List (List Sym) → ℕ → Bool
reads_from states [] n = true
reads_from states (column ∷ T) n =
    goes_by states n (λ a. each_column a.sets (λ d. by_order (column_cmp column d)
    (λ _. reads_long states (length T) a.target) (λ _. reads_from states T a.target)
    (λ _. reads_long states (suc (length T)) a.target)))

pub passes_at : {X Y : Type 0} (f : X → Y) (test : Y → Bool) (xs : List X) → list_all test (map f xs) ≡ true
    → (x : X) → Contains xs x → test (f x) ≡ true
passes_at f test xs h = (each_seen f test (λ x. test (f x) ≡ true) (λ x. Decides-true (test (f x))) xs).0 h

implied_at : (b : Bool) (test : Unit {0} → Bool) → implied b test ≡ true → b ≡ true → test tt ≡ true
implied_at true test h e = h
implied_at false test h e = absurd (false≢true e)

-- the order of two numbers, and then another one
module _ (a b : ℕ) (o : Ordering) where
  abbrev on_test : Bool → Bool
  on_test less = is_le (ordering_then (cond less Less (cond (eqb a b) Equal Greater)) o)

  abbrev on_equal : Bool → Bool
  on_equal same = is_le (ordering_then (cond same Equal Greater) o)

  le_from : a ≤ b → (a ≡ b → is_le o ≡ true) → is_le (ordering_then (nat_cmp a b) o) ≡ true
  le_from l h = elim (cases_lt a b) [
    | inl less ↦ ap on_test (lt-ltb a b less)
    | inr more ↦
        (let same : a ≡ b = omega (arith, l, more) in
        ap on_test (le-ltb a b more) ∙ ap on_equal (eq-eqb a b same) ∙ h same)
  ]

  le_parts : is_le (ordering_then (nat_cmp a b) o) ≡ true → (a ≤ b) × (a ≡ b → is_le o ≡ true)
  le_parts h = elim (cases_lt a b) [
    | inl less ↦ (omega (arith, less), λ e. absurd (omega (arith, less, e)))
    | inr more ↦ elim (cases_eq a b) [
      | inl same ↦ (
        omega (arith, same),
        λ e. sym (ap on_test (le-ltb a b more) ∙ ap on_equal (eq-eqb a b same)) ∙ h,
      )
      | inr apart ↦
          absurd (false≢true (sym (ap on_test (le-ltb a b more) ∙ ap on_equal (ne_eqb a b apart)) ∙ h))
    ]
  ]

module _ (states : List StateLine) where
  abbrev seen : List StateValue
  seen = map state_value states

  module _ (test : ArcValue → Bool) (n : ℕ) (h : goes_by seen n test ≡ true) where
    abbrev goes : StateValue → Bool
    goes z = not z.accepting && list_all test z.arcs

    at_state : (state : StateLine) → Contains states state → state.node ≡ n → goes (state_value state) ≡ true
    at_state state c e =
        implied_at (state.node == n) (λ _. goes (state_value state))
        (passes_at state_value (λ z. implied (z.node == n) (λ _. goes z)) states h state c)
        ((Decides-eqb state.node n).1 e)

    not_final : {A : Type 0} → IsFinalState states n → A
    not_final final =
        let here = and_parts (not final.state.accepting) (list_all test (map arc_value final.state.arcs.items))
        (at_state final.state final.listed final.numbered) in
        absurd (false≢true (sym (ap not final.final) ∙ here.0))

    arc_passes : (m : ℕ) (column : List Sym) (arc : HasArc states n m column) → test (arc_value arc.arc) ≡ true
    arc_passes m column arc =
        let here = and_parts (not arc.state.accepting) (list_all test (map arc_value arc.state.arcs.items))
        (at_state arc.state arc.listed arc.from) in
        passes_at arc_value test arc.state.arcs.items here.1 arc.arc arc.leaves

  at_end : (n l : ℕ) → n ≡ l → IsFinalState states l → IsFinalState states n
  at_end n l e final = subst (IsFinalState states) (sym e) final

  long_read : (size : ℕ) (U : List (List Sym)) (n l : ℕ) → reads_long seen size n ≡ true → Leads states n U l
      → IsFinalState states l → size ≤ length U
  long_read zero U n l h leads final = omega arith
  long_read (suc size) [] n l h leads final =
      not_final (λ a. reads_long seen size a.target) n h (at_end n l leads final)
  long_read (suc size) (d ∷ U) n l h leads final =
      let next : ℕ = leads.0 in
      let passes = arc_passes (λ a. reads_long seen size a.target) n h next d leads.1.0 in
      let rest : size ≤ length U = long_read size U next l
      (subst (λ i. reads_long seen size i ≡ true) leads.1.0.to passes) leads.1.1 final in
      omega (arith, rest)

  module _ (T : List (List Sym)) (next l : ℕ) (U : List (List Sym)) (leads : Leads states next U l)
      (final : IsFinalState states l)
      (rest : reads_from seen T next ≡ true → is_le (timeline_cmp T U) ≡ true) where
    abbrev behind : Ordering → Bool
    behind o = by_order o (λ _. reads_long seen (length T) next) (λ _. reads_from seen T next)
        (λ _. reads_long seen (suc (length T)) next)

    abbrev order_with : Ordering → Bool
    order_with o = is_le (ordering_then (nat_cmp (suc (length T)) (suc (length U)))
        (ordering_then o (slice_cmp column_cmp T U)))

    no_earlier : (o : Ordering) → behind o ≡ true → order_with o ≡ true
    no_earlier Less h =
        let size : length T ≤ length U = long_read (length T) U next l h leads final in
        le_from (suc (length T)) (suc (length U)) Less (omega (arith, size)) (λ e. refl)
    no_earlier Equal h =
        let parts = le_parts (length T) (length U) (slice_cmp column_cmp T U) (rest h) in
        le_from (suc (length T)) (suc (length U)) (slice_cmp column_cmp T U) (omega (arith, parts.0))
        (λ e. parts.1 (omega (arith, e)))
    no_earlier Greater h =
        let size : suc (length T) ≤ length U = long_read (suc (length T)) U next l h leads final in
        le_from (suc (length T)) (suc (length U)) Greater (omega (arith, size)) (λ e. absurd (omega (arith, size, e)))

  -- what is accepted does not come before the timeline
  pub first_read : (T U : List (List Sym)) (n l : ℕ) → reads_from seen T n ≡ true → Leads states n U l
      → IsFinalState states l → IsTrue (is_le (timeline_cmp T U))
  first_read [] [] n l h leads final = refl
  first_read [] (d ∷ U) n l h leads final = le_from 0 (suc (length U)) Less (omega arith) (λ e. refl)
  first_read (column ∷ T) [] n l h leads final =
      not_final (λ a. each_column a.sets (λ d. by_order (column_cmp column d) (λ _. reads_long seen (length T) a.target)
      (λ _. reads_from seen T a.target) (λ _. reads_long seen (suc (length T)) a.target))) n h (at_end n l leads final)
  first_read (column ∷ T) (d ∷ U) n l h leads final =
      let arc = leads.1.0 in
      let passes = arc_passes (λ a. each_column a.sets (λ d. by_order (column_cmp column d)
      (λ _. reads_long seen (length T) a.target) (λ _. reads_from seen T a.target)
      (λ _. reads_long seen (suc (length T)) a.target))) n h leads.0 d arc in
      let here = (Decides-class (sets_of arc.arc.class) (λ d. by_order (column_cmp column d)
      (λ _. reads_long seen (length T) arc.arc.target) (λ _. reads_from seen T arc.arc.target)
      (λ _. reads_long seen (suc (length T)) arc.arc.target)) _ (λ c. Decides-true _)).0 passes d arc.holds in
      no_earlier T arc.arc.target l U (subst (λ i. Leads states i U l) (sym arc.to) leads.1.1) final
      (λ g. first_read T U arc.arc.target l g (subst (λ i. Leads states i U l) (sym arc.to) leads.1.1) final)
      (column_cmp column d) here
