-- The timelines along the tests of a surface are the accepted ones that have it.
use Rattle.std.proofs.Common.{◌≡◌, ◌≢◌, ℕ, zero, suc, ◌+◌, ◌*◌, ◌<◌, ◌≤◌, Bool, true, false, List, [], ◌∷◌, length}
use Rattle.std.proofs.Common.{get_or, drop, refl, sym, ap, ◌∙◌, subst, arith, inl, inr, IsTrue, Some, drop-cons}
use Rattle.std.proofs.{Common.add-one, lemmas.Bool.{cases_lt, cond-true, cond-false}}
use Rattle.std.proofs.lemmas.Option.{slice_get_cases, slice_get_within, slice_get-get_or, get_or_from_slice_get}
use Rattle.std.proofs.{lemmas.List.{get_or-map, length-map}, lemmas.List.Elements.Contains-get_or}
use Rattle.std.specs.Prelude.{AllPairs, Contains, slice_get}
use Rattle.tier_core.specs.{declared.sym.Sym.Sym, declared.class.Class.Class, Classes.sets_of}
use Rattle.tier_core.specs.Timelines.{has_edge, column_at, IsReduced}
use Rattle.tier_core.proofs.ClassLemmas.{same_width}
use Rattle.answer_text.specs.{declared.automaton.ArcLine.ArcLine, declared.automaton.StateLine.StateLine}
use Rattle.answer_text.specs.{Acceptance.{HasArc, IsFinalState, Leads}, Right.numbers_of}
use Rattle.first_paths.specs.Search.{ReadsFrom}
use Rattle.comprehend.specs.Surfaces.{heard_in, surface_of, AcceptsHeard}
use Rattle.comprehend.specs.Steps.{arcs_at, final_at, test_has, Goes, Turns, IsEndCell, ReadsAlong}
use Rattle.comprehend.proofs.{Cells.one_cell, Ends.final_is, Levels.arcs_read, Numbers.once_at}

-- what the tests hold, of columns of the width
pub record AreTests (width : ℕ) (overt : List ℕ) (surface : List (List Sym)) (tests : List Class) : Type 0 where
  pub count : length tests ≡ length surface + 1
  pub still_held : (column : List Sym) → IsTrue (test_has tests 0 column) → has_edge (heard_in overt column) ≡ false
  pub still_holds : (column : List Sym) → length column ≡ width → has_edge (heard_in overt column) ≡ false
      → IsTrue (test_has tests 0 column)
  pub heard_held : (p : ℕ) (column : List Sym) → p < length surface → IsTrue (test_has tests (p + 1) column)
      → heard_in overt column ≡ column_at surface p
  pub heard_holds : (p : ℕ) (column : List Sym) → p < length surface → length column ≡ width
      → heard_in overt column ≡ column_at surface p → IsTrue (test_has tests (p + 1) column)

pub reduced_at : (surface : List (List Sym)) (p : ℕ) → IsReduced surface → p < length surface
    → has_edge (column_at surface p) ≡ true
reduced_at [] p r l = absurd (omega (arith, l))
reduced_at (c ∷ surface) zero r l = r.0
reduced_at (c ∷ surface) (suc p) r l = reduced_at surface p r.1 (omega (arith, l))

nothing_left : (surface : List (List Sym)) → drop (length surface) surface ≡ []
nothing_left [] = refl
nothing_left (c ∷ surface) = nothing_left surface

something_left : (surface : List (List Sym)) (p : ℕ) → p ≤ length surface → drop p surface ≡ [] → p ≡ length surface
something_left [] p l e = omega (arith, l)
something_left (c ∷ surface) zero l e = absurd (omega (arith, ap length e))
something_left (c ∷ surface) (suc p) l e = ap suc (something_left surface p (omega (arith, l)) e)

module _ (width : ℕ) (overt : List ℕ) (surface : List (List Sym)) (tests : List Class)
    (are : AreTests width overt surface tests) (reduced : IsReduced surface) (states : List StateLine)
    (once : AllPairs (λ m n. m ≢ n) (numbers_of states))
    (arc_widths : (s : ℕ) (arc : ArcLine) → Contains (arcs_at states s) arc → length (sets_of arc.class) ≡ width)
    (targets : (s : ℕ) (arc : ArcLine) → Contains (arcs_at states s) arc
    → Contains (numbers_of states) arc.target) where
  state_named : (s node : ℕ) → slice_get (numbers_of states) s ≡ Some node
      → (state : StateLine) × (Contains states state × (state.node ≡ node) × (s < length states) ×
      (state ≡ get_or states s state))
  state_named s node at = elim (slice_get_cases states s).1 [
    | inl x ↦
        (let P : StateLine → Type 0 = λ y. Contains states y in
        let same : x.0.node ≡ node = ap (λ (y : StateLine). y.node) (sym x.3)
        ∙ sym (get_or-map (λ (y : StateLine). y.node) states s x.0 0 x.1)
        ∙ get_or_from_slice_get (numbers_of states) s node 0 at in
        (x.0, (subst P x.3 (Contains-get_or states s x.0 x.1), same, x.1, sym x.3)))
    | inr none ↦ absurd (omega (
      arith,
      none.0,
      slice_get_within (numbers_of states) s node at,
      length-map states (λ (y : StateLine). y.node),
    ))
  ]

  state_placed : (state : StateLine) (s node : ℕ) → Contains states state → state.node ≡ node
      → slice_get (numbers_of states) s ≡ Some node → (s < length states) × (state ≡ get_or states s state)
  state_placed state s node listed is at =
      let k = listed.0 in
      let here : get_or (numbers_of states) k 0
      ≡ node = get_or-map (λ (y : StateLine). y.node) states k state 0 listed.1
      ∙ ap (λ (y : StateLine). y.node) listed.2 ∙ is in
      let at_k : slice_get (numbers_of states) k
      ≡ Some node = slice_get-get_or (numbers_of states) k 0
      (omega (arith, listed.1, length-map states (λ (y : StateLine). y.node))) ∙ ap (λ x. Some x) here in
      let same : k ≡ s = once_at (numbers_of states) node once k s at_k at in
      let P : ℕ → Type 0 = λ x. (x < length states) × (state ≡ get_or states x state) in
      subst P same (listed.1, sym listed.2)

  arcs_of_state : (state : StateLine) (s : ℕ) → s < length states → state ≡ get_or states s state
      → state.arcs.items ≡ arcs_at states s
  arcs_of_state state s inside is = arcs_read states s state state.arcs.items inside
      (ap (λ (y : StateLine). y.arcs.items) is)

  -- one column more at the front of what is heard
  heard_more : (column : List Sym) (T : List (List Sym)) (p next : ℕ) → next < length tests
      → Turns tests p column next → surface_of overt T ≡ drop next surface
      → surface_of overt (column ∷ T) ≡ drop p surface
  heard_more column T p next after (inl stays) e =
      cond-false (has_edge (heard_in overt column)) (heard_in overt column ∷ surface_of overt T) (surface_of overt T)
      (are.still_held column stays.1) ∙ e ∙ ap (λ k. drop k surface) stays.0
  heard_more column T p next after (inr on) e =
      let low : p < length surface = omega (arith, after, on.0, are.count) in
      let Q : ℕ → Type 0 = λ k. IsTrue (test_has tests k column) in
      let same : heard_in overt column ≡ column_at surface p = are.heard_held p column low (subst Q on.0 on.1) in
      cond-true (has_edge (heard_in overt column)) (heard_in overt column ∷ surface_of overt T) (surface_of overt T)
      (ap has_edge same ∙ reduced_at surface p reduced low)
      ∙ ap (λ c. c ∷ surface_of overt T) same
      ∙ ap (λ xs. column_at surface p ∷ xs) (e ∙ ap (λ k. drop k surface) (on.0 ∙ add-one p))
      ∙ sym (drop-cons surface p [] low)

  steps_to : (T : List (List Sym)) (s node p v : ℕ) → slice_get (numbers_of states) s ≡ Some node → p ≤ length surface
      → v ≡ s * length tests + p → ReadsFrom (Goes states tests) (IsEndCell states tests) v T
      → (last : ℕ) × (Leads states node T last × IsFinalState states last × (surface_of overt T ≡ drop p surface))
  steps_to [] s node p v at low cell end =
      let same = one_cell end.state (length surface) s p (length tests) (omega (arith, are.count))
      (omega (arith, are.count, low)) (omega (arith, end.cell, cell, are.count)) in
      let state = state_named s node at in
      let final : IsTrue state.0.accepting = sym (final_is states tests s state.0 state.1.2 state.1.3)
      ∙ ap (final_at states) (sym same.0) ∙ end.final in (
        node,
        (
          refl,
          record { state = state.0; listed = state.1.0; numbered = state.1.1; final = final },
          sym (ap (λ k. drop k surface) (sym same.1) ∙ nothing_left surface),
        ),
      )
  steps_to (column ∷ T) s node p v at low cell reads =
      let goes = reads.1.0 in
      let rest = steps_to T goes.target goes.arc.target goes.next reads.0 goes.leads
      (omega (arith, goes.after, are.count)) goes.arrives reads.1.1 in
      let same = one_cell goes.source goes.place s p (length tests) goes.before (omega (arith, are.count, low))
      (sym goes.leaves ∙ cell) in
      let state = state_named s node at in
      let P : ℕ → Type 0 = λ x. Contains (arcs_at states x) goes.arc in
      let Q : List ArcLine → Type 0 = λ xs. Contains xs goes.arc in
      let R : ℕ → Type 0 = λ x. Turns tests x column goes.next in
      let leaves : Contains state.0.arcs.items goes.arc = subst Q (sym (arcs_of_state state.0 s state.1.2 state.1.3))
      (subst P same.0 goes.listed) in
      let arc : HasArc states node goes.arc.target column = record {
        state = state.0;
        arc = goes.arc;
        listed = state.1.0;
        from = state.1.1;
        leaves = leaves;
        to = refl;
        holds = goes.holds;
      } in (
        rest.0,
        (
          (goes.arc.target, (arc, rest.1.0)),
          rest.1.1,
          heard_more column T p goes.next goes.after (subst R same.1 goes.turns) rest.1.2,
        ),
      )

  -- a step and the way behind it
  step_from : (column : List Sym) (T : List (List Sym)) (s node p next : ℕ)
      → slice_get (numbers_of states) s ≡ Some node → p ≤ length surface → HasArc states node next column
      → ((t q : ℕ) → slice_get (numbers_of states) t ≡ Some next → q ≤ length surface
      → surface_of overt T ≡ drop q surface
      → ReadsFrom (Goes states tests) (IsEndCell states tests) (t * length tests + q) T)
      → surface_of overt (column ∷ T) ≡ drop p surface
      → ReadsFrom (Goes states tests) (IsEndCell states tests) (s * length tests + p) (column ∷ T)
  step_from column T s node p next at low has_arc rest e = go (has_edge (heard_in overt column)) refl
    where
      arc : ArcLine
      arc = has_arc.arc

      placed : (s < length states) × (has_arc.state ≡ get_or states s has_arc.state)
      placed = state_placed has_arc.state s node has_arc.listed has_arc.from at

      listed : Contains (arcs_at states s) has_arc.arc
      listed = (let Q : List ArcLine → Type 0 = λ xs. Contains xs has_arc.arc in subst Q
          (arcs_of_state has_arc.state s placed.0 placed.1) has_arc.leaves)

      target : Contains (numbers_of states) has_arc.arc.target
      target = targets s has_arc.arc listed

      leads : slice_get (numbers_of states) target.0 ≡ Some has_arc.arc.target
      leads = slice_get-get_or (numbers_of states) target.0 has_arc.arc.target target.1 ∙ ap (λ x. Some x) target.2

      wide : length column ≡ width
      wide = same_width (sets_of has_arc.arc.class) column has_arc.holds ∙ arc_widths s has_arc.arc listed

      step : (q : ℕ) → q ≤ length surface → Turns tests p column q
          → Goes states tests (s * length tests + p) column (target.0 * length tests + q)
      step q low_q turns = record {
        source = s;
        target = target.0;
        place = p;
        next = q;
        leaves = refl;
        arrives = refl;
        before = omega (arith, are.count, low);
        after = omega (arith, are.count, low_q);
        arc = has_arc.arc;
        listed = listed;
        leads = leads;
        holds = has_arc.holds;
        turns = turns;
      }

      later : (q : ℕ) → q ≤ length surface → Turns tests p column q → surface_of overt T ≡ drop q surface
          → ReadsFrom (Goes states tests) (IsEndCell states tests) (s * length tests + p) (column ∷ T)
      later q low_q turns same = (
        target.0 * length tests + q,
        (step q low_q turns, rest target.0 q (leads ∙ ap (λ x. Some x) has_arc.to) low_q same),
      )

      go : (b : Bool) → b ≡ has_edge (heard_in overt column)
          → ReadsFrom (Goes states tests) (IsEndCell states tests) (s * length tests + p) (column ∷ T)
      go false edge = later p low (inl (refl, are.still_holds column wide (sym edge)))
          (sym (cond-false (has_edge (heard_in overt column)) (heard_in overt column ∷ surface_of overt T)
          (surface_of overt T) (sym edge)) ∙ e)
      go true edge =
          (let whole : heard_in overt column ∷ surface_of overt T
          ≡ drop p surface = sym (cond-true (has_edge (heard_in overt column))
          (heard_in overt column ∷ surface_of overt T) (surface_of overt T) (sym edge)) ∙ e in
          elim (cases_lt p (length surface)) [
            | inl l ↦
                (let both : heard_in overt column ∷ surface_of overt T
                ≡ column_at surface p ∷ drop (suc p) surface = whole ∙ drop-cons surface p [] l in
                let first : heard_in overt column ≡ column_at surface p = cc in
                let behind : surface_of overt T ≡ drop (suc p) surface = cc in
                later (p + 1) (omega (arith, l)) (inr (refl, are.heard_holds p column l wide first))
                (behind ∙ ap (λ k. drop k surface) (sym (add-one p))))
            | inr l ↦
                (let end : p ≡ length surface = omega (arith, l, low) in
                absurd (omega (arith, ap length (whole ∙ ap (λ k. drop k surface) end ∙ nothing_left surface))))
          ])

  steps_from : (T : List (List Sym)) (s node p last : ℕ) → slice_get (numbers_of states) s ≡ Some node
      → p ≤ length surface → Leads states node T last → IsFinalState states last → surface_of overt T ≡ drop p surface
      → ReadsFrom (Goes states tests) (IsEndCell states tests) (s * length tests + p) T
  steps_from [] s node p last at low leads final e =
      let placed = state_placed final.state s node final.listed (final.numbered ∙ sym leads) at in
      let end : p ≡ length surface = something_left surface p low (sym e) in
      record {
        state = s;
        final = final_is states tests s final.state placed.0 placed.1
            ∙ final.final;
        cell = omega (arith, end, are.count);
      }
  steps_from (column ∷ T) s node p last at low leads final e =
      step_from column T s node p leads.0 at low leads.1.0
      (λ t q at_t low_q same. steps_from T t leads.0 q last at_t low_q leads.1.1 final same) e

  pub along_heard : (T : List (List Sym)) → ReadsAlong states tests T → AcceptsHeard states overt surface T
  along_heard T along =
      let to = steps_to T along.start 0 0 (along.start * length tests) along.numbered (omega arith)
      (omega arith) along.reads in
      record { accepted = record { last = to.0; leads = to.1.0; final = to.1.1 }; heard = to.1.2 }

  -- a state with number 0 stands somewhere
  stands : (state : StateLine) → Contains states state → state.node ≡ 0
      → (s : ℕ) × (slice_get (numbers_of states) s ≡ Some 0)
  stands state listed is = (
    listed.0,
    slice_get-get_or (numbers_of states) listed.0 0
        (omega (arith, listed.1, length-map states (λ (y : StateLine). y.node)))
        ∙ ap (λ x. Some x) (get_or-map (λ (y : StateLine). y.node) states listed.0 state 0 listed.1
        ∙ ap (λ (y : StateLine). y.node) listed.2 ∙ is),
  )

  -- the state at which a way to an end begins
  start_of : (T : List (List Sym)) (last : ℕ) → Leads states 0 T last → IsFinalState states last
      → (s : ℕ) × (slice_get (numbers_of states) s ≡ Some 0)
  start_of [] last leads final = stands final.state final.listed (final.numbered ∙ sym leads)
  start_of (column ∷ T) last leads final = stands leads.1.0.state leads.1.0.listed leads.1.0.from

  pub heard_along : (T : List (List Sym)) → AcceptsHeard states overt surface T → ReadsAlong states tests T
  heard_along T h =
      let start = start_of T h.accepted.last h.accepted.leads h.accepted.final in
      let P : ℕ → Type 0 = λ v. ReadsFrom (Goes states tests) (IsEndCell states tests) v T in
      let none : start.0 * length tests + 0 ≡ start.0 * length tests = omega arith in
      record {
        start = start.0;
        numbered = start.1;
        reads = subst P none (steps_from T start.0 0 0 h.accepted.last start.1
            (omega arith) h.accepted.leads h.accepted.final h.heard);
      }
