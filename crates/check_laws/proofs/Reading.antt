-- What a certified automaton reads: exactly the candidates along which the potentials of all stages fall.
use Rattle.std.proofs.Common.{◌≡◌, ℕ, ◌+◌, ◌≤◌, true, List, [], ◌∷◌, ◌++◌, refl, sym, ◌∙◌, subst, arith, append-nil}
use Rattle.std.proofs.{Common.{append_assoc, All, Contains}, lemmas.List.Elements.All-contains}
use Rattle.std.specs.List.{AllByRecursion}
use Rattle.tier_core.specs.{declared.sym.Sym.Sym, Kinds.PrefixKind}
use Rattle.violation.specs.{Candidates.{IsForm, IsCandidate}, Conditions.{AreSplit, IsOverTiers}}
use Rattle.violation.specs.{Moves.{next_kind, is_final}, Prefixes.kind_of, Walks.BeginsCandidate}
use Rattle.violation.specs.Problems.{Problem, last_stage}
use Rattle.violation.proofs.{CompletionLemmas.completed, PrefixLemmas.{IsBegun, nothing_begun}}
use Rattle.violation.proofs.WalkLemmas.{begun_next, candidate_final, final_candidate}
use Rattle.answer_text.specs.{declared.automaton.ArcLine.ArcLine, declared.automaton.StateLine.StateLine}
use Rattle.answer_text.specs.{declared.stage.Node.Node, declared.stage.Stage.Stage}
use Rattle.answer_text.specs.Acceptance.{HasArc, IsFinalState, Leads, Accepts}
use Rattle.answer_text.specs.Right.{nodes_at, IsNodeOf, numbers_of}
use Rattle.answer_text.specs.Certified.{IsKeptBelow, IsCertifiedStage, IsCertifiedAutomaton}
use Rattle.tier_core.proofs.Members.{contains_of_map}
use Rattle.check_laws.proofs.Listing.{lists_kind, kind_listed, kind_numbered, numbered_kind, first_numbered}
use Rattle.check_laws.proofs.Potentials.{FallsOn, FallsAlong, over_at, goes_to, as_longer, one_more}
use Rattle.check_laws.proofs.Potentials.{falls_from_tight, kept_from_falls}

-- n is the number of a state, whose node tells the kind of the prefix p
pub record IsAt (problem : Problem) (nodes : List Node) (states : List StateLine) (n : ℕ)
    (p : List (List Sym)) : Type 0 where
  pub state : Contains (numbers_of states) n
  pub tells : IsNodeOf problem nodes n (kind_of problem (last_stage problem) p)

-- after p, the potential of each stage from 1 on falls by just what each of the columns costs
abbrev pub AllAlong : Problem → List Stage → List (List Sym) → List (List Sym) → Type 0
AllAlong problem stages p q = (j : ℕ) → 1 ≤ j → j ≤ last_stage problem → FallsAlong problem stages j p q

module _ (problem : Problem) (stages : List Stage) (split : AreSplit problem.tiers)
    (form : IsForm problem.tiers problem.form)
    (over : AllByRecursion (IsOverTiers problem.tiers.width) problem.constraints) (counts : List ℕ)
    (certified : IsCertifiedStage problem counts stages (last_stage problem)) (states : List StateLine)
    (automaton : IsCertifiedAutomaton problem stages states) where
  abbrev last : ℕ
  last = last_stage problem

  abbrev nodes : List Node
  nodes = nodes_at stages last

  whole : last ≤ last_stage problem
  whole = omega arith

  start : IsAt problem nodes states 0 []
  start = record {
    state = automaton.start;
    tells = first_numbered problem nodes (kind_of problem last []) certified.first;
  }

  target_state : (n m : ℕ) (column : List Sym) → HasArc states n m column → Contains (numbers_of states) m
  target_state n m column a =
      subst (Contains (numbers_of states)) a.to
      (All-contains (λ (arc : ArcLine). Contains (numbers_of states) arc.target) a.state.arcs.items a.arc
      (All-contains (λ (line : StateLine). All
      (λ (arc : ArcLine). Contains
      (numbers_of states) arc.target) line.arcs.items) states a.state automaton.targets a.listed) a.leaves)

  -- a state is final where its kind is
  final_is : (n : ℕ) (p : List (List Sym)) → IsAt problem nodes states n p → (state : StateLine)
      → Contains states state → state.node ≡ n → state.accepting ≡ is_final problem (kind_of problem last p)
  final_is n p at state listed numbered =
      automaton.finals state (kind_of problem last p) listed
      (subst (λ m. IsNodeOf problem nodes m (kind_of problem last p)) (sym numbered) at.tells)

  -- an arc is a move that is kept at the end
  arc_read : (n m : ℕ) (p : List (List Sym)) (column : List Sym) → IsAt problem nodes states n p → IsBegun problem p
      → HasArc states n m column
      → IsBegun problem (p ++ column ∷ []) ×
      ((j : ℕ) → 1 ≤ j → j ≤ last → FallsOn problem stages j p column) × IsAt problem nodes states m
      (p ++ column ∷ [])
  arc_read n m p column at b arc =
      let kept = (automaton.arcs n m (kind_of problem last p) column at.state at.tells).0 arc in
      let more : IsBegun problem (p ++ column ∷ []) = begun_next problem last split form
      (over_at problem stages split form over last whole) p column b kept.0.fits in
      let begins : BeginsCandidate problem (p ++ column ∷ []) = completed problem split form
      (p ++ column ∷ []) more in (
        more,
        λ j a l. falls_from_tight problem stages split form over j last l whole p column begins
            (kept.0.tight j a (omega arith)),
        record {
          state = target_state n m column arc;
          tells = subst (IsNodeOf problem nodes m)
              (goes_to problem stages split form over last whole p column begins) kept.1;
        },
      )

  all_read : (q p : List (List Sym)) (n m : ℕ) → IsAt problem nodes states n p → IsBegun problem p → Leads states n q m
      → IsBegun problem (p ++ q) × AllAlong problem stages p q × IsAt problem nodes states m (p ++ q)
  all_read [] p n m at b leads = (
    subst (IsBegun problem) (sym (append-nil p)) b,
    λ j a l. tt,
    subst (IsAt problem nodes states m) (sym (append-nil p)) (subst (λ i. IsAt problem nodes states i p) leads at),
  )
  all_read (column ∷ q) p n m at b leads =
      let step = arc_read n leads.0 p column at b leads.1.0 in
      let rest = all_read q (p ++ column ∷ []) leads.0 m step.2 step.0 leads.1.1 in (
        subst (IsBegun problem) (append_assoc p (column ∷ []) q) rest.0,
        λ j a l. (step.1 j a l, rest.1 j a l),
        subst (IsAt problem nodes states m) (append_assoc p (column ∷ []) q) rest.2,
      )

  -- what is read from the start leads to the node of its kind
  pub read_at : (q : List (List Sym)) (m : ℕ) → Leads states 0 q m → IsAt problem nodes states m q
  read_at q m leads = (all_read q [] 0 m start (nothing_begun problem) leads).2

  -- what the automaton accepts is a candidate along which the potentials fall
  pub accepted_falls : (T : List (List Sym)) → Accepts states T → IsCandidate problem T × AllAlong problem stages [] T
  accepted_falls T a =
      let read = all_read T [] 0 a.last start (nothing_begun problem) a.leads in
      let end = a.final in
      let final : is_final problem (kind_of problem last T)
      ≡ true = sym (final_is a.last T read.2 end.state end.listed end.numbered) ∙ end.final in (
        final_candidate problem last split form (over_at problem stages split form over last whole) T read.0 final,
        read.1,
      )

  -- from the state of a prefix such a candidate is read on
  read_on : (q p : List (List Sym)) (n : ℕ) → IsAt problem nodes states n p → IsCandidate problem (p ++ q)
      → AllAlong problem stages p q
      → (m : ℕ) × (Leads states n q m × IsAt problem nodes states m (p ++ q))
  read_on [] p n at c f = (n, (refl, subst (IsAt problem nodes states n) (sym (append-nil p)) at))
  read_on (column ∷ q) p n at c f =
      let k : PrefixKind = kind_of problem last p in
      let kept : IsKeptBelow problem stages last k column =
      kept_from_falls problem stages split form over last last (omega arith) whole p column q c
      (λ j a l. (f j a (omega arith)).0) in
      let kept_last : IsKeptBelow problem stages (last + 1) k column =
      kept_from_falls problem stages split form over (last + 1) last (omega arith) whole p column q c
      (λ j a l. (f j a (omega arith)).0) in
      let here = kind_listed problem last stages k (numbered_kind problem nodes n k at.tells) in
      let next = certified.goes_on k here.0 column here.1 kept in
      let node = kind_numbered problem nodes (next_kind problem last k column)
      (lists_kind problem last stages (next_kind problem last k column) next.0 next.1.0) in
      let arc : HasArc states n node.0 column = (automaton.arcs n node.0 k column at.state at.tells).1
      (kept_last, node.1) in
      let more : BeginsCandidate problem (p ++ column ∷ []) = one_more problem stages split form over p column q c in
      let there : IsAt problem nodes states node.0 (p ++ column ∷ []) = record {
        state = target_state n node.0 column arc;
        tells = subst (IsNodeOf problem nodes node.0)
            (goes_to problem stages split form over last whole p column more) node.1;
      } in
      let rest = read_on q (p ++ column ∷ []) node.0 there (as_longer problem stages split form over p column q c)
      (λ j a l. (f j a l).1) in (
        rest.0,
        (
          (node.0, (arc, rest.1.0)),
          subst (IsAt problem nodes states rest.0) (append_assoc p (column ∷ []) q) rest.1.1,
        ),
      )

  -- and it is accepted
  pub falls_accepted : (T : List (List Sym)) → IsCandidate problem T → AllAlong problem stages [] T → Accepts states T
  falls_accepted T c f =
      let read = read_on T [] 0 start c f in
      let line = contains_of_map (λ (state : StateLine). state.node) states read.0 read.1.1.state in
      let final : IsFinalState states read.0 = record {
        state = line.0;
        listed = line.1.0;
        numbered = line.1.1;
        final = final_is read.0 T read.1.1 line.0 line.1.0 line.1.1
            ∙ candidate_final problem last split form (over_at problem stages split form over last whole) T c;
      } in
      record { last = read.0; leads = read.1.0; final = final }
