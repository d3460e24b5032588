-- The automaton of a right answer is certified, and so is the answer.
use Rattle.std.proofs.Common.{◌≡◌, ℕ, ◌+◌, ◌≤◌, List, [], ◌∷◌, ◌++◌, take, length, refl, sym, ap, ◌∙◌, subst, arith}
use Rattle.std.proofs.{Common.{append_assoc, take_at, All, AllPairs, Contains}, lemmas.List.length-append}
use Rattle.std.proofs.lemmas.List.Elements.{All-contains}
use Rattle.std.specs.Cmp.{both_ways}
use Rattle.tier_core.specs.{declared.sym.Sym.Sym, Classes.AreDisjoint, Kinds.PrefixKind}
use Rattle.violation.specs.{Candidates.{IsCandidate, IsOptimalFor}, Moves.{next_kind, is_final}, Prefixes.kind_of}
use Rattle.violation.specs.{Walks.BeginsCandidate, Problems.{Problem, last_stage, last_place}}
use Rattle.violation.proofs.WalkLemmas.{begun_of, candidate_final, final_candidate}
use Rattle.answer_text.specs.{declared.answer.Answer.Answer, declared.automaton.ArcLine.ArcLine}
use Rattle.answer_text.specs.{declared.automaton.StateLine.StateLine, declared.stage.Node.Node}
use Rattle.answer_text.specs.{Acceptance.{HasArc, Leads, Accepts}, Right.{nodes_at, IsNodeOf, numbers_of}}
use Rattle.answer_text.specs.Certified.{IsKeptBelow, IsCertifiedStage, IsCertifiedAutomaton, IsCertified}
use Rattle.tier_core.proofs.Members.{contains_map}
use Rattle.check_laws.proofs.{Listing.{one_number, one_kind}, Potentials.{over_at, goes_to, kept_from_falls}}
use Rattle.check_laws.proofs.Optima.{AllFall, AreTold}
use Rattle.check_laws.proofs.Continuing.{IsGiven, counts_are, told_by, falls_to, kept_longer, goes_on}
use Rattle.check_laws.proofs.RightStages.{parted_passed, all_stages}
use Rattle.check_laws.proofs.Leading.{leads_joined, leads_parts, one_state, leads_one}

module _ (problem : Problem) (answer : Answer) (given : IsGiven problem answer) where
  abbrev last : ℕ
  last = last_stage problem

  abbrev nodes : List Node
  nodes = nodes_at answer.stages.items last

  abbrev states : List StateLine
  states = answer.automaton.states.items

  all_certified : (j : ℕ) → 1 ≤ j → j ≤ last → IsCertifiedStage problem answer.counts.items answer.stages.items j
  all_certified j a w = all_stages problem answer given j w

  told : AreTold problem answer.stages.items answer.example last
  told = told_by problem answer given last (omega arith) all_certified

  apart : All (λ state. AllPairs (λ a b. AreDisjoint a.class b.class) state.arcs.items) states
  apart = λ i d l. (given.right.automaton.arcs i d l).apart

  targets : All (λ state. All (λ arc. Contains (numbers_of states) arc.target) state.arcs.items) states
  targets = λ i d l. (given.right.automaton.arcs i d l).targets

  one_end : (q : List (List Sym)) (m l : ℕ) → Leads states 0 q m → Leads states 0 q l → m ≡ l
  one_end q m l a b = leads_one states given.right.automaton.ascending apart q 0 m l a b

  same_number : (k : PrefixKind) (m n : ℕ) → IsNodeOf problem nodes m k → IsNodeOf problem nodes n k → m ≡ n
  same_number = one_number problem nodes (given.right.each_stage last (omega arith)).kinds.ascending

  -- reading a prefix of an optimal candidate ends at its kind
  reads_to : (v q : List (List Sym)) → IsOptimalFor problem last (v ++ q)
      → (m : ℕ) × (Leads states 0 v m × IsNodeOf problem nodes m (kind_of problem last v))
  reads_to v q o =
      let read = given.right.automaton.reads (v ++ q) (length v) o (omega (arith, length-append v q)) in
      let front : take (length v) (v ++ q) ≡ v = take_at v q (length v) refl in (
        read.0,
        (
          subst (λ w. Leads states 0 w read.0) front read.1.0,
          subst (λ w. IsNodeOf problem nodes read.0 (kind_of problem last w)) front read.1.2,
        ),
      )

  -- a state with its kind, a prefix of an optimal candidate that is read up to it, and what follows
  pub record IsReached (n : ℕ) (k : PrefixKind) : Type 0 where
    pub before : List (List Sym)
    pub rest : List (List Sym)
    pub optimal : IsOptimalFor problem (last_stage problem) (before ++ rest)
    pub of_kind : kind_of problem (last_stage problem) before ≡ k
    pub leads : Leads answer.automaton.states.items 0 before n

  reached : (n : ℕ) (k : PrefixKind) → Contains (numbers_of states) n → IsNodeOf problem nodes n k → IsReached n k
  reached n k c node =
      let passed = given.right.automaton.passed n c in
      let same : passed.0 ≡ k = one_kind problem nodes passed.0 k n passed.1.0 node in
      let parts = parted_passed problem answer given last last passed.0 passed.1.1 in
      let read = reads_to parts.0 parts.1.0 parts.1.1.0 in
      let kind : kind_of problem last parts.0 ≡ k = parts.1.1.1 ∙ same in
      let number : read.0 ≡ n = same_number k read.0 n (subst (IsNodeOf problem nodes read.0) kind read.1.1) node in
      record {
        before = parts.0;
        rest = parts.1.0;
        optimal = parts.1.1.0;
        of_kind = kind;
        leads = subst (Leads states 0 parts.0) number read.1.0;
      }

  finals : (state : StateLine) (k : PrefixKind) → Contains states state → IsNodeOf problem nodes state.node k
      → state.accepting ≡ is_final problem k
  finals state k listed node =
      let at : IsReached state.node k = reached state.node k
      (contains_map (λ (line : StateLine). line.node) states state listed) node in
      let v : List (List Sym) = at.before in
      both_ways state.accepting (is_final problem k)
      (λ t.
      let o = (given.right.automaton.accepts v).0
      (record {
        last = state.node;
        leads = at.leads;
        final = record { state = state; listed = listed; numbered = refl; final = t };
      }) in
      ap (is_final problem) (sym at.of_kind)
      ∙ candidate_final problem last given.split given.form
      (over_at problem answer.stages.items given.split given.form given.over last (omega arith)) v o.candidate)
      (λ f.
      let c : IsCandidate problem v =
      final_candidate problem last given.split given.form
      (over_at problem answer.stages.items given.split given.form given.over last (omega arith)) v
      (begun_of problem v at.rest at.optimal.candidate) (ap (is_final problem) at.of_kind ∙ f) in
      let o : IsOptimalFor problem last v = (told.optimal v c).1
      (λ j a b. (falls_to problem answer given last told v at.rest at.optimal j a b).0) in
      let a : Accepts states v = (given.right.automaton.accepts v).1 o in
      let end : a.last ≡ state.node = one_end v a.last state.node a.leads at.leads in
      let same : a.final.state
      ≡ state = one_state states given.right.automaton.ascending a.final.state state a.final.listed listed
      (a.final.numbered ∙ end) in
      ap (λ (line : StateLine). line.accepting) (sym same) ∙ a.final.final)

  module _ (n m : ℕ) (k : PrefixKind) (column : List Sym) (c : Contains (numbers_of states) n)
      (node : IsNodeOf problem nodes n k) where
    here : IsReached n k
    here = reached n k c node

    -- An arc goes on from the prefix that is read up to its state, and some optimal candidate goes on from its target.
    module _ (arc : HasArc states n m column) where
      target : Contains (numbers_of states) m
      target =
          subst (Contains (numbers_of states)) arc.to
          (All-contains (λ (line : ArcLine). Contains (numbers_of states) line.target) arc.state.arcs.items arc.arc
          (All-contains (λ (state : StateLine). All
          (λ (line : ArcLine). Contains
          (numbers_of states) line.target) state.arcs.items) states arc.state targets arc.listed) arc.leaves)

      there : (l : PrefixKind) × IsReached m l
      there = let passed = given.right.automaton.passed m target in (passed.0, reached m passed.0 target passed.1.0)

      longer : List (List Sym)
      longer = here.before ++ column ∷ []

      step : Leads states 0 longer m
      unfolding longer
      step = leads_joined states here.before (column ∷ []) 0 n m here.leads (m, (arc, refl))

      accepted : Accepts states (longer ++ there.1.rest)
      accepted =
          let q : List (List Sym) = there.1.rest in
          let a : Accepts states (there.1.before ++ q) =
          (given.right.automaton.accepts (there.1.before ++ q)).1 there.1.optimal in
          let parts = leads_parts states there.1.before q 0 a.last a.leads in
          let onward : Leads states m q a.last = subst (λ i. Leads states i q a.last)
          (one_end there.1.before parts.0 m parts.1.0 there.1.leads) parts.1.1 in
          record { last = a.last; leads = leads_joined states longer q 0 m a.last step onward; final = a.final }

      whole : IsOptimalFor problem last (longer ++ there.1.rest)
      whole = (given.right.automaton.accepts (longer ++ there.1.rest)).0 accepted

      through : IsOptimalFor problem last (here.before ++ column ∷ there.1.rest)
      unfolding longer
      through = subst (IsOptimalFor problem last) (append_assoc here.before (column ∷ []) there.1.rest) whole

      target_kind : kind_of problem last longer ≡ next_kind problem last k column
      unfolding longer
      target_kind =
          sym (goes_to problem answer.stages.items given.split given.form given.over last
          (omega arith) here.before column (there.1.rest, whole.candidate))
          ∙ ap (λ x. next_kind problem last x column) here.of_kind

      target_node : IsNodeOf problem nodes m (kind_of problem last longer)
      target_node =
          let read = reads_to longer there.1.rest whole in
          subst (λ i. IsNodeOf problem nodes i (kind_of problem last longer))
          (one_end longer read.0 m read.1.0 step) read.1.1

      arc_kept : IsKeptBelow problem answer.stages.items (last + 1) k column × IsNodeOf problem nodes m
          (next_kind problem last k column)
      arc_kept = (
        subst (λ x. IsKeptBelow problem answer.stages.items (last + 1) x column) here.of_kind
            (kept_from_falls problem answer.stages.items given.split given.form given.over (last + 1) last
            (omega arith) (omega arith) here.before column there.1.rest through.candidate
            (λ j b l. (falls_to problem answer given last told here.before (column ∷ there.1.rest) through j b
            (omega arith)).1.0)),
        subst (IsNodeOf problem nodes m) target_kind target_node,
      )

    -- A kept move goes on from that prefix to an optimal candidate, which is read by an arc on the column.
    module _ (kept : IsKeptBelow problem answer.stages.items (last + 1) k column)
        (node_there : IsNodeOf problem nodes m (next_kind problem last k column)) where
      more : BeginsCandidate problem (here.before ++ column ∷ []) × AllFall problem answer.stages.items last
          (here.before ++ column ∷ [])
      more =
          kept_longer problem answer given last last (last + 1) (omega arith) (omega arith)
          (λ j a b. omega arith) told here.before here.rest here.optimal column
          (subst (λ x. IsKeptBelow problem answer.stages.items (last + 1) x column) (sym here.of_kind) kept)

      far : (q : List (List Sym)) × IsOptimalFor problem last ((here.before ++ column ∷ []) ++ q)
      far = goes_on problem answer given last (omega arith) all_certified (here.before ++ column ∷ []) more.0 more.1

      kind_there : next_kind problem last k column ≡ kind_of problem last (here.before ++ column ∷ [])
      kind_there =
          ap (λ x. next_kind problem last x column) (sym here.of_kind)
          ∙ goes_to problem answer.stages.items given.split given.form given.over last
          (omega arith) here.before column more.0

      read_there : (i : ℕ) × (Leads states 0 (here.before ++ column ∷ []) i × (i ≡ m))
      read_there =
          let read = reads_to (here.before ++ column ∷ []) far.0 far.1 in (
            read.0,
            (
              read.1.0,
              same_number (kind_of problem last (here.before ++ column ∷ [])) read.0 m read.1.1
                  (subst (IsNodeOf problem nodes m) kind_there node_there),
            ),
          )

      kept_arc : HasArc states n m column
      kept_arc =
          let parts = leads_parts states here.before (column ∷ []) 0 read_there.0 read_there.1.0 in
          let start : parts.0 ≡ n = one_end here.before parts.0 n parts.1.0 here.leads in
          let arc = parts.1.1 in
          subst (λ i. HasArc states n i column) (arc.1.1 ∙ read_there.1.1)
          (subst (λ i. HasArc states i arc.0 column) start arc.1.0)

  automaton_certified : IsCertifiedAutomaton problem answer.stages.items states
  automaton_certified = record {
    start = first_state;
    targets = targets;
    finals = finals;
    once = apart;
    arcs = λ n m k column c node. (arc_kept n m k column c node, λ h. kept_arc n m k column c node h.0 h.1);
  }
    where
      first_state : Contains (numbers_of states) 0
      first_state =
          let read = given.right.automaton.reads answer.example 0 given.right.example.member (omega arith) in
          subst (Contains (numbers_of states)) (sym read.1.0) read.1.1

  pub certified_from_right : last_place problem ≤ 64 → IsCertified problem answer
  certified_from_right short = record {
    form = given.right.form;
    well_formed = given.form;
    short = short;
    stage_count = given.right.stage_count;
    example = given.right.example.member.candidate;
    counts = counts_are problem answer given;
    each_stage = all_stages problem answer given;
    automaton = automaton_certified;
  }
