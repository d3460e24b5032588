-- An answer in which no fault is is certified.
use Rattle.std.proofs.Common.{◌≡◌, ℕ, zero, suc, ◌+◌, ◌-◌, ◌<◌, ◌≤◌, ◌⊎◌, Bool, true, IsTrue, List, [], ◌∷◌, length}
use Rattle.std.proofs.Common.{get_or, slice_get, Some, None, Option, refl, sym, ap, ◌∙◌, subst, arith, inl}
use Rattle.std.proofs.{Common.{inr, Contains, All, AllPairs}, lemmas.Bool.{cases_eq, cases_lt}}
use Rattle.std.proofs.{lemmas.List.length-map, lemmas.List.FromFn.length-map-range_with_len}
use Rattle.std.proofs.lemmas.Grind.{same_number_lists}
use Rattle.std.proofs.lemmas.Option.{slice_get-get_or, get_or_from_slice_get, slice_get_within}
use Rattle.std.specs.{List.Sorted.IsStrictlySortedBy, Prelude.unwrap_or}
use Rattle.tier_core.specs.{declared.sym.Sym.Sym, declared.kind.Kind.Kind, declared.constraint.Constraint.Constraint}
use Rattle.tier_core.specs.{Classes.{has, AreDisjoint}, Kinds.{Phase, PrefixKind, kind_order, phase_at}, Scan.opens}
use Rattle.tier_core.specs.Timelines.{symbol}
use Rattle.violation.specs.{Candidates.{IsForm, IsCandidate, counts_on}, Counts.violations_of}
use Rattle.violation.specs.Moves.{next_kind, cost_of, cut_kind, is_final, next_phases}
use Rattle.violation.specs.Phases.{is_left_open, AreClosedOr}
use Rattle.violation.specs.{Prefixes.{kind_of, kind_of_bits, stretches}, Problems.{Problem, last_stage, last_place}}
use Rattle.answer_text.specs.{declared.stage.Node.Node, declared.automaton.ArcLine.ArcLine}
use Rattle.answer_text.specs.{declared.automaton.StateLine.StateLine, declared.answer.Answer.Answer}
use Rattle.answer_text.specs.{Acceptance.HasArc, Right.{nodes_at, kinds_at, IsNodeOf, numbers_of}}
use Rattle.answer_text.specs.Certified.{Lists, IsKeptBelow, IsPossibleKind, IsCertified, IsCertifiedStage}
use Rattle.answer_text.specs.Certified.{IsCertifiedAutomaton, start_potential}
use Rattle.tier_core.proofs.Members.{contains_of_map, All-from_members}
use Rattle.check_laws.proofs.Listing.{lists_kind, kind_numbered, one_potential}
use Rattle.cert_check.specs.declared.fault.Fault.TheVariants.{FormWrong, StageMissing, ExampleWrong, CountsDiffer}
use Rattle.cert_check.specs.declared.fault.Fault.TheVariants.{NodeWrong, StartMissing, FinalPotential, NotClosed}
use Rattle.cert_check.specs.declared.fault.Fault.TheVariants.{Potential, StartPotential, StateMissing, FinalsDiffer}
use Rattle.cert_check.specs.{declared.fault.Fault.TheVariants.{ArcsTwice, ArcsDiffer}, Faults.{HasNode, HasWrongNode}}
use Rattle.cert_check.specs.Faults.{IsUnlisted, HasState, TellsKind, IsListedTarget, IsKeptTarget}
use Rattle.cert_check.specs.FirstFaults.{IsFaultless}
use Rattle.cert_check.proofs.Decisions.{Decided, from_both, so_unless, at_most, is_bool, is_member, is_kind}
use Rattle.cert_check.proofs.{Decisions.is_option, DecidedForms.{is_form, is_candidate}}
use Rattle.cert_check.proofs.{DecidedMoves.{is_listed, is_kept}, Faultless.contains_numbered}
use Rattle.cert_check.proofs.{Ascending.{node_at, kind_at, ascends_unless}, KindMasks.some_told}

-- numbers that do not differ are the same
same_unless : (m n : ℕ) → ((m ≡ n → ⊥) → ⊥) → m ≡ n
same_unless m n h = so_unless (cases_eq m n) h

-- phases are closed as they should be, or not
are_closed : (f : Constraint → Bool) (cs : List Constraint) (ps : List Phase) → Decided (AreClosedOr f cs ps)
are_closed f [] [] = inl tt
are_closed f [] (p ∷ ps) = inr (λ h. h)
are_closed f (c ∷ cs) [] = inr (λ h. h)
are_closed f (c ∷ cs) (p ∷ ps) = from_both (is_bool _ _) (are_closed f cs ps)

-- a move has as many next phases as there are stretch implications
next_count : (cs : List Constraint) (ps : List Phase) (column : List Sym) → length ps ≡ length cs
    → length (next_phases cs ps column) ≡ length cs
next_count [] ps column e = refl
next_count (c ∷ cs) [] column e = absurd (omega (arith, e))
next_count (c ∷ cs) (p ∷ ps) column e = ap (λ n. suc n) (next_count cs ps _ (omega (arith, e)))

-- an arc of a list holds a column, or none does
arc_on : (arcs : List ArcLine) (column : List Sym)
    → ((arc : ArcLine) × (Contains arcs arc × IsTrue (has arc.class column)))
    ⊎ ((arc : ArcLine) → Contains arcs arc → IsTrue (has arc.class column) → ⊥)
arc_on [] column = inr (λ arc h. absurd (omega (arith, h.1)))
arc_on (a ∷ arcs) column = own (is_bool (has a.class column) true) (arc_on arcs _)
  where
    at_place : (arc : ArcLine) → (has a.class column ≡ true → ⊥)
        → ((arc : ArcLine) → Contains arcs arc → IsTrue (has arc.class column) → ⊥) → (i : ℕ)
        → i < length (a ∷ arcs) → get_or (a ∷ arcs) i arc ≡ arc → IsTrue (has arc.class column) → ⊥
    at_place arc n none zero l e h = n (ap (λ (x : ArcLine). has x.class column) e ∙ h)
    at_place arc n none (suc i) l e h = none arc (i, omega (arith, l), e) h

    own : Decided (has a.class column ≡ true)
        → ((arc : ArcLine) × (Contains arcs arc × IsTrue (has arc.class column)))
        ⊎ ((arc : ArcLine) → Contains arcs arc → IsTrue (has arc.class column) → ⊥)
        → ((arc : ArcLine) × (Contains (a ∷ arcs) arc × IsTrue (has arc.class column)))
        ⊎ ((arc : ArcLine) → Contains (a ∷ arcs) arc → IsTrue (has arc.class column) → ⊥)
    own (inl h) d = inl (a, ((0, omega arith, refl), h))
    own (inr n) (inl h) = inl (h.0, ((suc h.1.0.0, omega (arith, h.1.0.1), h.1.0.2), h.1.1))
    own (inr n) (inr none) = inr (λ arc c h. at_place _ n none _ c.1 c.2 h)

some_not_none : (n : ℕ) → Some n ≡ None → ⊥
some_not_none n e = cc

above : (m n : ℕ) → (n ≤ m → ⊥) → m < n
above m n h = elim (cases_lt m n) [
  | inl l ↦ l
  | inr g ↦ absurd (h g)
]

module _ (problem : Problem) (answer : Answer) (faultless : IsFaultless problem answer) where
  -- the form
  form_short : IsForm problem.tiers problem.form × (last_place problem ≤ 64)
  form_short = so_unless (from_both (is_form _ _) (at_most _ 64)) (λ n. faultless FormWrong _ (λ f s. n (f, s), refl))

  stage_count : length answer.stages.items ≡ last_stage problem + 1
  stage_count = same_unless _ _ (λ n. faultless (StageMissing (length answer.stages.items) (last_stage problem + 1)) _
      (record { wanted_is = refl; differs = n; listed_is = inl refl }, refl))

  count_count : length answer.counts.items + 1 ≡ last_stage problem + 1
  count_count = same_unless _ _ (λ n. faultless (StageMissing (length answer.counts.items + 1) (last_stage problem + 1))
      _ (record { wanted_is = refl; differs = n; listed_is = inr (stage_count, refl) }, refl))

  example : IsCandidate problem answer.example
  example = so_unless (is_candidate _ _) (λ n. faultless ExampleWrong _ (n, refl))

  counts : answer.counts.items ≡ counts_on problem answer.example
  counts = same_number_lists _ _
      (omega (arith, count_count, length-map problem.constraints (λ c. violations_of c answer.example))) (λ k l.
      same_unless _ _ (λ n. faultless
      (CountsDiffer (k + 1) (get_or answer.counts.items k 0) (get_or (counts_on problem answer.example) k 0)) _ (
        record {
          some = omega arith;
          within = omega (arith, l, count_count);
          listed_is = ap (λ i. get_or answer.counts.items i 0) (omega arith);
          counted_is = ap (λ i. get_or (counts_on problem answer.example) i 0) (omega arith);
          differs = n;
        },
        refl,
      )))

  -- a stage
  module _ (r : ℕ) (within : r ≤ last_stage problem) where
    abbrev nodes : List Node
    nodes = nodes_at answer.stages.items r

    abbrev kinds : List PrefixKind
    kinds = kinds_at problem r (nodes_at answer.stages.items r)

    abbrev told : Node → PrefixKind
    told node = kind_of_bits problem r node.kind

    in_stages : r < length answer.stages.items
    in_stages = omega (arith, within, stage_count)

    has_number : (node : Node) → Contains nodes node → (n : ℕ) × HasNode answer r n node
    has_number node h = (
      h.0,
      record {
        within = in_stages;
        numbered = slice_get-get_or _ _ _ h.1 ∙ ap (λ (x : Node). Some x) h.2;
      },
    )

    module _ (n : ℕ) (node : Node) (is : HasNode answer r n node) where
      possible : IsPossibleKind problem r (told node)
      possible = so_unless (told_possible (at_most _ _) (are_closed _ _ _))
          (λ no. faultless (NodeWrong r n) _ (record { node = node; is = is; wrong = λ o. no o.possible }, refl))
        where
          told_possible : Decided ((told node).place ≤ last_place problem)
              → Decided (AreClosedOr (is_left_open problem (told node)) (stretches problem r) (told node).phases)
              → Decided (IsPossibleKind problem r (told node))
          told_possible (inl p) (inl q) = inl (record { place = p; phases = q })
          told_possible (inl p) (inr none) = inr (λ h. none h.phases)
          told_possible (inr none) d = inr (λ h. none h.place)

      cut_before : 1 ≤ r → Contains (kinds_at problem (r - 1) (nodes_at answer.stages.items (r - 1)))
          (cut_kind problem (r - 1) (told node))
      cut_before some = so_unless (is_member is_kind _ _) (λ no. faultless (NodeWrong r n) _
          (record { node = node; is = is; wrong = λ o. no (o.cut_before some) }, refl))

      final : IsTrue (is_final problem (told node)) → node.potential ≡ 0
      final h = same_unless _ 0 (λ no. faultless (FinalPotential r n node.potential) _
          (record { node = node; is = is; final = h; listed_is = refl; differs = no }, refl))

      -- each kept move leads to a kind that is listed, with a potential that is high enough
      module _ (column : List Sym) (kept : IsKeptBelow problem answer.stages.items r (told node) column) where
        abbrev next : PrefixKind
        next = next_kind problem r (told node) column

        missing : (kind : Kind) × TellsKind problem r kind next
        missing = some_told _ r _ (length-map problem.tiers.free (λ t. opens (symbol column t)))
            (next_count _ _ _ (length-map-range_with_len (phase_at node.kind) 0 (length (stretches problem r))))

        listed : (q : ℕ) × Lists problem answer.stages.items r next q
        listed = own (is_listed _ _ r _)
          where
            own : ((q : ℕ) × Lists problem answer.stages.items r next q)
                ⊎ IsUnlisted problem answer.stages.items r next
                → (q : ℕ) × Lists problem answer.stages.items r next q
            own (inl h) = h
            own (inr none) = absurd (faultless (NotClosed r n missing.0) _ (
              column,
              (
                record { node = node; is = is; kept = kept; leads = missing.1; unlisted = none },
                refl,
              ),
            ))

        high_enough : node.potential ≤ cost_of problem r (told node) column + listed.0
        high_enough = so_unless (at_most _ _)
            (λ no. faultless (Potential r n node.potential (cost_of problem r (told node) column + listed.0)) _ (
              column,
              (
                record {
                  node = node;
                  is = is;
                  kept = kept;
                  next = listed.0;
                  leads = listed.1;
                  listed_is = refl;
                  allowed_is = refl;
                  above = above _ _ no;
                },
                refl,
              ),
            ))

    each_kind : (P : PrefixKind → Type 0) → ((n : ℕ) (node : Node) → HasNode answer r n node → P (told node))
        → All P kinds
    each_kind P h = All-from_members P kinds (λ k c.
        let m = contains_of_map _ _ k c in
        let numbered = has_number _ m.1.0 in
        subst P m.1.1 (h numbered.0 m.0 numbered.1))

    no_wrong : (n : ℕ) → HasWrongNode problem answer r n → ⊥
    no_wrong n w = faultless (NodeWrong r n) _ (w, refl)

    ascending : IsStrictlySortedBy kind_order kinds
    ascending = ascends_unless _ _ r in_stages no_wrong

    first : slice_get kinds 0 ≡ Some (kind_of problem r [])
    first = so_unless (is_option is_kind _ _)
        (λ no. faultless (StartMissing r) _ (record { within = in_stages; lacks = no }, refl))

    start : (p : ℕ) → Lists problem answer.stages.items r (kind_of problem r []) p
        → p ≡ start_potential answer.counts.items r
    start p lists =
        let zero = node_at problem _ r in_stages 0 (slice_get_within _ 0 _ first) in
        let tells = sym (kind_at problem _ r in_stages 0 _ zero.1) ∙ get_or_from_slice_get _ 0 _ _ first in
        one_potential _ r _ ascending _ p _ lists (record {
          node = zero.0;
          listed = contains_numbered _ 0 _ zero.1.numbered;
          tells = tells;
          potential = refl;
        })
        ∙ same_unless _ _
        (λ no. faultless (StartPotential r zero.0.potential (start_potential answer.counts.items r)) _ (
          record {
            node = zero.0;
            is = zero.1;
            listed_is = refl;
            count_is = refl;
            differs = no;
          },
          refl,
        ))

    pub certified_stage : IsCertifiedStage problem answer.counts.items answer.stages.items r
    certified_stage = record {
      kinds = each_kind (IsPossibleKind problem r) possible;
      ascending = ascending;
      cuts = λ some. each_kind
          (λ k. Contains (kinds_at problem (r - 1) (nodes_at answer.stages.items (r - 1))) (cut_kind problem (r - 1) k))
          (λ n node is. cut_before n node is some);
      first = first;
      final = λ k p lists h. let numbered = has_number lists.node lists.listed in
          sym lists.potential ∙ final numbered.0 lists.node numbered.1
          (subst (λ x. IsTrue (is_final problem x)) (sym lists.tells) h);
      goes_on = λ k p column lists kept. let numbered = has_number lists.node lists.listed in
          let stays = subst (λ x. IsKeptBelow problem answer.stages.items r x column) (sym lists.tells) kept in
          let next = listed numbered.0 lists.node numbered.1 column stays in
          subst (λ x. (q : ℕ) × (Lists problem answer.stages.items r (next_kind problem r x column) q
          × (p ≤ cost_of problem r x column + q))) lists.tells (
            next.0,
            (
              next.1,
              subst (λ x. x ≤ cost_of problem r (told lists.node) column + next.0) lists.potential
                  (high_enough numbered.0 lists.node numbered.1 column stays),
            ),
          );
      start = start;
    }

  -- the automaton
  abbrev last : ℕ
  last = last_stage problem

  abbrev last_nodes : List Node
  last_nodes = nodes_at answer.stages.items (last_stage problem)

  abbrev states : List StateLine
  states = answer.automaton.states.items

  has_state : (line : StateLine) → Contains states line → HasState answer line.node line
  has_state line h = record { listed = h; numbered = refl }

  first_state : Contains (numbers_of states) 0
  first_state = so_unless (is_member cases_eq _ 0) (λ no. faultless (StateMissing 0 0) _ (inl (refl, refl, no, refl)))

  target_state : (line : StateLine) → Contains states line → (arc : ArcLine) → Contains line.arcs.items arc
      → Contains (numbers_of states) arc.target
  target_state line h arc c = so_unless (is_member cases_eq _ _)
      (λ no. faultless (StateMissing line.node arc.target) _ (inr (
        c.0,
        (
          record {
            line = line;
            is = has_state _ h;
            arc_line = arc;
            numbered = slice_get-get_or _ _ _ c.1 ∙ ap (λ (x : ArcLine). Some x) c.2;
            target_is = refl;
            lacks = no;
          },
          refl,
        ),
      )))

  right_mark : (line : StateLine) (k : PrefixKind) → Contains states line → IsNodeOf problem last_nodes line.node k
      → line.accepting ≡ is_final problem k
  right_mark line k h of_kind = so_unless (is_bool _ _) (λ no. faultless (FinalsDiffer line.node line.accepting) _ (
    record {
      line = line;
      is = has_state _ h;
      kind = k;
      of_kind = of_kind;
      listed_is = refl;
      differs = no;
    },
    refl,
  ))

  apart : (line : StateLine) → Contains states line
      → AllPairs (λ (a b : ArcLine). AreDisjoint a.class b.class) line.arcs.items
  apart line h i j d l within column first second = faultless (ArcsTwice line.node column) _ (
    record {
      line = line;
      is = has_state _ h;
      first = i;
      second = j;
      ascending = l;
      first_arc = get_or line.arcs.items i d;
      first_is = slice_get-get_or _ i d (omega (arith, l, within));
      second_arc = get_or line.arcs.items j d;
      second_is = slice_get-get_or _ j d within;
      in_first = first;
      in_second = second;
    },
    refl,
  )

  module _ (k : PrefixKind) (column : List Sym) where
    abbrev Kept : Type 0
    Kept = IsKeptBelow problem answer.stages.items (last_stage problem + 1) k column

    abbrev goal_kind : PrefixKind
    goal_kind = next_kind problem (last_stage problem) k column

    kept_or_not : Decided Kept
    kept_or_not = is_kept _ _ _ (λ j l. ascending j (omega (arith, l))) k _

    -- a move that is kept at the end leads to a node
    kept_target : (n : ℕ) → IsNodeOf problem last_nodes n k → Kept → (m : ℕ) × IsNodeOf problem last_nodes m goal_kind
    kept_target n node kept =
        let listed = (certified_stage _ (omega arith)).goes_on k node.node.potential column (record {
          node = node.node;
          listed = contains_numbered _ n _ node.numbered;
          tells = node.tells;
          potential = refl;
        })
        (record { fits = kept.fits; tight = λ j some l. kept.tight j some (omega (arith, l)) }) in
        kind_numbered _ _ _ (lists_kind _ _ _ _ _ listed.1.0)

    module _ (line : StateLine) (h : Contains states line) (node : IsNodeOf problem last_nodes line.node k) where
      same_target : (listed kept : Option ℕ) → IsListedTarget line.arcs.items column listed
          → IsKeptTarget problem answer k column kept → listed ≡ kept
      same_target listed kept a b = so_unless (is_option cases_eq _ _)
          (λ no. faultless (ArcsDiffer line.node column listed kept) _ (
            record {
              line = line;
              is = has_state _ h;
              kind = k;
              of_kind = node;
              listed_is = a;
              kept_is = b;
              differs = no;
            },
            refl,
          ))

      arc_kept : (arc : ArcLine) → Contains line.arcs.items arc → IsTrue (has arc.class column)
          → Kept × IsNodeOf problem last_nodes arc.target goal_kind
      arc_kept arc c holds = own kept_or_not
        where
          own : Decided Kept → Kept × IsNodeOf problem last_nodes arc.target goal_kind
          own (inl kept) =
              let target = kept_target _ node kept in
              let same : Some arc.target ≡ Some target.0 = same_target _ _ (arc, (c, holds, refl)) (kept, target.1) in (
                kept,
                rw ((ap (λ o. unwrap_or o 0) same)) target.1,
              )
          own (inr none) = absurd (some_not_none _ (same_target _ _ (arc, (c, holds, refl)) none))

      kept_arc : (m : ℕ) → Kept → IsNodeOf problem last_nodes m goal_kind → HasArc states line.node m column
      kept_arc m kept target = own (arc_on _ _)
        where
          own : ((arc : ArcLine) × (Contains line.arcs.items arc × IsTrue (has arc.class column)))
              ⊎ ((arc : ArcLine) → Contains line.arcs.items arc → IsTrue (has arc.class column) → ⊥)
              → HasArc states line.node m column
          own (inl a) = record {
            state = line;
            arc = a.0;
            listed = h;
            from = refl;
            leaves = a.1.0;
            to = ap (λ o. unwrap_or o 0)
                (same_target (Some a.0.target) (Some m) (a.0, (a.1.0, a.1.1, refl)) (kept, target));
            holds = a.1.1;
          }
          own (inr none) = absurd (some_not_none m (sym (same_target _ _ none (kept, target))))

  certified_automaton : IsCertifiedAutomaton problem answer.stages.items answer.automaton.states.items
  certified_automaton = record {
    start = first_state;
    targets = All-from_members (λ (line : StateLine). All
        (λ (arc : ArcLine). Contains (numbers_of states) arc.target) line.arcs.items) states
        (λ line h. All-from_members (λ (arc : ArcLine). Contains (numbers_of states) arc.target) line.arcs.items
        (target_state line h));
    finals = right_mark;
    once = All-from_members (λ (line : StateLine). AllPairs
        (λ (a b : ArcLine). AreDisjoint a.class b.class) line.arcs.items) states apart;
    arcs = λ n m k column s node. (
      λ a. let kept = arc_kept k column a.state a.listed (rw a.from node) a.arc a.leaves a.holds in
          (kept.0, subst (λ i. IsNodeOf problem last_nodes i (next_kind problem last k column)) a.to kept.1),
      λ kept. let line = contains_of_map (λ (state : StateLine). state.node) states n s in
          subst (λ i. HasArc states i m column) line.1.1
          (kept_arc k column line.0 line.1.0 (rw line.1.1 node) m kept.0 kept.1),
    );
  }

  pub certified_if_faultless : answer.form ≡ problem.form → IsCertified problem answer
  certified_if_faultless form = record {
    form = form;
    well_formed = form_short.0;
    short = form_short.1;
    stage_count = stage_count;
    example = example;
    counts = counts;
    each_stage = certified_stage;
    automaton = certified_automaton;
  }
