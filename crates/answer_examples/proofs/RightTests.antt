-- A certified answer is right if some candidate shows each of its kinds, and what remains from it, and
-- its automaton accepts nothing before the example. This is tested by what is seen of the answer.
use Rattle.std.proofs.Common.{◌≡◌, ℕ, zero, suc, ◌+◌, ◌-◌, ◌==◌, ◌<◌, ◌≤◌, nat_le, IsTrue, Bool, true, false, ◌&&◌}
use Rattle.std.proofs.Common.{List, [], ◌∷◌, ◌++◌, map, take, drop, length, refl, sym, ap, ◌∙◌, subst, arith, All}
use Rattle.std.proofs.{Common.{Contains, Less, get_or, unwrap_or, find, is_le}, lemmas.Bool.{false≢true, and_parts}}
use Rattle.std.proofs.{lemmas.Bool.Decides.Decides-eqb, lemmas.List.Elements.Contains-get_or}
use Rattle.std.proofs.lemmas.List.{take-append-drop}
use Rattle.std.specs.{List.{list_all, AllByRecursion}, List.Sorted.IsStrictlySortedBy}
use Rattle.std.specs.{Ordering.{nat_cmp, ordering_then}, Cmp.Lexicographic.slice_cmp, declared.cmp.Ordering.Ordering}
use Rattle.tier_core.specs.{declared.sym.Sym.Sym, declared.sym.Sym.TheVariants.Outside}
use Rattle.tier_core.specs.{Classes.{has, sets_of, sets_have}, Kinds.PrefixKind, Orders.timeline_cmp, Sets.is_in}
use Rattle.tier_core.specs.Symbols.{symbols}
use Rattle.violation.specs.Candidates.{IsCandidate, IsOptimal, IsOptimalFor, IsAtMost, counts_on, count_at}
use Rattle.violation.specs.{Candidates.count_so_far_at, Conditions.{AreSplit, IsOverTiers}}
use Rattle.violation.specs.{Prefixes.{kind_of, kind_of_bits}, Problems.{Problem, last_stage}}
use Rattle.violation.specs.Stages.{Passes, IsPassed, IsRemaining}
use Rattle.violation.proofs.CutCandidates.{candidate_cut, violations_cut}
use Rattle.answer_text.specs.{declared.answer.Answer.Answer, declared.automaton.StateLine.StateLine}
use Rattle.answer_text.specs.{declared.stage.Node.Node, declared.stage.Stage.Stage, Acceptance.Leads}
use Rattle.answer_text.specs.{Certified.{Lists, IsCertified, AreStatesInOrder}, Right.{IsNodeOf, IsRight}}
use Rattle.answer_text.specs.Right.{IsRightStage, IsRightAutomaton, AreRightArcs, nodes_at, numbers_of}
use Rattle.answer_text.specs.{Sound.IsSound, Seen.nodes_seen}
use Rattle.answer_text.specs.Values.{ArcValue, NodeValue, StateValue, arc_value, state_value}
use Rattle.check_laws.proofs.{Leading.leads_parts, Listing.kind_listed, Optima.{AreTold, all_told}}
use Rattle.check_laws.proofs.{Potentials.{FallsAlong, falls_parts, stage_at, rest_cost, bound}, Reading.read_at}
use Rattle.check_laws.proofs.Soundness.{sound_from_certified}
use Rattle.tier_core.proofs.Members.{All-from_members, contains_map, contains_of_map}
use Rattle.answer_examples.specs.Seen.{node_of}
use Rattle.answer_examples.proofs.Tests.{Decides-leb, Decides-true, ascends, Decides-ascends, below, Decides-below}
use Rattle.answer_examples.proofs.{Same.{same_numbers, Decides-numbers, same_kind, Decides-kind}, StageTests.Listing}
use Rattle.answer_examples.proofs.{Views.listed_seen, AutomatonTests.{is_node, Decides-node}}
use Rattle.answer_examples.proofs.FirstTests.{passes_at, reads_from, first_read}
use Rattle.answer_examples.proofs.AnswerTests.{is_candidate, Decides-candidate}

-- a candidate, and how many of its columns are read
pub record Shown : Type 0 where
  pub candidate : List (List Sym)
  pub columns : ℕ

-- it is a candidate that has the first q counts
abbrev pub is_optimal_for : Problem → List ℕ → ℕ → Shown → Bool
is_optimal_for problem counts q w =
    is_candidate problem w.candidate && (same_numbers (take q (counts_on problem w.candidate)) (take q counts)
    && nat_le w.columns (length w.candidate))

-- from its columns that are read, just the potential is counted at stage r
abbrev pub remains_by : Problem → ℕ → ℕ → Shown → Bool
remains_by problem zero p w = p == 0
remains_by problem (suc i) p w =
    count_at problem (suc i) w.candidate == (count_so_far_at problem (suc i) w.candidate w.columns + p)

-- it shows a node of stage r
abbrev pub shows_node : Problem → List ℕ → ℕ → NodeValue → Shown → Bool
shows_node problem counts r x w =
    is_optimal_for problem counts (r - 1) w
    && (same_kind (kind_of problem r (take w.columns w.candidate)) x.kind && remains_by problem r x.potential w)

-- it shows a state
abbrev pub shows_state : Problem → List ℕ → Listing → StateValue → Shown → Bool
shows_state problem counts at z w =
    is_optimal_for problem counts (last_stage problem) w
    && is_node (at (last_stage problem)) z.node (kind_of problem (last_stage problem) (take w.columns w.candidate))

-- each element of a list is shown by one of another list, in turn
abbrev pub all_shown : {X : Type 0} → (X → Shown → Bool) → List X → List Shown → Bool
all_shown test [] ws = true
all_shown test (x ∷ xs) [] = false
all_shown test (x ∷ xs) (w ∷ ws) = test x w && all_shown test xs ws

shown_at : {X : Type 0} (test : X → Shown → Bool) (xs : List X) (ws : List Shown) → all_shown test xs ws ≡ true
    → (x : X) → Contains xs x → (w : Shown) × (test x w ≡ true)
shown_at test [] ws h x c = absurd (omega (arith, c.1))
shown_at test (y ∷ xs) [] h x c = absurd (false≢true h)
shown_at test (y ∷ xs) (w ∷ ws) h x c = at c.0 c.1 c.2 (shown_at test xs ws (and_parts _ _ h).1 x)
  where
    at : (k : ℕ) → k < length (y ∷ xs) → get_or (y ∷ xs) k x ≡ x
        → (Contains xs x → (v : Shown) × (test x v ≡ true)) → (v : Shown) × (test x v ≡ true)
    at zero l e rest = (w, subst (λ z. test z w ≡ true) e (and_parts _ _ h).0)
    at (suc k) l e rest = rest (k, omega arith, e)

-- with the first counts of an optimal candidate, a candidate is optimal
like_optimal : (problem : Problem) (q : ℕ) (T U : List (List Sym)) → IsOptimalFor problem q T
    → IsCandidate problem U → take q (counts_on problem U) ≡ take q (counts_on problem T) → IsOptimalFor problem q U
like_optimal problem q T U o c e = record {
  candidate = c;
  least = λ V d. subst (λ v. IsAtMost v (take q (counts_on problem V))) (sym e) (o.least V d);
}

-- arcs in order, each of which holds some column
abbrev pub arc_order : ArcValue → ArcValue → Ordering
arc_order a b = ordering_then (nat_cmp a.target b.target) (slice_cmp nat_cmp a.sets b.sets)

abbrev pub first_column : List ℕ → List Sym
first_column sets = map (λ set. unwrap_or (find (is_in set) symbols) Outside) sets

abbrev pub is_filled : ArcValue → Bool
is_filled a = sets_have a.sets (first_column a.sets)

abbrev pub arcs_pass : StateValue → Bool
arcs_pass z = ascends arc_order z.arcs && list_all is_filled z.arcs

module _ {X Y : Type 0} (f : X → Y) (cmp : Y → Y → Ordering) where
  less_seen : (x : X) (ys : List X) → AllByRecursion (λ y. cmp (f x) y ≡ Less) (map f ys)
      → AllByRecursion (λ y. cmp (f x) (f y) ≡ Less) ys
  less_seen x [] h = tt
  less_seen x (y ∷ ys) h = (h.0, less_seen x ys h.1)

  sorted_seen : (xs : List X) → IsStrictlySortedBy cmp (map f xs) → IsStrictlySortedBy (λ x y. cmp (f x) (f y)) xs
  unfolding IsStrictlySortedBy
  sorted_seen [] h = tt
  sorted_seen (x ∷ xs) h = (less_seen x xs h.0, sorted_seen xs h.1)

-- what is tested of a certified answer, besides
abbrev pub is_right : Problem → List ℕ → List (List Sym) → Listing → List StateValue → (ℕ → List Shown) → List Shown
    → Bool
is_right problem counts example at states of_stages of_states =
    below (last_stage problem + 1) (λ r. all_shown (shows_node problem counts r) (at r) (of_stages r))
    && (all_shown (shows_state problem counts at) states of_states
    && (reads_from states example 0 && list_all arcs_pass states))

module _ (problem : Problem) (answer : Answer) (split : AreSplit problem.tiers)
    (over : AllByRecursion (IsOverTiers problem.tiers.width) problem.constraints)
    (certified : IsCertified problem answer)
    (sorted : AreStatesInOrder problem.tiers.width answer.automaton.states.items) where
  abbrev counts : List ℕ
  counts = answer.counts.items

  abbrev stages : List Stage
  stages = answer.stages.items

  abbrev states : List StateLine
  states = answer.automaton.states.items

  abbrev last : ℕ
  last = last_stage problem

  abbrev nodes : List Node
  nodes = nodes_at stages last

  whole : last ≤ last_stage problem
  whole = omega arith

  sound : IsSound problem answer
  sound = sound_from_certified problem answer split over certified sorted

  told : (r : ℕ) → r ≤ last_stage problem → AreTold problem stages answer.example r
  told r w = all_told problem stages split certified.well_formed over counts answer.example certified.example
      certified.counts r w (λ j a b. certified.each_stage j (omega arith))

  module _ (q : ℕ) (few : q ≤ last_stage problem) (w : Shown) (h : is_optimal_for problem counts q w ≡ true) where
    tests : (IsTrue (is_candidate problem w.candidate)) × (IsTrue
        (same_numbers (take q (counts_on problem w.candidate)) (take q counts)
        && nat_le w.columns (length w.candidate)))
    tests = and_parts _ _ h

    later : (IsTrue (same_numbers (take q (counts_on problem w.candidate)) (take q counts)))
        × (IsTrue (nat_le w.columns (length w.candidate)))
    later = and_parts _ _ tests.1

    optimal_shown : IsOptimalFor problem q w.candidate
    optimal_shown = like_optimal problem q answer.example w.candidate (told q few).shares
        ((Decides-candidate problem w.candidate).0 tests.0)
        ((Decides-numbers (take q (counts_on problem w.candidate)) (take q counts)).0 later.0
        ∙ ap (take q) certified.counts)

    within_shown : w.columns ≤ length w.candidate
    within_shown = (Decides-leb w.columns (length w.candidate)).0 later.1

  -- a potential is a lower bound of what remains
  least_rest : (r : ℕ) (l : r ≤ last_stage problem) → 1 ≤ r → (k : PrefixKind) (p : ℕ) → Lists problem stages r k p
      → (U : List (List Sym)) (m : ℕ) → Passes problem (r - 1) r k U m
      → count_so_far_at problem r U m + p ≤ count_at problem r U
  least_rest r l ranked k p lists U m by =
      let parts : take m U ++ drop m U ≡ U = take-append-drop m U in
      let here : Lists problem stages r (kind_of problem r (take m U)) p =
      subst (λ z. Lists problem stages r z p) (sym by.of_kind) lists in
      let all_fall = ((told (r - 1) (omega arith)).optimal U by.optimal.candidate).0 by.optimal in
      let low : p ≤ rest_cost problem stages split certified.well_formed over counts r l (certified.each_stage r l)
      ranked (take m U) (drop m U) =
      bound problem stages split certified.well_formed over counts r l (certified.each_stage r l) ranked
      (drop m U) (take m U) p (candidate_cut problem U m by.optimal.candidate) here
      (λ j a b. (falls_parts problem stages j (take m U) [] (drop m U)
      (subst (FallsAlong problem stages j []) (sym parts) (all_fall j a (omega arith)))).1) in
      omega (
        arith,
        low,
        violations_cut problem U m r (stage_at problem stages split certified.well_formed over r l) ranked by.within
            by.optimal.candidate,
      )

  remains : (r : ℕ) → r ≤ last_stage problem → (k : PrefixKind) (p : ℕ) → Lists problem stages r k p → (w : Shown)
      → Passes problem (r - 1) r k w.candidate w.columns → remains_by problem r p w ≡ true → IsRemaining problem r k p
  remains zero l k p lists w by e = (Decides-eqb p 0).0 e
  remains (suc i) l k p lists w by e = record {
    some = (
      w.candidate,
      (
        w.columns,
        (
          by,
          (Decides-eqb (count_at problem (suc i) w.candidate)
              (count_so_far_at problem (suc i) w.candidate w.columns + p)).0 e,
        ),
      ),
    );
    least = λ U m other. least_rest (suc i) l (omega arith) k p lists U m other;
  }

  module _ (r : ℕ) (l : r ≤ last_stage problem) (ws : List Shown)
      (h : all_shown (shows_node problem counts r) (nodes_seen problem stages r) ws ≡ true) where
    module _ (k : PrefixKind) (p : ℕ) (lists : Lists problem stages r k p) where
      shown : (w : Shown) × (shows_node problem counts r (node_of k p) w ≡ true)
      shown = shown_at (shows_node problem counts r) (nodes_seen problem stages r) ws h (node_of k p)
          (listed_seen problem stages r (nodes_seen problem stages r) refl k p lists)

      abbrev w : Shown
      w = shown.0

      parts : (IsTrue (is_optimal_for problem counts (r - 1) w)) × (IsTrue
          (same_kind (kind_of problem r (take w.columns w.candidate)) k && remains_by problem r p w))
      parts = and_parts _ _ shown.1

      ends : (IsTrue (same_kind (kind_of problem r (take w.columns w.candidate)) k))
          × (IsTrue (remains_by problem r p w))
      ends = and_parts _ _ parts.1

      passes : Passes problem (r - 1) r k w.candidate w.columns
      passes = record {
        optimal = optimal_shown (r - 1) (omega arith) w parts.0;
        within = within_shown (r - 1) (omega arith) w parts.0;
        of_kind = (Decides-kind (kind_of problem r (take w.columns w.candidate)) k).0 ends.0;
      }

      remaining : IsRemaining problem r k p
      remaining = remains r l k p lists w passes ends.1

    stage_right : IsRightStage problem r (nodes_at stages r)
    stage_right = record {
      kinds = record {
        ascending = (certified.each_stage r l).ascending;
        members = λ k. (
          λ c.
              let found = kind_listed problem r stages k c in
              record {
                candidate = (shown k found.0 found.1).0.candidate;
                columns = (shown k found.0 found.1).0.columns;
                passes = passes k found.0 found.1;
              },
          λ passed. sound.each_kind r l k passed,
        );
      };
      potentials = All-from_members
          (λ node. IsRemaining problem r (kind_of_bits problem r node.kind) node.potential) (nodes_at stages r)
          (λ node c. remaining (kind_of_bits problem r node.kind) node.potential
          (record { node = node; listed = c; tells = refl; potential = refl }));
    }

  module _ (vs : List Shown)
      (h : all_shown (shows_state problem counts (nodes_seen problem stages)) (map state_value states) vs ≡ true)
      (arcs : list_all arcs_pass (map state_value states) ≡ true) where
    passed_state : (n : ℕ) → Contains (numbers_of states) n
        → (k : PrefixKind) × (IsNodeOf problem nodes n k × IsPassed problem last last k)
    passed_state n c =
        let z = contains_of_map (λ (s : StateLine). s.node) states n c in
        let w = shown_at (shows_state problem counts (nodes_seen problem stages)) (map state_value states) vs h
        (state_value z.0) (contains_map state_value states z.0 z.1.0) in
        let tests = and_parts _ _ w.1 in
        let k : PrefixKind = kind_of problem last (take w.0.columns w.0.candidate) in (
          k,
          (
            subst (λ i. IsNodeOf problem nodes i k) z.1.1 ((Decides-node problem nodes z.0.node k).0 tests.1),
            record {
              candidate = w.0.candidate;
              columns = w.0.columns;
              passes = record {
                optimal = optimal_shown last whole w.0 tests.0;
                within = within_shown last whole w.0 tests.0;
                of_kind = refl;
              };
            },
          ),
        )

    read_prefix : (T : List (List Sym)) (n : ℕ) → IsOptimal problem T → n ≤ length T
        → (m : ℕ) × (Leads states 0 (take n T) m × Contains (numbers_of states) m × IsNodeOf problem nodes m
        (kind_of problem last (take n T)))
    read_prefix T n o l =
        let parts : take n T ++ drop n T ≡ T = take-append-drop n T in
        let accepted = (sound.accepts T).1 o in
        let way = leads_parts states (take n T) (drop n T) 0 accepted.last
        (subst (λ v. Leads states 0 v accepted.last) (sym parts) accepted.leads) in
        let there = read_at problem stages split certified.well_formed over counts (certified.each_stage last whole)
        states certified.automaton (take n T) way.0 way.1.0 in
        (way.0, (way.1.0, there.state, there.tells))

    right_arcs : All (λ state. AreRightArcs problem.tiers.width (numbers_of states) state.arcs.items) states
    right_arcs i d l =
        let z : StateLine = get_or states i d in
        let tests = and_parts _ _ (passes_at state_value arcs_pass states arcs z (Contains-get_or states i d l)) in
        record {
          apart = certified.automaton.once i d l;
          filled = All-from_members (λ arc. (column : List Sym) × IsTrue (has arc.class column)) z.arcs.items
              (λ arc c. (first_column (sets_of arc.class), passes_at arc_value is_filled z.arcs.items tests.1 arc c));
          one_width = sorted.one_width i d l;
          targets = certified.automaton.targets i d l;
          in_order = sorted_seen arc_value arc_order z.arcs.items
              ((Decides-ascends arc_order (map arc_value z.arcs.items)).0 tests.0);
        }

    automaton_right : IsRightAutomaton problem nodes states
    automaton_right = record {
      ascending = sorted.ascending;
      passed = passed_state;
      accepts = sound.accepts;
      reads = read_prefix;
      arcs = right_arcs;
    }

  pub right_from : (of_stages : ℕ → List Shown) (of_states : List Shown)
      → is_right problem counts answer.example (nodes_seen problem stages) (map state_value states) of_stages of_states
      ≡ true
      → IsRight problem answer
  right_from of_stages of_states h =
      let first = and_parts _ _ h in
      let second = and_parts _ _ first.1 in
      let third = and_parts _ _ second.1 in
      let shown_stages = (Decides-below
      (λ r. all_shown (shows_node problem counts r) (nodes_seen problem stages r) (of_stages r))
      (λ r. all_shown (shows_node problem counts r) (nodes_seen problem stages r) (of_stages r) ≡ true)
      (λ r. Decides-true (all_shown (shows_node problem counts r) (nodes_seen problem stages r) (of_stages r)))
      (last_stage problem + 1)).0 first.0 in
      record {
        form = certified.form;
        counts = sound.counts;
        example = record {
          member = sound.example;
          least = λ U o.
              let accepted = (sound.accepts U).1 o in
              first_read states answer.example U 0 accepted.last third.0 accepted.leads accepted.final;
        };
        stage_count = certified.stage_count;
        each_stage = λ r l. stage_right r l (of_stages r) (shown_stages r (omega arith));
        automaton = automaton_right of_states second.0 third.1;
      }

  -- An answer is not right if a candidate with its counts comes before its example.
  pub not_first : (U : List (List Sym)) → IsCandidate problem U → counts_on problem U ≡ counts
      → is_le (timeline_cmp answer.example U) ≡ false → IsRight problem answer → ⊥
  not_first U c e before right =
      let optimal : IsOptimal problem U = like_optimal problem last answer.example U (told last whole).shares c
      (ap (take last) (e ∙ certified.counts)) in
      false≢true (sym before ∙ right.example.least U optimal)
