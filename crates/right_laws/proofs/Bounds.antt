-- Right answers are small.
use Rattle.std.proofs.Common.{◌≡◌, ℕ, ◌<◌, ◌≤◌, List, [], map, take, drop, length, get_or, ap, ◌∙◌, subst, arith}
use Rattle.std.proofs.{Common.{All, Contains}, lemmas.List.{get_or-map, length-map}}
use Rattle.std.proofs.lemmas.List.Elements.{All-contains, All-from_recursion, All-map, All-weaker}
use Rattle.std.proofs.lemmas.List.FromFn.{length-range_with_len}
use Rattle.std.proofs.lemmas.Option.{get_or_from_slice_get, slice_get_within}
use Rattle.std.specs.List.{AllByRecursion, range_with_len}
use Rattle.tier_core.specs.{declared.sym.Sym.Sym, Kinds.PrefixKind}
use Rattle.violation.specs.{Candidates.IsForm, Conditions.{AreSplit, IsOverTiers}, Counts.violations_of}
use Rattle.violation.specs.{Prefixes.{kind_of, kind_of_bits}, Problems.{Problem, last_stage, last_place}}
use Rattle.violation.specs.Stages.{IsKindOfStage, IsRemaining, IsStage}
use Rattle.violation.proofs.{PrefixLemmas.IsBegun, StageLemmas.over_stretches, WalkLemmas.begun_of}
use Rattle.violation.proofs.CutCandidates.{candidate_cut}
use Rattle.answer_text.specs.{declared.answer.Answer.Answer, declared.automaton.StateLine.StateLine}
use Rattle.answer_text.specs.{declared.stage.Node.Node, Right.{IsNodeOf, IsRight, kinds_at, nodes_at, numbers_of}}
use Rattle.kind_laws.specs.Ways.{HasEachPassed}
use Rattle.kind_laws.proofs.{ColumnCosts.whole_few, DirectWays.{first_short, remaining_few}}
use Rattle.tier_core.proofs.{RangeMembers.range_has, Members.{All-from_members, contains_map}}
use Rattle.tier_core.proofs.Differing.{differ_from_pairs, no_longer}
use Rattle.check_laws.proofs.{Starts.possible, Soundness.numbers_apart}
use Rattle.right_laws.specs.Small.{IsSmall}

module _ (problem : Problem) (answer : Answer) (split : AreSplit problem.tiers)
    (over : AllByRecursion (IsOverTiers problem.tiers.width) problem.constraints)
    (form : IsForm problem.tiers problem.form) (right : IsRight problem answer) where
  abbrev nodes : ℕ → List Node
  nodes r = nodes_at answer.stages.items r

  abbrev states : List StateLine
  states = answer.automaton.states.items

  stage_at : (r : ℕ) → r ≤ last_stage problem → IsStage problem r
  stage_at r w = record { split = split; form = form; over = over; within = w }

  few_counts : All (λ n. n ≤ length answer.example) answer.counts.items
  few_counts =
      subst (All (λ n. n ≤ length answer.example)) (right.counts.shared answer.example right.example.member)
      (All-map (λ n. n ≤ length answer.example) (λ c. violations_of c answer.example) problem.constraints
      (All-weaker (IsOverTiers problem.tiers.width) (λ c. violations_of c answer.example ≤ length answer.example)
      (whole_few problem.tiers.width answer.example right.example.member.candidate.well_formed) problem.constraints
      (All-from_recursion (IsOverTiers problem.tiers.width) problem.constraints over)))

  -- ---- states

  -- the kind of a node number of the last stage
  abbrev kind_numbered : ℕ → PrefixKind
  kind_numbered n =
      get_or (kinds_at problem (last_stage problem) (nodes (last_stage problem))) n
      (kind_of problem (last_stage problem) [])

  numbered_is : (n : ℕ) (k : PrefixKind) → IsNodeOf problem (nodes (last_stage problem)) n k → kind_numbered n ≡ k
  numbered_is n k h =
      get_or-map (λ (node : Node). kind_of_bits problem (last_stage problem) node.kind) (nodes (last_stage problem)) n
      h.node (kind_of problem (last_stage problem) [])
      (slice_get_within (nodes (last_stage problem)) n h.node h.numbered)
      ∙ ap (λ (node : Node). kind_of_bits problem (last_stage problem) node.kind)
      (get_or_from_slice_get (nodes (last_stage problem)) n h.node h.node h.numbered)
      ∙ h.tells

  each_passed : HasEachPassed problem (last_stage problem) (last_stage problem) (map kind_numbered (numbers_of states))
  each_passed k passed =
      let read = right.automaton.reads passed.candidate passed.columns passed.passes.optimal passed.passes.within in
      subst (Contains (map kind_numbered (numbers_of states)))
      (numbered_is read.0 (kind_of problem (last_stage problem) (take passed.columns passed.candidate)) read.1.2
      ∙ passed.passes.of_kind)
      (contains_map kind_numbered (numbers_of states) read.0 read.1.1)

  short_example : length answer.example < length states
  short_example =
      let few : last_stage problem ≤ last_stage problem = omega arith in
      omega (
        arith,
        first_short problem (last_stage problem) (stage_at (last_stage problem) few) answer.example right.example
            (map kind_numbered (numbers_of states)) each_passed,
        length-map (numbers_of states) kind_numbered,
        length-map states (λ (state : StateLine). state.node),
      )

  pub number_below : (n : ℕ) → Contains (numbers_of states) n → n < length (nodes (last_stage problem))
  number_below n c =
      let h = right.automaton.passed n c in
      slice_get_within (nodes (last_stage problem)) n h.1.0.node h.1.0.numbered

  few_states : length states ≤ length (nodes (last_stage problem))
  few_states =
      omega (
        arith,
        no_longer (range_with_len 0 (length (nodes (last_stage problem)))) (numbers_of states)
            (λ n c. range_has 0 (length (nodes (last_stage problem))) n (omega arith) (omega (arith, number_below n c)))
            (differ_from_pairs (numbers_of states) (numbers_apart (numbers_of states) right.automaton.ascending)),
        length-range_with_len 0 (length (nodes (last_stage problem))),
        length-map states (λ (state : StateLine). state.node),
      )

  -- ---- nodes

  -- the place of a kind of a stage is in the form
  place_within : (r : ℕ) → r ≤ last_stage problem → (k : PrefixKind) → IsKindOfStage problem r k
      → k.place ≤ last_place problem
  place_within r within k h =
      let p : List (List Sym) = take h.columns h.candidate in
      let q : List (List Sym) = drop h.columns h.candidate in
      let begun : IsBegun problem (take h.columns h.candidate) = begun_of problem p q
      (candidate_cut problem h.candidate h.columns h.passes.optimal.candidate) in
      subst (λ (l : PrefixKind). l.place ≤ last_place problem) h.passes.of_kind
      (possible problem split form r (take h.columns h.candidate) begun
      (over_stretches problem r (stage_at r within))).place

  module _ (r : ℕ) (within : r ≤ last_stage problem) where
    abbrev told : Node → PrefixKind
    told node = kind_of_bits problem r node.kind

    places_within : All (λ node. node.kind.place ≤ last_place problem) (nodes r)
    places_within = All-from_members (λ node. node.kind.place ≤ last_place problem) (nodes r) (λ node c.
        place_within r within (told node)
        (((right.each_stage r within).kinds.members (told node)).0 (contains_map told (nodes r) node c)))

    few_potentials : All (λ node. node.potential < length (nodes r)) (nodes r)
    few_potentials = All-from_members (λ node. node.potential < length (nodes r)) (nodes r) (λ node c.
        omega (
          arith,
          remaining_few problem r (stage_at r within) (kinds_at problem r (nodes r)) (right.each_stage r within).kinds
              (told node) (contains_map told (nodes r) node c) node.potential
              (All-contains (λ (x : Node). IsRemaining problem r (kind_of_bits problem r x.kind) x.potential) (nodes r)
              node (right.each_stage r within).potentials c),
          length-map (nodes r) told,
        ))

  pub small_from_right : IsSmall problem answer
  small_from_right = record {
    counts = few_counts;
    example = short_example;
    states = few_states;
    places = places_within;
    potentials = few_potentials;
  }
