-- The stages of a right answer are certified.
use Rattle.std.proofs.Common.{◌≡◌, ℕ, zero, suc, ◌+◌, ◌-◌, ◌<◌, ◌≤◌, IsTrue, List, [], ◌∷◌, ◌++◌, take, drop}
use Rattle.std.proofs.Common.{get_or, refl, sym, ap, ◌∙◌, subst, arith, inl, inr, append-nil, append_assoc, All}
use Rattle.std.proofs.{Common.{Contains, Some, slice_get}, lemmas.Bool.cases_lt, lemmas.List.length-map}
use Rattle.tier_core.specs.{declared.sym.Sym.Sym, Kinds.{PrefixKind, kind_order}}
use Rattle.violation.specs.{Candidates.{IsCandidate, IsOptimalFor, counts_on, count_at}, Counts.violations_of}
use Rattle.violation.specs.{Moves.{next_kind, cost_of, cut_kind, is_final}, Prefixes.kind_of}
use Rattle.violation.specs.Stages.{IsStage, IsPassed, IsKindOfStage, IsLeastRest, IsRemaining}
use Rattle.violation.specs.{Walks.BeginsCandidate, Problems.{Problem, last_stage}}
use Rattle.violation.proofs.{CutLemmas.cut_kind-kind_of, PrefixLemmas.IsBegun, StageLemmas.optimal_for_fewer}
use Rattle.violation.proofs.{VectorLemmas.{both_equal, at_most_last}, WalkLemmas.{begun_of, final_candidate}}
use Rattle.violation.proofs.WalkSums.{none_at, walk_cost, walk_step, violations_walk}
use Rattle.violation.proofs.{FewerStages.{same_fewer, least_rest}, CutCandidates.{prefix_passed, optimal_cut}}
use Rattle.answer_text.specs.{declared.answer.Answer.Answer, Right.{nodes_at, kinds_at}}
use Rattle.answer_text.specs.Certified.{Lists, IsKeptBelow, IsPossibleKind, start_potential, IsCertifiedStage}
use Rattle.tier_core.proofs.Members.{All-from_members}
use Rattle.check_laws.proofs.{Potentials.{stage_at, over_at, goes_to}, Optima.{start_count, AllFall, AreTold}}
use Rattle.check_laws.proofs.{Rests.{HasRest, rest_some, rest_least}, Continuing.{IsGiven, counts_are, remains}}
use Rattle.check_laws.proofs.Continuing.{passed_by, listed_by, told_by, falls_to, kept_longer, exchanged, swapped}
use Rattle.check_laws.proofs.{Continuing.goes_on, Starts.{first_is, none_before_start, possible}}

-- at stage 0 nothing remains
none_remains : (problem : Problem) (r : ℕ) (k : PrefixKind) (p : ℕ) → r ≤ 0 → IsRemaining problem r k p → p ≡ 0
none_remains problem zero k p l h = h
none_remains problem (suc i) k p l h = absurd (omega arith)

start_none : (counts : List ℕ) (r : ℕ) → r ≤ 0 → start_potential counts r ≡ 0
start_none counts zero l = refl
start_none counts (suc i) l = absurd (omega arith)

module _ (problem : Problem) (answer : Answer) (given : IsGiven problem answer) where
  -- what is passed, in two parts
  pub parted_passed : (r s : ℕ) (k : PrefixKind) → IsPassed problem r s k
      → (v : List (List Sym)) × ((q : List (List Sym)) ×
      (IsOptimalFor problem r (v ++ q) × (kind_of problem s v ≡ k)))
  parted_passed r s k passed =
      let T : List (List Sym) = passed.candidate in
      let n : ℕ = passed.columns in (
        take n T,
        (
          drop n T,
          (
            optimal_cut problem T n r passed.passes.optimal,
            passed.passes.of_kind,
          ),
        ),
      )

  pub example_optimal : (r : ℕ) → r ≤ last_stage problem → IsOptimalFor problem r answer.example
  example_optimal r w = optimal_for_fewer problem r (last_stage problem) w answer.example given.right.example.member

  module _ (r : ℕ) (within : r ≤ last_stage problem)
      (before : (j : ℕ) → 1 ≤ j → j < r → IsCertifiedStage problem answer.counts.items answer.stages.items j) where
    abbrev kinds : List PrefixKind
    kinds = kinds_at problem r (nodes_at answer.stages.items r)

    earlier : (j : ℕ) → 1 ≤ j → j ≤ r - 1 → IsCertifiedStage problem answer.counts.items answer.stages.items j
    earlier j a b = before j a (omega arith)

    told : AreTold problem answer.stages.items answer.example (r - 1)
    told = told_by problem answer given (r - 1) (omega arith) earlier

    stage : IsStage problem r
    stage = stage_at problem answer.stages.items given.split given.form given.over r within

    member_passed : (k : PrefixKind) → Contains kinds k → IsKindOfStage problem r k
    member_passed k m = ((given.right.each_stage r within).kinds.members k).0 m

    listed_passed : (k : PrefixKind) (p : ℕ) → Lists problem answer.stages.items r k p → IsKindOfStage problem r k
    listed_passed = passed_by problem answer given r within

    begun : (v q : List (List Sym)) → IsOptimalFor problem (r - 1) (v ++ q) → IsBegun problem v
    begun v q o = begun_of problem v q o.candidate

    kinds_possible : All (IsPossibleKind problem r) kinds
    kinds_possible = All-from_members (IsPossibleKind problem r) kinds (λ k m.
        let h = parted_passed (r - 1) r k (member_passed k m) in
        subst (IsPossibleKind problem r) h.1.1.1
        (possible problem given.split given.form r h.0 (begun h.0 h.1.0 h.1.1.0)
        (over_at problem answer.stages.items given.split given.form given.over r within)))

    cuts_listed : 1 ≤ r → All (λ k. Contains (kinds_at problem (r - 1) (nodes_at answer.stages.items (r - 1)))
        (cut_kind problem (r - 1) k)) kinds
    cuts_listed ranked = All-from_members _ kinds (λ k m.
        let h = parted_passed (r - 1) r k (member_passed k m) in
        let fewer : IsOptimalFor problem (r - 1 - 1) (h.0 ++ h.1.0) = optimal_for_fewer problem (r - 1 - 1) (r - 1)
        (omega arith) (h.0 ++ h.1.0) h.1.1.0 in
        subst (Contains (kinds_at problem (r - 1) (nodes_at answer.stages.items (r - 1))))
        (sym (cut_kind-kind_of problem (r - 1) r (omega arith) h.0) ∙ ap (cut_kind problem (r - 1)) h.1.1.1)
        (((given.right.each_stage (r - 1) (omega arith)).kinds.members (kind_of problem (r - 1) h.0)).1
        (prefix_passed problem (r - 1 - 1) (r - 1) h.0 h.1.0 fewer refl)))

    start_first : slice_get kinds 0 ≡ Some (kind_of problem r [])
    start_first =
        first_is kinds (given.right.each_stage r within).kinds.ascending (kind_of problem r [])
        (((given.right.each_stage r within).kinds.members (kind_of problem r [])).1
        (prefix_passed problem (r - 1) r [] answer.example (example_optimal (r - 1) (omega arith)) refl))
        (λ k m e.
        let h = parted_passed (r - 1) r k (member_passed k m) in
        none_before_start problem r
        (over_at problem answer.stages.items given.split given.form given.over r within) h.0
        (ap (λ l. kind_order l (kind_of problem r [])) h.1.1.1 ∙ e))

    -- at a final kind nothing remains
    final_none : (k : PrefixKind) (p : ℕ) → Lists problem answer.stages.items r k p → IsTrue (is_final problem k)
        → p ≡ 0
    final_none k p l f =
        let remain : IsRemaining problem r k p = remains problem answer given r within k p l in
        let h = parted_passed (r - 1) r k (listed_passed k p l) in
        elim (cases_lt 0 r) [
          | inr none ↦ none_remains problem r k p none remain
          | inl ranked ↦
              (let v : List (List Sym) = h.0 in
              let ended : IsCandidate problem v =
              final_candidate problem r given.split given.form
              (over_at problem answer.stages.items given.split given.form given.over r within) v
              (begun v h.1.0 h.1.1.0) (ap (is_final problem) h.1.1.1 ∙ f) in
              let o : IsOptimalFor problem (r - 1) v = (told.optimal v ended).1
              (λ j a b. (falls_to problem answer given (r - 1) told v h.1.0 h.1.1.0 j a b).0) in
              let low : p ≤ walk_cost problem r stage (r - 1) (kind_of problem r v) [] =
              rest_least problem r stage ranked k p (least_rest problem r k p ranked remain) v []
              (subst (IsOptimalFor problem (r - 1)) (sym (append-nil v)) o) h.1.1.1 in
              omega (arith, low, none_at (take r problem.constraints) (r - 1)))
        ]

    module _ (v q : List (List Sym)) (o : IsOptimalFor problem (r - 1) (v ++ q)) (p : ℕ)
        (here : Lists problem answer.stages.items r (kind_of problem r v) p)
        (column : List Sym) (kept : IsKeptBelow problem answer.stages.items r (kind_of problem r v) column) where
      longer : BeginsCandidate problem (v ++ column ∷ []) × AllFall problem answer.stages.items (r - 1)
          (v ++ column ∷ [])
      longer = kept_longer problem answer given (r - 1) r r (omega arith) within
          (λ j a b. omega arith) told v q o column kept

      more : BeginsCandidate problem (v ++ column ∷ [])
      more = longer.0

      fall : AllFall problem answer.stages.items (r - 1) (v ++ column ∷ [])
      fall = longer.1

      next_is : next_kind problem r (kind_of problem r v) column ≡ kind_of problem r (v ++ column ∷ [])
      next_is = goes_to problem answer.stages.items given.split given.form given.over r within v column more

      -- some optimal candidate goes on from the longer prefix
      next_listed : (n : ℕ) × Lists problem answer.stages.items r (kind_of problem r (v ++ column ∷ [])) n
      next_listed =
          let far = goes_on problem answer given (r - 1) (omega arith) earlier (v ++ column ∷ []) more fall in
          listed_by problem answer given r within (kind_of problem r (v ++ column ∷ []))
          (prefix_passed problem (r - 1) r (v ++ column ∷ []) far.0 far.1 refl)

      remaining : IsRemaining problem r (kind_of problem r v) p
      remaining = remains problem answer given r within (kind_of problem r v) p here

      -- what remains here is at most the cost and what remains there
      module _ (ranked : 1 ≤ r) where
        rest : HasRest problem r stage (kind_of problem r (v ++ column ∷ [])) next_listed.0
        rest =
            let far : PrefixKind = kind_of problem r (v ++ column ∷ []) in
            rest_some problem r stage ranked far next_listed.0
            (least_rest problem r far next_listed.0 ranked
            (remains problem answer given r within far next_listed.0 next_listed.1))

        joined : IsOptimalFor problem (r - 1) ((v ++ column ∷ []) ++ rest.rest)
        joined =
            exchanged problem answer given (r - 1) (omega arith) told rest.before
            (v ++ column ∷ []) rest.rest rest.optimal
            (swapped problem answer given r within rest.before
            (v ++ column ∷ []) rest.rest more rest.optimal.candidate rest.of_kind)
            (same_fewer problem (r - 1) r (omega arith) rest.before (v ++ column ∷ []) rest.of_kind) fall

        low : p ≤ walk_cost problem r stage (r - 1) (kind_of problem r v) (column ∷ rest.rest)
        low =
            rest_least problem r stage ranked (kind_of problem r v) p
            (least_rest problem r (kind_of problem r v) p ranked remaining)
            v (column ∷ rest.rest) (subst (IsOptimalFor problem (r - 1))
            (append_assoc v (column ∷ []) rest.rest) joined) refl

        costs_there : walk_cost problem r stage (r - 1) (kind_of problem r v) (column ∷ rest.rest)
            ≡ cost_of problem r (kind_of problem r v) column + next_listed.0
        costs_there =
            walk_step problem r stage (r - 1) (kind_of problem r v) column rest.rest
            ∙ ap (λ k. cost_of problem r (kind_of problem r v) column + walk_cost problem r stage (r - 1) k rest.rest)
            (next_is ∙ sym rest.of_kind)
            ∙ ap (λ n. cost_of problem r (kind_of problem r v) column + n) rest.costs

        no_more_ranked : p ≤ cost_of problem r (kind_of problem r v) column + next_listed.0
        no_more_ranked = omega (arith, low, costs_there)

      no_more : p ≤ cost_of problem r (kind_of problem r v) column + next_listed.0
      no_more = elim (cases_lt 0 r) [
        | inr none ↦ (let zero_here : p ≡ 0 = none_remains problem r
            (kind_of problem r v) p none remaining in omega arith)
        | inl ranked ↦ no_more_ranked ranked
      ]

      step_listed : (n : ℕ) × (Lists problem answer.stages.items r (next_kind problem r (kind_of problem r v) column) n
          ×
          (p ≤ cost_of problem r (kind_of problem r v) column + n))
      step_listed = (
        next_listed.0,
        (
          subst (λ k. Lists problem answer.stages.items r k next_listed.0)
              (sym next_is) next_listed.1,
          no_more,
        ),
      )

    closed_on : (k : PrefixKind) (p : ℕ) (column : List Sym) → Lists problem answer.stages.items r k p
        → IsKeptBelow problem answer.stages.items r k column
        → (n : ℕ) × (Lists problem answer.stages.items r (next_kind problem r k column) n ×
        (p ≤ cost_of problem r k column + n))
    closed_on k p column l kept =
        let h = parted_passed (r - 1) r k (listed_passed k p l) in
        let same : kind_of problem r h.0 ≡ k = h.1.1.1 in
        let next = step_listed h.0 h.1.0 h.1.1.0 p
        (subst (λ x. Lists problem answer.stages.items r x p) (sym same) l) column
        (subst (λ x. IsKeptBelow problem answer.stages.items r x column) (sym same) kept) in (
          next.0,
          (
            subst (λ x. Lists problem answer.stages.items r (next_kind problem r x column) next.0) same next.1.0,
            subst (λ x. p ≤ cost_of problem r x column + next.0) same next.1.1,
          ),
        )

    -- from the start the count of the constraint remains
    module _ (p : ℕ) (here : Lists problem answer.stages.items r (kind_of problem r []) p) where
      remaining_first : IsRemaining problem r (kind_of problem r []) p
      remaining_first = remains problem answer given r within (kind_of problem r []) p here

      best : IsOptimalFor problem (r - 1) answer.example
      best = example_optimal (r - 1) (omega arith)

      module _ (ranked : 1 ≤ r) where
        least : IsLeastRest problem r (kind_of problem r []) p
        least = least_rest problem r (kind_of problem r []) p ranked remaining_first

        low_first : p ≤ walk_cost problem r stage (r - 1) (kind_of problem r []) answer.example
        low_first = rest_least problem r stage ranked (kind_of problem r []) p least [] answer.example best refl

        -- a candidate that has no more, which goes on from the start as another does from the kind of the start
        whole_rest : HasRest problem r stage (kind_of problem r []) p
        whole_rest = rest_some problem r stage ranked (kind_of problem r []) p least

        other : IsOptimalFor problem (r - 1) whole_rest.rest
        other =
            exchanged problem answer given (r - 1)
            (omega arith) told whole_rest.before [] whole_rest.rest whole_rest.optimal
            (swapped problem answer given r within whole_rest.before [] whole_rest.rest
            (answer.example, best.candidate) whole_rest.optimal.candidate whole_rest.of_kind)
            (same_fewer problem (r - 1) r (omega arith) whole_rest.before [] whole_rest.of_kind) (λ j a b. tt)

        other_count : count_at problem r whole_rest.rest ≡ p
        other_count =
            violations_walk problem r stage ranked whole_rest.rest other.candidate
            ∙ ap (λ k. walk_cost problem r stage (r - 1) k whole_rest.rest) (sym whole_rest.of_kind) ∙ whole_rest.costs

        high : count_at problem r answer.example ≤ count_at problem r whole_rest.rest
        high =
            let E : List (List Sym) = answer.example in
            let U : List (List Sym) = whole_rest.rest in
            at_most_last r ranked (counts_on problem E) (counts_on problem U)
            (omega (arith, within, length-map problem.constraints (λ c. violations_of c E)))
            (omega (arith, within, length-map problem.constraints (λ c. violations_of c U)))
            ((example_optimal r within).least U other.candidate)
            (both_equal (take (r - 1) (counts_on problem E)) (take (r - 1) (counts_on problem U))
            (best.least U other.candidate) (other.least E best.candidate))

        counted : p ≡ start_potential answer.counts.items r
        counted =
            let total : p ≡ count_at problem r answer.example = omega (
              arith,
              low_first,
              high,
              other_count,
              violations_walk problem r stage ranked answer.example best.candidate,
            ) in
            total ∙ ap (λ (ns : List ℕ). get_or ns (r - 1) 0) (sym (counts_are problem answer given))
            ∙ sym (start_count answer.counts.items r ranked)

      start_count_is : p ≡ start_potential answer.counts.items r
      start_count_is = elim (cases_lt 0 r) [
        | inr none ↦ none_remains problem r (kind_of problem r []) p none remaining_first
            ∙ sym (start_none answer.counts.items r none)
        | inl ranked ↦ counted ranked
      ]

    pub stage_certified : IsCertifiedStage problem answer.counts.items answer.stages.items r
    stage_certified = record {
      kinds = kinds_possible;
      ascending = (given.right.each_stage r within).kinds.ascending;
      cuts = cuts_listed;
      first = start_first;
      final = final_none;
      goes_on = closed_on;
      start = start_count_is;
    }

  -- one stage after the other
  stages_below : (n : ℕ) → (j : ℕ) → j < n → j ≤ last_stage problem
      → IsCertifiedStage problem answer.counts.items answer.stages.items j
  stages_below zero j l w = absurd (omega arith)
  stages_below (suc n) j l w = elim (cases_lt j n) [
    | inl less ↦ stages_below n j less w
    | inr more ↦ (let same : n ≡ j = omega arith in stage_certified j w
        (λ i a b. stages_below n i (omega arith) (omega arith)))
  ]

  pub all_stages : (r : ℕ) → r ≤ last_stage problem → IsCertifiedStage problem answer.counts.items answer.stages.items r
  all_stages r w = stages_below (suc r) r (omega arith) w
