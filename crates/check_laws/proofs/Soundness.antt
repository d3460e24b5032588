-- A certified answer is sound.
use Rattle.std.proofs.Common.{◌≡◌, ◌≢◌, ◌↔◌, ℕ, ◌-◌, ◌≤◌, List, [], ◌++◌, take, drop, length, get_or, sym, ap, ◌∙◌}
use Rattle.std.proofs.{Common.{subst, arith, AllPairs, Contains}, lemmas.List.{length-map, take-append-drop}}
use Rattle.std.proofs.lemmas.Map.Keys.{below_from_sorted}
use Rattle.std.specs.{List.AllByRecursion, List.Sorted.IsStrictlySortedBy, Ordering.nat_cmp}
use Rattle.tier_core.specs.{declared.sym.Sym.Sym, declared.constraint.Constraint.Constraint, Kinds.PrefixKind}
use Rattle.tier_core.specs.Tiers.{Tiers}
use Rattle.violation.specs.{Candidates.{IsOptimal, IsLeastVector}, Conditions.{AreSplit, IsOverTiers}}
use Rattle.violation.specs.{Counts.violations_of, Prefixes.kind_of, Stages.IsKindOfStage}
use Rattle.violation.specs.Problems.{Problem, last_stage}
use Rattle.violation.proofs.{LeastVector.vector_of_numbers, CutCandidates.candidate_cut}
use Rattle.answer_text.specs.{declared.answer.Answer.Answer, Acceptance.Accepts}
use Rattle.answer_text.specs.Right.{nodes_at, kinds_at, numbers_of}
use Rattle.answer_text.specs.{Certified.{IsCertifiedStage, AreStatesInOrder, IsCertified}, Sound.IsSound}
use Rattle.check_laws.proofs.{Listing.{lists_kind, first_listed}, Potentials.{FallsAlong, falls_parts, listed_on}}
use Rattle.check_laws.proofs.{Optima.{AreTold, all_told}, Reading.{accepted_falls, falls_accepted}}

-- numbers that ascend differ
pub numbers_apart : (ns : List ℕ) → IsStrictlySortedBy nat_cmp ns → AllPairs (λ m n. m ≢ n) ns
numbers_apart ns sorted i j d l w e = absurd (omega (arith, below_from_sorted ns i j d sorted l w, e))

module _ (problem : Problem) (answer : Answer) (split : AreSplit problem.tiers)
    (over : AllByRecursion (IsOverTiers problem.tiers.width) problem.constraints)
    (certified : IsCertified problem answer) where
  told : (r : ℕ) → r ≤ last_stage problem → AreTold problem answer.stages.items answer.example r
  told r w =
      all_told problem answer.stages.items split certified.well_formed over answer.counts.items answer.example
      certified.example certified.counts r w
      (λ j a b. certified.each_stage j (omega arith))

  last_told : AreTold problem answer.stages.items answer.example (last_stage problem)
  last_told = told (last_stage problem) (omega arith)

  last_certified : IsCertifiedStage problem answer.counts.items answer.stages.items (last_stage problem)
  last_certified = certified.each_stage (last_stage problem) (omega arith)

  accepts : (T : List (List Sym)) → Accepts answer.automaton.states.items T ↔ IsOptimal problem T
  accepts T = (
    λ a.
        let f = accepted_falls problem answer.stages.items split certified.well_formed over answer.counts.items
        last_certified answer.automaton.states.items certified.automaton T a in
        (last_told.optimal T f.0).1 f.1,
    λ o. falls_accepted problem answer.stages.items split certified.well_formed over answer.counts.items
        last_certified answer.automaton.states.items certified.automaton T o.candidate
        ((last_told.optimal T o.candidate).0 o),
  )

  least_counts : IsLeastVector problem answer.counts.items
  least_counts =
      vector_of_numbers problem answer.example answer.counts.items last_told.shares
      (ap length certified.counts ∙ length-map problem.constraints (λ c. violations_of c answer.example))
      (λ r a b. ap (λ (v : List ℕ). get_or v (r - 1) 0) (sym certified.counts))

  -- a kind of the stage is that of a prefix whose kinds are all listed
  each_kind : (r : ℕ) → r ≤ last_stage problem → (k : PrefixKind) → IsKindOfStage problem r k
      → Contains (kinds_at problem r (nodes_at answer.stages.items r)) k
  each_kind r w k passed =
      let T : List (List Sym) = passed.candidate in
      let n : ℕ = passed.columns in
      let o = passed.passes.optimal in
      let parts : take n T ++ drop n T ≡ T = take-append-drop n T in
      let falls = ((told (r - 1) (omega arith)).optimal T o.candidate).0 o in
      let here = listed_on problem answer.stages.items split certified.well_formed over answer.counts.items r w
      (certified.each_stage r w) (take n T) [] (drop n T)
      (candidate_cut problem T n o.candidate)
      (λ j a b. (falls_parts problem answer.stages.items j (take n T) [] (drop n T)
      (subst (FallsAlong problem answer.stages.items j []) (sym parts) (falls j a (omega arith)))).0)
      (first_listed problem r answer.stages.items (kind_of problem r []) (certified.each_stage r w).first) in
      subst (Contains (kinds_at problem r (nodes_at answer.stages.items r))) passed.passes.of_kind
      (lists_kind problem r answer.stages.items (kind_of problem r (take n T)) here.0 here.1)

  pub sound_from_certified : AreStatesInOrder problem.tiers.width answer.automaton.states.items → IsSound problem answer
  sound_from_certified states = record {
    form = certified.form;
    accepts = accepts;
    counts = least_counts;
    example = last_told.shares;
    each_kind = each_kind;
    distinct = numbers_apart (numbers_of answer.automaton.states.items) states.ascending;
    arcs = λ i d l. record {
      apart = certified.automaton.once i d l;
      one_width = states.one_width i d l;
      targets = certified.automaton.targets i d l;
    };
  }
