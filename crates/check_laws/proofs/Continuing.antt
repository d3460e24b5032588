-- Prefixes along which the potentials of a right answer fall go on to optimal candidates.
use Rattle.std.proofs.Common.{◌≡◌, ℕ, zero, suc, ◌-◌, ◌<◌, ◌≤◌, List, [], ◌∷◌, ◌++◌, sym, ap, ◌∙◌, subst, arith}
use Rattle.std.proofs.{Common.{inl, inr}, lemmas.Bool.cases_lt, lemmas.List.Elements.All-contains}
use Rattle.std.specs.List.{AllByRecursion}
use Rattle.tier_core.specs.{declared.sym.Sym.Sym, Kinds.PrefixKind}
use Rattle.violation.specs.Candidates.{IsForm, IsCandidate, IsOptimalFor, counts_on}
use Rattle.violation.specs.{Conditions.{AreSplit, IsOverTiers}, Prefixes.{kind_of, kind_of_bits}}
use Rattle.violation.specs.{Stages.{IsKindOfStage, IsRemaining}, Walks.BeginsCandidate}
use Rattle.violation.specs.Problems.{Problem, last_stage}
use Rattle.violation.proofs.{CompletionLemmas.completed, CostLemmas.exchange, PrefixLemmas.IsBegun}
use Rattle.violation.proofs.{StageLemmas.{all_optimal, over_first}, WalkLemmas.{begun_of, begun_next}}
use Rattle.violation.proofs.{WalkSums.walk_cost, FewerStages.{same_fewer, least_rest}}
use Rattle.answer_text.specs.{declared.answer.Answer.Answer, declared.stage.Node.Node, Right.{nodes_at, IsRight}}
use Rattle.answer_text.specs.Certified.{Lists, IsKeptBelow, IsCertifiedStage}
use Rattle.check_laws.proofs.{Listing.{lists_kind, kind_listed, first_listed}, Potentials.{FallsAlong, stage_at}}
use Rattle.check_laws.proofs.Potentials.{over_at, falls_from_tight, falls_parts, falls_joined, listed_on, rest_cost}
use Rattle.check_laws.proofs.{Potentials.falls_from_sum, Joining.falls_alike, Optima.{AllFall, AreTold, all_told}}
use Rattle.check_laws.proofs.Rests.{HasRest, rest_some}

-- a right answer for a grammar and its form
pub record IsGiven (problem : Problem) (answer : Answer) : Type 0 where
  pub split : AreSplit problem.tiers
  pub over : AllByRecursion (IsOverTiers problem.tiers.width) problem.constraints
  pub form : IsForm problem.tiers problem.form
  pub right : IsRight problem answer

module _ (problem : Problem) (answer : Answer) (given : IsGiven problem answer) where
  pub counts_are : answer.counts.items ≡ counts_on problem answer.example
  counts_are = sym (given.right.counts.shared answer.example given.right.example.member)

  pub remains : (r : ℕ) → r ≤ last_stage problem → (k : PrefixKind) (p : ℕ) → Lists problem answer.stages.items r k p
      → IsRemaining problem r k p
  remains r w k p l =
      subst (λ m. IsRemaining problem r k m) l.potential
      (subst (λ x. IsRemaining problem r x l.node.potential) l.tells
      (All-contains (λ (node : Node). IsRemaining problem r (kind_of_bits problem r node.kind) node.potential)
      (nodes_at answer.stages.items r) l.node (given.right.each_stage r w).potentials l.listed))

  pub passed_by : (r : ℕ) → r ≤ last_stage problem → (k : PrefixKind) (p : ℕ)
      → Lists problem answer.stages.items r k p → IsKindOfStage problem r k
  passed_by r w k p l = ((given.right.each_stage r w).kinds.members k).0
      (lists_kind problem r answer.stages.items k p l)

  pub listed_by : (r : ℕ) → r ≤ last_stage problem → (k : PrefixKind) → IsKindOfStage problem r k
      → (p : ℕ) × Lists problem answer.stages.items r k p
  listed_by r w k h = kind_listed problem r answer.stages.items k (((given.right.each_stage r w).kinds.members k).1 h)

  pub told_by : (r : ℕ) → r ≤ last_stage problem
      → ((j : ℕ) → 1 ≤ j → j ≤ r → IsCertifiedStage problem answer.counts.items answer.stages.items j)
      → AreTold problem answer.stages.items answer.example r
  told_by = all_told problem answer.stages.items given.split given.form given.over answer.counts.items answer.example
      given.right.example.member.candidate counts_are

  -- where the potentials fall along an optimal candidate, they do so along its prefix and after it
  pub falls_to : (r : ℕ) → AreTold problem answer.stages.items answer.example r → (p q : List (List Sym))
      → IsOptimalFor problem r (p ++ q)
      → (j : ℕ) → 1 ≤ j → j ≤ r
      → FallsAlong problem answer.stages.items j [] p × FallsAlong problem answer.stages.items j p q
  falls_to r told p q o j a b = falls_parts problem answer.stages.items j p [] q
      ((told.optimal (p ++ q) o.candidate).0 o j a b)

  -- such a prefix may take over the rest of an optimal candidate that follows a prefix of its kind
  pub exchanged : (r : ℕ) → r ≤ last_stage problem → AreTold problem answer.stages.items answer.example r
      → (v p q : List (List Sym)) → IsOptimalFor problem r (v ++ q)
      → IsCandidate problem (p ++ q) → kind_of problem r v ≡ kind_of problem r p
      → AllFall problem answer.stages.items r p → IsOptimalFor problem r (p ++ q)
  exchanged r w told v p q o c same f =
      (told.optimal (p ++ q) c).1
      (λ j a b. falls_joined problem answer.stages.items j p [] q (f j a b)
      (falls_alike problem answer.stages.items given.split given.form given.over j (omega arith) q v p o.candidate c
      (same_fewer problem j r b v p same) (falls_to r told v q o j a b).1))

  -- a kept move goes on from an optimal candidate's prefix, and the potentials fall along the longer prefix too
  pub kept_longer : (b s r : ℕ) → b ≤ s → s ≤ last_stage problem → ((j : ℕ) → 1 ≤ j → j ≤ b → j < r)
      → AreTold problem answer.stages.items answer.example b
      → (v q : List (List Sym)) → IsOptimalFor problem b (v ++ q) → (column : List Sym)
      → IsKeptBelow problem answer.stages.items r (kind_of problem s v) column
      → BeginsCandidate problem (v ++ column ∷ []) × AllFall problem answer.stages.items b (v ++ column ∷ [])
  kept_longer b s r few w under told v q o column kept =
      let begun : IsBegun problem (v ++ column ∷ []) =
      begun_next problem s given.split given.form
      (over_at problem answer.stages.items given.split given.form given.over s w) v column
      (begun_of problem v q o.candidate) kept.fits in
      let more : BeginsCandidate problem (v ++ column ∷ []) = completed problem given.split given.form
      (v ++ column ∷ []) begun in (
        more,
        λ j a l. falls_joined problem answer.stages.items j v [] (column ∷ []) (falls_to b told v q o j a l).0 (
          falls_from_tight problem answer.stages.items given.split given.form given.over j s
              (omega arith) w v column more (kept.tight j a (under j a l)),
          tt,
        ),
      )

  -- what follows a prefix of the same kind makes a candidate
  pub swapped : (r : ℕ) → r ≤ last_stage problem → (v p q : List (List Sym)) → BeginsCandidate problem p
      → IsCandidate problem (v ++ q) → kind_of problem r v ≡ kind_of problem r p → IsCandidate problem (p ++ q)
  swapped r w v p q begins c same =
      exchange problem r given.split given.form
      (over_first problem r (stage_at problem answer.stages.items given.split given.form given.over r w))
      p begins.0 v q begins.1 c (sym same)

  -- one stage more
  module _ (s : ℕ) (ranked : 1 ≤ s) (within : s ≤ last_stage problem)
      (certified : (j : ℕ) → 1 ≤ j → j ≤ s → IsCertifiedStage problem answer.counts.items answer.stages.items j)
      (p : List (List Sym)) (begins : BeginsCandidate problem p) (falls : AllFall problem answer.stages.items s p) where
    last_certified : IsCertifiedStage problem answer.counts.items answer.stages.items s
    last_certified = certified s ranked (omega arith)

    told_before : AreTold problem answer.stages.items answer.example (s - 1)
    told_before = told_by (s - 1) (omega arith) (λ j a b. certified j a (omega arith))

    here : (e : ℕ) × Lists problem answer.stages.items s (kind_of problem s p) e
    here =
        listed_on problem answer.stages.items given.split given.form given.over answer.counts.items s within
        last_certified p [] begins.0 begins.1
        (λ j a b. falls j a (omega arith))
        (first_listed problem s answer.stages.items (kind_of problem s []) last_certified.first)

    rest : HasRest problem s (stage_at problem answer.stages.items given.split given.form given.over s within)
        (kind_of problem s p) here.0
    rest =
        rest_some problem s (stage_at problem answer.stages.items given.split given.form given.over s within) ranked
        (kind_of problem s p) here.0
        (least_rest problem s (kind_of problem s p) here.0 ranked
        (remains s within (kind_of problem s p) here.0 here.1))

    candidate : IsCandidate problem (p ++ rest.rest)
    candidate = swapped s within rest.before p rest.rest begins rest.optimal.candidate rest.of_kind

    after : (j : ℕ) → 1 ≤ j → j < s → FallsAlong problem answer.stages.items j p rest.rest
    after j a b =
        falls_alike problem answer.stages.items given.split given.form given.over j
        (omega arith) rest.rest rest.before p rest.optimal.candidate candidate
        (same_fewer problem j s (omega arith) rest.before p rest.of_kind)
        (falls_to (s - 1) told_before rest.before rest.rest rest.optimal j a (omega arith)).1

    pub goes_on_more : (q : List (List Sym)) × IsOptimalFor problem s (p ++ q)
    goes_on_more =
        let sum : rest_cost problem answer.stages.items given.split given.form given.over answer.counts.items s within
        last_certified ranked p rest.rest ≡ here.0 =
        ap (λ k. walk_cost problem s (stage_at problem answer.stages.items given.split given.form given.over s within)
        (s - 1) k rest.rest) (sym rest.of_kind) ∙ rest.costs in
        let last : FallsAlong problem answer.stages.items s p rest.rest =
        falls_from_sum problem answer.stages.items given.split given.form given.over answer.counts.items s within
        last_certified ranked rest.rest p here.0 candidate here.1 after sum in (
          rest.rest,
          ((told_by s within certified).optimal (p ++ rest.rest) candidate).1
              (λ j a b. falls_joined problem answer.stages.items j p [] rest.rest (falls j a b)
              (elim (cases_lt j s) [
                | inl l ↦ after j a l
                | inr l ↦ (let same : s ≡ j = omega arith in subst
                    (λ i. FallsAlong problem answer.stages.items i p rest.rest) same last)
              ])),
        )

  -- A prefix along which the potentials of the stages up to s fall goes on to an s-optimal candidate.
  pub goes_on : (s : ℕ) → s ≤ last_stage problem
      → ((j : ℕ) → 1 ≤ j → j ≤ s → IsCertifiedStage problem answer.counts.items answer.stages.items j)
      → (p : List (List Sym)) → BeginsCandidate problem p → AllFall problem answer.stages.items s p
      → (q : List (List Sym)) × IsOptimalFor problem s (p ++ q)
  goes_on zero w certified p begins falls = (begins.0, all_optimal problem (p ++ begins.0) begins.1)
  goes_on (suc i) w certified p begins falls = goes_on_more (suc i) (omega arith) w certified p begins falls
