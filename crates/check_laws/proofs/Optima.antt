-- What the stages of a certified answer tell: which candidates are optimal.
use Rattle.std.proofs.Common.{◌≡◌, ◌↔◌, ℕ, zero, suc, ◌-◌, ◌<◌, ◌≤◌, List, [], get_or, refl, sym, ap, ◌∙◌, subst}
use Rattle.std.proofs.{Common.{arith, inl, inr}, lemmas.Bool.cases_lt}
use Rattle.std.specs.List.{AllByRecursion}
use Rattle.tier_core.specs.{declared.sym.Sym.Sym, Tiers.Tiers}
use Rattle.violation.specs.Candidates.{IsForm, IsCandidate, vec, IsOptimalFor, counts_on, count_at}
use Rattle.violation.specs.{Conditions.{AreSplit, IsOverTiers}, Prefixes.kind_of, Problems.{Problem, last_stage}}
use Rattle.violation.proofs.{Ranks.{least_count, optimal_by_count}, StageLemmas.{all_optimal, optimal_for_fewer}}
use Rattle.violation.proofs.WalkSums.{violations_walk}
use Rattle.answer_text.specs.{declared.stage.Stage.Stage, Certified.{Lists, start_potential, IsCertifiedStage}}
use Rattle.check_laws.proofs.Listing.{first_listed}
use Rattle.check_laws.proofs.Potentials.{FallsAlong, stage_at, rest_cost, bound, falls_from_sum, sum_from_falls}

pub start_count : (counts : List ℕ) (r : ℕ) → 1 ≤ r → start_potential counts r ≡ get_or counts (r - 1) 0
start_count counts zero l = absurd (omega arith)
start_count counts (suc i) l = let here : suc i - 1 ≡ i = omega arith in ap (λ (n : ℕ). get_or counts n 0) (sym here)

-- at each stage from 1 to r, the potential falls by just what each column of T costs
abbrev pub AllFall : Problem → List Stage → ℕ → List (List Sym) → Type 0
AllFall problem stages r T = (j : ℕ) → 1 ≤ j → j ≤ r → FallsAlong problem stages j [] T

-- The stages up to r tell which candidates are r-optimal, and the example is one of them.
pub record AreTold (problem : Problem) (stages : List Stage) (example : List (List Sym)) (r : ℕ) : Type 0 where
  pub optimal : (T : List (List Sym)) → IsCandidate problem T → IsOptimalFor problem r T ↔ AllFall problem stages r T
  pub shares : IsOptimalFor problem r example

module _ (problem : Problem) (stages : List Stage) (split : AreSplit problem.tiers)
    (form : IsForm problem.tiers problem.form)
    (over : AllByRecursion (IsOverTiers problem.tiers.width) problem.constraints) (counts : List ℕ)
    (example : List (List Sym)) (candidate : IsCandidate problem example)
    (counted : counts ≡ counts_on problem example) where
  module _ (r : ℕ) (within : r ≤ last_stage problem) (certified : IsCertifiedStage problem counts stages r)
      (ranked : 1 ≤ r) (told : AreTold problem stages example (r - 1)) where
    -- the violations of constraint r
    abbrev count : List (List Sym) → ℕ
    count T = count_at problem r T

    first : (e : ℕ) × Lists problem stages r (kind_of problem r []) e
    first = first_listed problem r stages (kind_of problem r []) certified.first

    first_is : first.0 ≡ count example
    first_is = certified.start first.0 first.1 ∙ start_count counts r ranked
        ∙ ap (λ (v : List ℕ). get_or v (r - 1) 0) counted

    fall_before : (T : List (List Sym)) → IsOptimalFor problem (r - 1) T → (j : ℕ) → 1 ≤ j → j < r
        → FallsAlong problem stages j [] T
    fall_before T o j a b = (told.optimal T o.candidate).0 o j a (omega arith)

    walk : (T : List (List Sym)) → IsCandidate problem T
        → count T ≡ rest_cost problem stages split form over counts r within certified ranked [] T
    walk T c = violations_walk problem r (stage_at problem stages split form over r within) ranked T c

    -- what the constraints before leave has at least the example's count
    at_least : (T : List (List Sym)) → IsOptimalFor problem (r - 1) T → count example ≤ count T
    at_least T o =
        let low : first.0 ≤ rest_cost problem stages split form over counts r within certified ranked [] T =
        bound problem stages split form over counts r within certified ranked T [] first.0 o.candidate first.1
        (fall_before T o) in
        omega (arith, low, first_is, walk T o.candidate)

    -- and with that count it is r-optimal
    with_count : (T : List (List Sym)) → IsOptimalFor problem (r - 1) T → count T ≡ count example
        → IsOptimalFor problem r T
    with_count T o e =
        optimal_by_count problem r within ranked T o (λ U other. omega (arith, e, at_least U other))

    has_count : (T : List (List Sym)) → IsOptimalFor problem r T → count T ≡ count example
    has_count T o =
        let before : IsOptimalFor problem (r - 1) T = optimal_for_fewer problem (r - 1) r (omega arith) T o in
        omega (arith, least_count problem r within ranked T example o told.shares, at_least T before)

    falls_from_optimal : (T : List (List Sym)) → IsOptimalFor problem r T → AllFall problem stages r T
    falls_from_optimal T o j a b =
        let before : IsOptimalFor problem (r - 1) T = optimal_for_fewer problem (r - 1) r (omega arith) T o in
        elim (cases_lt j r) [
          | inl l ↦ fall_before T before j a l
          | inr l ↦
              (let here : r ≡ j = omega arith in
              subst (λ i. FallsAlong problem stages i [] T) here
              (falls_from_sum problem stages split form over counts r within certified ranked T [] first.0 o.candidate
              first.1 (fall_before T before)
              (sym (walk T o.candidate) ∙ has_count T o ∙ sym first_is)))
        ]

    optimal_from_falls : (T : List (List Sym)) → IsCandidate problem T → AllFall problem stages r T
        → IsOptimalFor problem r T
    optimal_from_falls T c f =
        with_count T ((told.optimal T c).1 (λ j a b. f j a (omega arith)))
        (walk T c
        ∙ sum_from_falls problem stages split form over counts r within certified ranked T [] first.0 c first.1
        (f r ranked (omega arith)) ∙ first_is)

    pub told_more : AreTold problem stages example r
    told_more = record {
      optimal = λ T c. (λ o. falls_from_optimal T o, λ f. optimal_from_falls T c f);
      shares = with_count example told.shares refl;
    }

  -- The stages from 1 to r tell the r-optimal candidates where they are certified.
  pub all_told : (r : ℕ) → r ≤ last_stage problem
      → ((j : ℕ) → 1 ≤ j → j ≤ r → IsCertifiedStage problem counts stages j) → AreTold problem stages example r
  all_told zero w s = record {
    optimal = λ T c. (λ o j a b. absurd (omega arith), λ f. all_optimal problem T c);
    shares = all_optimal problem example candidate;
  }
  all_told (suc i) w s =
      let back : suc i - 1 ≡ i = omega arith in
      told_more (suc i) w (s (suc i) (omega arith) (omega arith)) (omega arith)
      (subst (AreTold problem stages example) (sym back)
      (all_told i (omega arith) (λ j a b. s j a (omega arith))))
