-- Potentials bound from below what the rest of a candidate violates.
use Rattle.std.proofs.Common.{◌≡◌, ℕ, ◌+◌, ◌-◌, ◌<◌, ◌≤◌, List, [], ◌∷◌, ◌++◌, take, length, sym, ap, ◌∙◌, subst}
use Rattle.std.proofs.Common.{arith, append-nil, append_assoc}
use Rattle.std.specs.List.{AllByRecursion}
use Rattle.tier_core.specs.{declared.sym.Sym.Sym, declared.constraint.Constraint.Constraint, Tiers.Tiers}
use Rattle.violation.specs.{Candidates.{IsForm, IsCandidate}, Conditions.{AreSplit, IsOverTiers}}
use Rattle.violation.specs.{Moves.{next_kind, cost_of, cut_kind}, Prefixes.{kind_of, stretches}, Stages.IsStage}
use Rattle.violation.specs.{Walks.BeginsCandidate, Problems.{Problem, last_stage}}
use Rattle.violation.proofs.{CutLemmas.cut_kind-kind_of, StageLemmas.over_stretches}
use Rattle.violation.proofs.WalkLemmas.{fits_next, moved_is, candidate_final}
use Rattle.violation.proofs.WalkSums.{none_at, walk_cost, walk_step}
use Rattle.answer_text.specs.{declared.stage.Stage.Stage, Certified.{Lists, IsTightAt, IsKeptBelow, IsCertifiedStage}}
use Rattle.check_laws.proofs.Listing.{one_potential}

-- after the prefix p, the potential of stage j falls by just what the column costs under constraint j
pub record FallsOn (problem : Problem) (stages : List Stage) (j : ℕ) (p : List (List Sym))
    (column : List Sym) : Type 0 where
  pub before : ℕ
  pub after : ℕ
  pub leaves : Lists problem stages j (kind_of problem j p) before
  pub arrives : Lists problem stages j (kind_of problem j (p ++ column ∷ [])) after
  pub falls : before ≡ cost_of problem j (kind_of problem j p) column + after

-- it does so on each of the columns in turn
abbrev pub FallsAlong : Problem → List Stage → ℕ → List (List Sym) → List (List Sym) → Type 0
FallsAlong problem stages j p [] = Unit {0}
FallsAlong problem stages j p (column ∷ q) = FallsOn problem stages j p column × FallsAlong problem stages j
    (p ++ column ∷ []) q

-- walks in two parts
module _ (problem : Problem) (stages : List Stage) where
  pub falls_parts : (j : ℕ) (s p q : List (List Sym)) → FallsAlong problem stages j p (s ++ q)
      → FallsAlong problem stages j p s × FallsAlong problem stages j (p ++ s) q
  falls_parts j [] p q f = (tt, subst (λ v. FallsAlong problem stages j v q) (sym (append-nil p)) f)
  falls_parts j (column ∷ s) p q f =
      let rest = falls_parts j s (p ++ column ∷ []) q f.1 in
      ((f.0, rest.0), subst (λ v. FallsAlong problem stages j v q) (append_assoc p (column ∷ []) s) rest.1)

  pub falls_joined : (j : ℕ) (s p q : List (List Sym)) → FallsAlong problem stages j p s
      → FallsAlong problem stages j (p ++ s) q → FallsAlong problem stages j p (s ++ q)
  falls_joined j [] p q f g = subst (λ v. FallsAlong problem stages j v q) (append-nil p) g
  falls_joined j (column ∷ s) p q f g = (
    f.0,
    falls_joined j s (p ++ column ∷ []) q f.1
        (subst (λ v. FallsAlong problem stages j v q) (sym (append_assoc p (column ∷ []) s)) g),
  )

module _ (problem : Problem) (stages : List Stage) (split : AreSplit problem.tiers)
    (form : IsForm problem.tiers problem.form)
    (over : AllByRecursion (IsOverTiers problem.tiers.width) problem.constraints) where
  pub stage_at : (r : ℕ) → r ≤ last_stage problem → IsStage problem r
  stage_at r w = record { split = split; form = form; over = over; within = w }

  pub over_at : (r : ℕ) → r ≤ last_stage problem
      → AllByRecursion (IsOverTiers problem.tiers.width) (stretches problem r)
  over_at r w = over_stretches problem r (stage_at r w)

  -- the kind to which a column leads is that of the longer prefix
  pub goes_to : (r : ℕ) → r ≤ last_stage problem → (p : List (List Sym)) (column : List Sym)
      → BeginsCandidate problem (p ++ column ∷ [])
      → next_kind problem r (kind_of problem r p) column ≡ kind_of problem r (p ++ column ∷ [])
  goes_to r w p column b = moved_is problem r split form (over_at r w) p column b

  -- a candidate by way of a longer prefix
  pub as_longer : (p : List (List Sym)) (column : List Sym) (q : List (List Sym))
      → IsCandidate problem (p ++ column ∷ q) → IsCandidate problem ((p ++ column ∷ []) ++ q)
  as_longer p column q c = subst (IsCandidate problem) (sym (append_assoc p (column ∷ []) q)) c

  pub one_more : (p : List (List Sym)) (column : List Sym) (q : List (List Sym))
      → IsCandidate problem (p ++ column ∷ q) → BeginsCandidate problem (p ++ column ∷ [])
  one_more p column q c = (q, as_longer p column q c)

  module _ (j s : ℕ) (fewer : j ≤ s) (within : s ≤ last_stage problem) (p : List (List Sym)) (column : List Sym)
      (begins : BeginsCandidate problem (p ++ column ∷ [])) where
    cut_is : cut_kind problem j (kind_of problem s p) ≡ kind_of problem j p
    cut_is = cut_kind-kind_of problem j s fewer p

    next_is : next_kind problem j (cut_kind problem j (kind_of problem s p)) column
        ≡ kind_of problem j (p ++ column ∷ [])
    next_is = ap (λ k. next_kind problem j k column) cut_is ∙ goes_to j (omega arith) p column begins

    -- tight at a stage, by prefixes
    pub falls_from_tight : IsTightAt problem stages j (kind_of problem s p) column → FallsOn problem stages j p column
    falls_from_tight t = record {
      before = t.before;
      after = t.after;
      leaves = subst (λ k. Lists problem stages j k t.before) cut_is t.leaves;
      arrives = subst (λ k. Lists problem stages j k t.after) next_is t.arrives;
      falls = t.falls ∙ ap (λ k. cost_of problem j k column + t.after) cut_is;
    }

    pub tight_from_falls : FallsOn problem stages j p column → IsTightAt problem stages j (kind_of problem s p) column
    tight_from_falls f = record {
      before = f.before;
      after = f.after;
      leaves = subst (λ k. Lists problem stages j k f.before) (sym cut_is) f.leaves;
      arrives = subst (λ k. Lists problem stages j k f.after) (sym next_is) f.arrives;
      falls = f.falls ∙ ap (λ k. cost_of problem j k column + f.after) (sym cut_is);
    }

  -- a move of a candidate is kept where the potentials fall so
  pub kept_from_falls : (r s : ℕ) → r ≤ s + 1 → s ≤ last_stage problem
      → (p : List (List Sym)) (column : List Sym) (q : List (List Sym)) → IsCandidate problem (p ++ column ∷ q)
      → ((j : ℕ) → 1 ≤ j → j < r → FallsOn problem stages j p column)
      → IsKeptBelow problem stages r (kind_of problem s p) column
  kept_from_falls r s few w p column q c f = record {
    fits = fits_next problem s split form (over_at s w) p column q c;
    tight = λ j a b. tight_from_falls j s (omega arith) w p column (one_more p column q c) (f j a b);
  }

  module _ (counts : List ℕ) (r : ℕ) (within : r ≤ last_stage problem)
      (certified : IsCertifiedStage problem counts stages r) where
    -- a kept move leads to a kind that is listed
    step_on : (p : List (List Sym)) (column : List Sym) (q : List (List Sym)) (e : ℕ)
        → IsCandidate problem (p ++ column ∷ q) → Lists problem stages r (kind_of problem r p) e
        → ((j : ℕ) → 1 ≤ j → j < r → FallsOn problem stages j p column)
        → (n : ℕ) × (Lists problem stages r (kind_of problem r (p ++ column ∷ [])) n ×
        (e ≤ cost_of problem r (kind_of problem r p) column + n))
    step_on p column q e c l f =
        let next = certified.goes_on (kind_of problem r p) e column l
        (kept_from_falls r r (omega arith) within p column q c f) in (
          next.0,
          (
            subst (λ k. Lists problem stages r k next.0)
                (goes_to r within p column (one_more p column q c)) next.1.0,
            next.1.1,
          ),
        )

    -- so each kind on the way is
    pub listed_on : (s p q : List (List Sym)) → IsCandidate problem (p ++ (s ++ q))
        → ((j : ℕ) → 1 ≤ j → j < r → FallsAlong problem stages j p s)
        → (e : ℕ) × Lists problem stages r (kind_of problem r p) e
        → (e : ℕ) × Lists problem stages r (kind_of problem r (p ++ s)) e
    listed_on [] p q c f l = (
      l.0,
      subst (λ v. Lists problem stages r (kind_of problem r v) l.0)
          (sym (append-nil p)) l.1,
    )
    listed_on (column ∷ s) p q c f l =
        let next = step_on p column (s ++ q) l.0 c l.1 (λ j a b. (f j a b).0) in
        let rest = listed_on s (p ++ column ∷ []) q (as_longer p column (s ++ q) c) (λ j a b. (f j a b).1)
        (next.0, next.1.0) in (
          rest.0,
          subst (λ v. Lists problem stages r (kind_of problem r v) rest.0)
              (append_assoc p (column ∷ []) s) rest.1,
        )

    module _ (ranked : 1 ≤ r) where
      -- what the columns cost under constraint r after a prefix
      abbrev pub rest_cost : List (List Sym) → List (List Sym) → ℕ
      rest_cost p q = walk_cost problem r (stage_at r within) (r - 1) (kind_of problem r p) q

      rest_none : (p : List (List Sym)) → rest_cost p [] ≡ 0
      rest_none p = none_at (take r problem.constraints) (r - 1)

      pub rest_step : (p : List (List Sym)) (column : List Sym) (q : List (List Sym))
          → IsCandidate problem (p ++ column ∷ q)
          → rest_cost p (column ∷ q) ≡ cost_of problem r (kind_of problem r p) column + rest_cost (p ++ column ∷ []) q
      rest_step p column q c =
          walk_step problem r (stage_at r within) (r - 1) (kind_of problem r p) column q
          ∙ ap (λ k. cost_of problem r (kind_of problem r p) column + walk_cost problem r (stage_at r within)
          (r - 1) k q) (goes_to r within p column (one_more p column q c))

      -- at the end the potential is 0
      end_zero : (p : List (List Sym)) (e : ℕ) → IsCandidate problem (p ++ [])
          → Lists problem stages r (kind_of problem r p) e → e ≡ 0
      end_zero p e c l =
          certified.final (kind_of problem r p) e l
          (candidate_final problem r split form (over_at r within) p
          (subst (IsCandidate problem) (append-nil p) c))

      -- a potential is at most what the rest costs
      pub bound : (q p : List (List Sym)) (e : ℕ) → IsCandidate problem (p ++ q)
          → Lists problem stages r (kind_of problem r p) e
          → ((j : ℕ) → 1 ≤ j → j < r → FallsAlong problem stages j p q)
          → e ≤ rest_cost p q
      bound [] p e c l f = omega (arith, end_zero p e c l)
      bound (column ∷ q) p e c l f =
          let next = step_on p column q e c l (λ j a b. (f j a b).0) in
          let rest : next.0 ≤ rest_cost (p ++ column ∷ []) q = bound q (p ++ column ∷ []) next.0
          (as_longer p column q c) next.1.0 (λ j a b. (f j a b).1) in
          omega (arith, next.1.1, rest, rest_step p column q c)

      -- where the rest costs no more, the potential falls by just what each column costs
      pub falls_from_sum : (q p : List (List Sym)) (e : ℕ) → IsCandidate problem (p ++ q)
          → Lists problem stages r (kind_of problem r p) e
          → ((j : ℕ) → 1 ≤ j → j < r → FallsAlong problem stages j p q)
          → rest_cost p q ≡ e → FallsAlong problem stages r p q
      falls_from_sum [] p e c l f same = tt
      falls_from_sum (column ∷ q) p e c l f same =
          let next = step_on p column q e c l (λ j a b. (f j a b).0) in
          let rest : next.0 ≤ rest_cost (p ++ column ∷ []) q = bound q (p ++ column ∷ []) next.0
          (as_longer p column q c) next.1.0 (λ j a b. (f j a b).1) in
          let here : e ≡ cost_of problem r (kind_of problem r p) column + next.0 = omega
          (arith, next.1.1, rest, rest_step p column q c, same) in
          let later : rest_cost (p ++ column ∷ []) q
          ≡ next.0 = omega (arith, next.1.1, rest, rest_step p column q c, same) in (
            record { before = e; after = next.0; leaves = l; arrives = next.1.0; falls = here },
            falls_from_sum q (p ++ column ∷ []) next.0 (as_longer p column q c) next.1.0 (λ j a b. (f j a b).1) later,
          )

      -- and where it falls so, it is what the rest costs
      pub sum_from_falls : (q p : List (List Sym)) (e : ℕ) → IsCandidate problem (p ++ q)
          → Lists problem stages r (kind_of problem r p) e → FallsAlong problem stages r p q → rest_cost p q ≡ e
      sum_from_falls [] p e c l f = rest_none p ∙ sym (end_zero p e c l)
      sum_from_falls (column ∷ q) p e c l f =
          let here = f.0 in
          let same : e ≡ here.before = one_potential problem r stages certified.ascending
          (kind_of problem r p) e here.before l here.leaves in
          let rest : rest_cost (p ++ column ∷ []) q
          ≡ here.after = sum_from_falls q (p ++ column ∷ []) here.after
          (as_longer p column q c) here.arrives f.1 in
          omega (arith, same, rest, here.falls, rest_step p column q c)
