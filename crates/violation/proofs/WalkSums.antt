-- What walks cost under one constraint, and what candidates violate of it.
use Rattle.std.proofs.Common.{◌≡◌, ℕ, zero, suc, ◌+◌, ◌-◌, ◌<◌, ◌≤◌, Bool, cond, List, [], ◌∷◌, ◌++◌, map, take}
use Rattle.std.proofs.Common.{drop, length, get_or, refl, sym, ap, ◌∙◌, arith}
use Rattle.std.proofs.lemmas.List.{get_or-take, take-map, length-map}
use Rattle.tier_core.specs.{declared.sym.Sym.Sym, declared.constraint.Constraint.Constraint, Tiers.Tiers}
use Rattle.tier_core.specs.{Kinds.{Phase, PrefixKind}, Sides.is_stretch}
use Rattle.weight_law.specs.{Ranked.add_each, RankedLaws.get_or-sum}
use Rattle.violation.specs.Candidates.{IsCandidate, vec, vec_so_far, counts_on, counts_so_far, count_at}
use Rattle.violation.specs.{Candidates.count_so_far_at, Counts.{violations_of, violations_so_far}}
use Rattle.violation.specs.{Moves.{costs_each, is_tier_open, next_kind, move_costs}, Prefixes.kind_of}
use Rattle.violation.specs.{Walks.{HasMoves, walk_end, walk_costs}, Stages.IsStage, Problems.Problem}
use Rattle.violation.proofs.CostLemmas.{length_walk, costs_on, costs_sum, length_costs}
use Rattle.violation.proofs.{WalkLemmas.{candidate_walk, reached_is}, StageLemmas.{over_first, over_stretches}}

pub none_at : {X : Type 0} (xs : List X) (i : ℕ) → ◌≡◌ {A = ℕ} (get_or (map (λ x. 0) xs) i 0) 0
none_at [] i = refl
none_at (x ∷ xs) zero = refl
none_at (x ∷ xs) (suc i) = none_at xs i

module _ (problem : Problem) (r : ℕ) (stage : IsStage problem r) where
  -- what a walk costs under constraint i, counted from 0
  abbrev pub walk_cost : ℕ → PrefixKind → List (List Sym) → ℕ
  walk_cost i k p = get_or (walk_costs problem r k p) i 0

  pub walk_step : (i : ℕ) (k : PrefixKind) (column : List Sym) (p : List (List Sym))
      → walk_cost i k (column ∷ p) ≡ get_or (move_costs problem r k column) i 0 + walk_cost i
      (next_kind problem r k column) p
  walk_step i k column p =
      get_or-sum (move_costs problem r k column) (walk_costs problem r (next_kind problem r k column) p) i
      (length_costs (take r problem.constraints) (is_tier_open problem k) k.phases column
      ∙ sym (length_walk problem r stage.split stage.form (over_first problem r stage) p
      (next_kind problem r k column)))

  pub walk_append : (i : ℕ) (p q : List (List Sym)) (k : PrefixKind)
      → walk_cost i k (p ++ q) ≡ walk_cost i k p + walk_cost i (walk_end problem r k p) q
  walk_append i [] q k = omega (arith, none_at (take r problem.constraints) i)
  walk_append i (column ∷ p) q k =
      omega (
        arith,
        walk_step i k column (p ++ q),
        walk_step i k column p,
        walk_append i p q
            (next_kind problem r k column),
      )

  module _ (ranked : 1 ≤ r) where
    last : r - 1 < r
    last = omega arith

    -- what a candidate violates of constraint r is what its walk costs under it
    pub violations_walk : (T : List (List Sym)) → IsCandidate problem T
        → count_at problem r T ≡ walk_cost (r - 1) (kind_of problem r []) T
    violations_walk T c =
        sym (get_or-take r (counts_on problem T) (r - 1) 0 last)
        ∙ ap (λ (ns : List ℕ). get_or ns (r - 1) 0)
        (costs_sum problem r stage.split stage.form (over_first problem r stage) T c)

    -- from a prefix on, it is what was violated so far and what the rest of the walk costs
    pub violations_on : (p q : List (List Sym)) → IsCandidate problem (p ++ q)
        → count_at problem r (p ++ q) ≡ count_so_far_at problem r (p ++ q) (length p) + walk_cost (r - 1)
        (kind_of problem r p) q
    violations_on p q c =
        let T : List (List Sym) = p ++ q in
        let so_far : List ℕ = map (λ x. violations_so_far x T (length p)) (take r problem.constraints) in
        let same : take r (counts_so_far problem T (length p))
        ≡ so_far = take-map (λ x. violations_so_far x T (length p)) r problem.constraints in
        let cut : get_or so_far (r - 1) 0 ≡ count_so_far_at problem r T (length p) =
        ap (λ (ns : List ℕ). get_or ns (r - 1) 0) (sym same)
        ∙ get_or-take r (counts_so_far problem T (length p)) (r - 1) 0 last in
        sym (get_or-take r (counts_on problem T) (r - 1) 0 last)
        ∙ ap (λ (ns : List ℕ). get_or ns (r - 1) 0) (take-map (λ x. violations_of x T) r problem.constraints)
        ∙ ap (λ (ns : List ℕ). get_or ns (r - 1) 0)
        (costs_on problem r stage.split stage.form (over_first problem r stage) q p T refl c)
        ∙ get_or-sum so_far (walk_costs problem r (kind_of problem r p) q) (r - 1) (even q p)
        ∙ ap (λ n. n + walk_cost (r - 1) (kind_of problem r p) q) cut
      where
        even : (q p : List (List Sym)) → length
            (map (λ x. violations_so_far x (p ++ q) (length p)) (take r problem.constraints))
            ≡ length (walk_costs problem r (kind_of problem r p) q)
        even q p = length-map (take r problem.constraints) (λ x. violations_so_far x (p ++ q) (length p))
            ∙ sym (length_walk problem r stage.split stage.form (over_first problem r stage) q (kind_of problem r p))

    -- what is violated so far is what the walk costs so far
    pub so_far_walk : (p q : List (List Sym)) → IsCandidate problem (p ++ q)
        → count_so_far_at problem r (p ++ q) (length p) ≡ walk_cost (r - 1) (kind_of problem r []) p
    so_far_walk p q c =
        let moves : HasMoves problem r (kind_of problem r []) p = candidate_walk problem r stage.split stage.form
        (over_stretches problem r stage) p [] q c in
        let parts : walk_cost (r - 1) (kind_of problem r []) (p ++ q)
        ≡ walk_cost (r - 1) (kind_of problem r []) p + walk_cost (r - 1) (kind_of problem r p) q =
        walk_append (r - 1) p q (kind_of problem r [])
        ∙ ap (λ k. walk_cost (r - 1) (kind_of problem r []) p + walk_cost (r - 1) k q)
        (reached_is problem r stage.split stage.form (over_stretches problem r stage) p moves) in
        omega (arith, violations_on p q c, violations_walk (p ++ q) c, parts)
