-- What remains of all constraints is what the moves behind a prefix cost, and what all moves cost is
-- the vector.
use Rattle.std.proofs.Common.{◌≡◌, ℕ, suc, ◌+◌, ◌-◌, ◌≤◌, List, [], ◌∷◌, ◌++◌, map, take, length, refl, sym, ap}
use Rattle.std.proofs.{Common.{◌∙◌, arith, take_all}, lemmas.List.length-map}
use Rattle.tier_core.specs.{declared.sym.Sym.Sym, declared.constraint.Constraint.Constraint, Tiers.Tiers}
use Rattle.tier_core.specs.Kinds.{PrefixKind}
use Rattle.weight_law.specs.Ranked.{add_each}
use Rattle.violation.specs.{Candidates.{IsCandidate, counts_on}, Counts.{violations_of, violations_so_far}}
use Rattle.violation.specs.{Prefixes.kind_of, Rests.counts_rest, Stages.IsStage, Walks.walk_costs}
use Rattle.violation.specs.Problems.{Problem, last_stage}
use Rattle.violation.proofs.{CostLemmas.{costs_on, costs_sum, length_walk}, StageLemmas.over_first}

-- numbers less those that they are sums with
less_each : (f g : Constraint → ℕ) (cs : List Constraint) (ns : List ℕ) → length ns ≡ length cs
    → map f cs ≡ add_each (map g cs) ns → map (λ c. f c - g c) cs ≡ ns
less_each f g [] [] l e = refl
less_each f g [] (n ∷ ns) l e = absurd (omega (arith, l))
less_each f g (c ∷ cs) [] l e = absurd (omega (arith, l))
less_each f g (c ∷ cs) (n ∷ ns) l e =
    let first : f c ≡ g c + n = cc in
    let rest : map f cs ≡ add_each (map g cs) ns = cc in
    let one : f c - g c ≡ n = omega (arith, first) in
    ap (λ m. m ∷ map (λ c. f c - g c) cs) one ∙ ap (λ ms. n ∷ ms) (less_each f g cs ns (omega (arith, l)) rest)

module _ (problem : Problem) (stage : IsStage problem (last_stage problem)) where
  all_of : take (last_stage problem) problem.constraints ≡ problem.constraints
  all_of = take_all (last_stage problem) problem.constraints (omega arith)

  -- the moves of a candidate cost its vector
  pub whole_walk : (T : List (List Sym)) → IsCandidate problem T
      → counts_on problem T ≡ walk_costs problem (last_stage problem) (kind_of problem (last_stage problem) []) T
  whole_walk T c =
      sym (take_all (last_stage problem) (counts_on problem T)
      (omega (arith, length-map problem.constraints (λ x. violations_of x T))))
      ∙ costs_sum problem (last_stage problem) stage.split stage.form
      (over_first problem (last_stage problem) stage) T c

  -- the moves behind a prefix cost the rest
  pub rest_walk : (p q : List (List Sym)) → IsCandidate problem (p ++ q)
      → counts_rest problem (p ++ q) (length p)
      ≡ walk_costs problem (last_stage problem) (kind_of problem (last_stage problem) p) q
  rest_walk p q c =
      let T : List (List Sym) = p ++ q in
      let n : ℕ = last_stage problem in
      let over = over_first problem n stage in
      let f : Constraint → ℕ = λ x. violations_of x T in
      let g : Constraint → ℕ = λ x. violations_so_far x T (length p) in
      let k : PrefixKind = kind_of problem n p in
      let walk : List ℕ = walk_costs problem n k q in
      let size : length walk
      ≡ length (take n problem.constraints) = length_walk problem n stage.split stage.form over q k in
      let on : map f (take n problem.constraints)
      ≡ add_each
      (map g (take n problem.constraints)) walk = costs_on problem n stage.split stage.form over q p T refl c in
      ap (map (λ x. f x - g x)) (sym all_of) ∙ less_each f g (take n problem.constraints) walk size on

  pub length_whole_walk : (q : List (List Sym)) (k : PrefixKind)
      → length (walk_costs problem (last_stage problem) k q) ≡ last_stage problem
  length_whole_walk q k =
      length_walk problem (last_stage problem) stage.split stage.form
      (over_first problem (last_stage problem) stage) q k ∙ ap length all_of
