-- The weights of a stage's table are violations of its constraint.
use Rattle.std.proofs.Common.{zero, suc, arith, ◌*◌, Bool, cond, drop, length, Contains, ◌≡◌, ℕ, ◌+◌, ◌-◌, ◌≤◌}
use Rattle.std.proofs.Common.{List, [], ◌∷◌, ◌++◌, take, length, get_or, sym, ap, ◌∙◌}
use Rattle.weight_law.specs.{Count.count_meaning, declared.Weight.Ghosts, declared.count.Count.Count}
use Rattle.tier_core.specs.{declared.sym.Sym.Sym, declared.constraint.Constraint.Constraint}
use Rattle.tier_core.specs.{Kinds.{PrefixKind, Phase}, Sides.is_stretch, FirstColumn.first_column}
use Rattle.arc_table.specs.{declared.arc.TableArc.TableArc, declared.state.TableState.TableState}
use Rattle.arc_table.specs.{Runs.{IsRun, IsPath, Reads, weight_of, AcceptingRun, SizesWithin}, Moves.moves_at}
use Rattle.violation.specs.Candidates.{IsCandidate, count_at, count_so_far_at}
use Rattle.violation.specs.{Moves.{move_costs, costs, costs_each, first_phase, is_tier_open}, Prefixes.kind_of}
use Rattle.violation.specs.Problems.{Problem}
use Rattle.tier_core.proofs.{Filled.has-first_column, MaskBits.at_most_one}
use Rattle.kind_tables.specs.StageTables.{IsStage, name_of, GoesAsKinds, AreNamedByKinds, AreWeighed, IsStageTable}
use Rattle.kind_tables.proofs.Paths.{run_path}
use Rattle.violation.proofs.WalkSums.{none_at, walk_cost, walk_step, violations_walk, violations_on, so_far_walk}

module _ (problem : Problem) (r : ℕ) (stage : IsStage problem r) {g : Ghosts Count}
    (meaning : g.meaning ≡ count_meaning) (names : List PrefixKind) (states : List (TableState Count g)) where
  weight_nil : (weight_of (let none : List (TableArc Count g) = [] in none)).0 ≡ 0
  weight_nil = ap (λ m. m.zero.0) meaning

  weight_cons : (arc : TableArc Count g) (arcs : List (TableArc Count g))
      → (weight_of (arc ∷ arcs)).0 ≡ arc.weight.0 + (weight_of arcs).0
  weight_cons arc arcs = ap (λ m. (m.sum arc.weight (weight_of arcs)).0) meaning

  module _ (named : AreNamedByKinds problem r names states) (weighed : AreWeighed problem r names states) where
    -- a path weighs what its walk costs under the constraint
    pub path_weight : (arcs : List (TableArc Count g)) (p : List (List Sym)) (s t : ℕ) → IsPath states s arcs t
        → Reads arcs p → (weight_of arcs).0 ≡ walk_cost problem r stage (r - 1) (name_of names s) p
    path_weight [] [] s t path reads = weight_nil ∙ sym (none_at (take r problem.constraints) (r - 1))
    path_weight [] (column ∷ p) s t path reads = absurd reads
    path_weight (arc ∷ arcs) [] s t path reads = absurd reads
    path_weight (arc ∷ arcs) (column ∷ p) s t path reads =
        let move : GoesAsKinds problem r names s arc column = named.moves s arc column path.0 reads.0 in
        weight_cons arc arcs
        ∙ ap (λ n. n + (weight_of arcs).0) (weighed s arc column path.0 reads.0)
        ∙ ap (λ n. get_or (move_costs problem r (name_of names s) column) (r - 1) 0 + n)
        (path_weight arcs p arc.target t path.1 reads.1 ∙ ap (λ k. walk_cost problem r stage (r - 1) k p) move.leads)
        ∙ sym (walk_step problem r stage (r - 1) (name_of names s) column p)

    pub run_weight : (arcs : List (TableArc Count g)) (p : List (List Sym)) (s : ℕ) → IsRun states s arcs
        → Reads arcs p → (weight_of arcs).0 ≡ walk_cost problem r stage (r - 1) (name_of names s) p
    run_weight arcs p s run reads = let path = run_path states s arcs run in path_weight arcs p s path.0 path.1 reads

    module _ (ranked : 1 ≤ r) where
      -- a path from the start weighs what is violated so far
      pub path_weight_law : (arcs : List (TableArc Count g)) (s : ℕ) (p q : List (List Sym)) → IsPath states 0 arcs s
          → Reads arcs p → IsCandidate problem (p ++ q)
          → (weight_of arcs).0 ≡ count_so_far_at problem r (p ++ q) (length p)
      path_weight_law arcs s p q path reads c =
          path_weight arcs p 0 s path reads ∙ ap (λ k. walk_cost problem r stage (r - 1) k p) named.start
          ∙ sym (so_far_walk problem r stage ranked p q c)

      -- a run from the kind of a prefix weighs what the rest violates
      pub rest_weight : (arcs : List (TableArc Count g)) (s : ℕ) (p q : List (List Sym))
          → name_of names s ≡ kind_of problem r p → IsRun states s arcs → Reads arcs q → IsCandidate problem (p ++ q)
          → count_at problem r (p ++ q) ≡ count_so_far_at problem r (p ++ q) (length p) + (weight_of arcs).0
      rest_weight arcs s p q name run reads c =
          violations_on problem r stage ranked p q c
          ∙ ap (λ n. count_so_far_at problem r (p ++ q) (length p) + n)
          (ap (λ k. walk_cost problem r stage (r - 1) k q) (sym name) ∙ sym (run_weight arcs q s run reads))

  -- an accepting run weighs the violations of what it reads
  pub run_weight_law : IsStageTable problem r names states → 1 ≤ r
      → (arcs : List (TableArc Count g)) (T : List (List Sym)) → AcceptingRun states T arcs
      → (weight_of arcs).0 ≡ count_at problem r T
  run_weight_law table ranked arcs T accepting =
      run_weight table.named table.weighed arcs T 0 accepting.run accepting.reads
      ∙ ap (λ k. walk_cost problem r stage (r - 1) k T) table.named.start
      ∙ sym (violations_walk problem r stage ranked T ((table.accepts T).0 (arcs, accepting)).candidate)

-- what a column costs under one constraint is 1 at most
cost_least : (cs : List Constraint) (o : ℕ → Bool) (phases : List Phase) (column : List Sym) (i : ℕ)
    → get_or (costs_each cs o phases column) i 0 ≤ 1
cost_least [] o phases column i = omega arith
cost_least (c ∷ cs) o phases column zero = at_most_one (costs c.family c.left c.right o (first_phase phases) column)
cost_least (c ∷ cs) o phases column (suc i) = cost_least cs o (cond (is_stretch c) (drop 1 phases) phases) column i

pub times_one : (n x : ℕ) → x ≤ 1 → n * x ≤ n
times_one n zero l = omega arith
times_one n (suc zero) l = omega arith
times_one n (suc (suc x)) l = absurd (omega arith)

module _ (problem : Problem) (r : ℕ) {g : Ghosts Count} (names : List PrefixKind) (states : List (TableState Count g))
    (table : IsStageTable problem r names states) where
  pub one_at_most : (s : ℕ) (arc : TableArc Count g) → Contains (moves_at states s) arc → arc.weight.0 ≤ 1
  one_at_most s arc here =
      let cost = cost_least (take r problem.constraints) (is_tier_open problem (name_of names s))
      (name_of names s).phases (first_column arc.class) (r - 1) in
      omega (
        arith,
        cost,
        table.weighed s arc (first_column arc.class) here
            (has-first_column arc.class (table.named.filled s arc here)),
      )

  pub sizes_fit : g.meaning ≡ count_meaning → (n : ℕ) → length states ≤ n → SizesWithin states n
  sizes_fit meaning n few s arc here =
      let size : g.meaning.size arc.weight ≡ arc.weight.0 = ap (λ m. m.size arc.weight) meaning in
      rw size (omega (arith, times_one (length states) arc.weight.0 (one_at_most s arc here)))
