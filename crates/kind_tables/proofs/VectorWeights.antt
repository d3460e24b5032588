-- The weights of the table of a single pass are vectors of violations.
use Rattle.std.proofs.Common.{zero, arith, ◌≡◌, ℕ, ◌+◌, ◌≤◌, Bool, cond, List, [], ◌∷◌, ◌++◌, map, drop, take}
use Rattle.std.proofs.{Common.{length, Contains, refl, sym, ap, ◌∙◌}, lemmas.List.length-map}
use Rattle.weight_law.specs.Ranked.{greatest_part, add_each, parts_of_vector, ranked_meaning}
use Rattle.weight_law.specs.{declared.Weight.Ghosts, declared.ranked.Ranked.Ranked}
use Rattle.weight_law.proofs.Padded.{sum-padded, padded_zero, greatest-padded}
use Rattle.tier_core.specs.{declared.sym.Sym.Sym, declared.constraint.Constraint.Constraint}
use Rattle.tier_core.specs.{Kinds.{Phase, PrefixKind}, Sides.is_stretch, FirstColumn.first_column}
use Rattle.tier_core.proofs.{Filled.has-first_column, MaskBits.at_most_one}
use Rattle.arc_table.specs.{declared.arc.TableArc.TableArc, declared.state.TableState.TableState, Moves.moves_at}
use Rattle.arc_table.specs.Runs.{IsRun, IsPath, Reads, weight_of, AcceptingRun, SizesWithin}
use Rattle.violation.specs.Candidates.{IsCandidate, counts_on}
use Rattle.violation.specs.Moves.{costs, costs_each, first_phase, is_tier_open, next_kind, move_costs}
use Rattle.violation.specs.{Prefixes.kind_of, Rests.counts_rest, Walks.walk_costs}
use Rattle.violation.specs.Problems.{Problem, last_stage}
use Rattle.violation.proofs.{CostLemmas.length_costs, RestLemmas.{whole_walk, rest_walk, length_whole_walk}}
use Rattle.kind_tables.specs.StageTables.{IsStage, name_of, GoesAsKinds, AreNamedByKinds}
use Rattle.kind_tables.specs.RankedTables.{AreWeighedByAll, IsRankedTable}
use Rattle.kind_tables.proofs.{Paths.run_path, Weighing.times_one}

module _ (problem : Problem) (stage : IsStage problem (last_stage problem)) (few : last_stage problem ≤ 24)
    {g : Ghosts Ranked} (meaning : g.meaning ≡ ranked_meaning) (names : List PrefixKind)
    (states : List (TableState Ranked g)) where
  -- what the moves along some columns cost, from a kind under all constraints
  abbrev pub walk : PrefixKind → List (List Sym) → List ℕ
  walk k p = walk_costs problem (last_stage problem) k p

  firsts : length (take (last_stage problem) problem.constraints) ≡ last_stage problem
  firsts = sym (length-map (take (last_stage problem) problem.constraints) (λ c. 0))
      ∙ length_whole_walk problem stage [] (record { place = 0; opened = []; phases = [] })

  weight_nil : (weight_of (let none : List (TableArc Ranked g) = [] in none)).parts
      ≡ parts_of_vector (map (λ c. 0) (take (last_stage problem) problem.constraints))
  weight_nil = ap (λ m. m.zero.parts) meaning
      ∙ sym (padded_zero (take (last_stage problem) problem.constraints) (omega (arith, firsts, few)))

  weight_cons : (arc : TableArc Ranked g) (arcs : List (TableArc Ranked g))
      → (weight_of (arc ∷ arcs)).parts ≡ add_each arc.weight.parts (weight_of arcs).parts
  weight_cons arc arcs = ap (λ m. (m.sum arc.weight (weight_of arcs)).parts) meaning

  length_move : (k : PrefixKind) (column : List Sym)
      → length (move_costs problem (last_stage problem) k column) ≡ last_stage problem
  length_move k column = length_costs (take (last_stage problem) problem.constraints)
      (is_tier_open problem k) k.phases column ∙ firsts

  module _ (named : AreNamedByKinds problem (last_stage problem) names states)
      (weighed : AreWeighedByAll problem names states) where
    -- a path weighs what its walk costs
    pub path_vector : (arcs : List (TableArc Ranked g)) (p : List (List Sym)) (s t : ℕ) → IsPath states s arcs t
        → Reads arcs p → (weight_of arcs).parts ≡ parts_of_vector (walk (name_of names s) p)
    path_vector [] [] s t path reads = weight_nil
    path_vector [] (column ∷ p) s t path reads = absurd reads
    path_vector (arc ∷ arcs) [] s t path reads = absurd reads
    path_vector (arc ∷ arcs) (column ∷ p) s t path reads =
        let move : GoesAsKinds problem
        (last_stage problem) names s arc column = named.moves s arc column path.0 reads.0 in
        let here : List ℕ = move_costs problem (last_stage problem) (name_of names s) column in
        let rest : List ℕ = walk (next_kind problem (last_stage problem) (name_of names s) column) p in
        let even : length here ≡ length rest = length_move (name_of names s) column
        ∙ sym (length_whole_walk problem stage p (next_kind problem (last_stage problem) (name_of names s) column)) in
        weight_cons arc arcs
        ∙ ap (λ ns. add_each ns (weight_of arcs).parts) (weighed s arc column path.0 reads.0)
        ∙ ap (λ ns. add_each (parts_of_vector here) ns)
        (path_vector arcs p arc.target t path.1 reads.1 ∙ ap (λ k. parts_of_vector (walk k p)) move.leads)
        ∙ sum-padded here rest even

    pub run_vector : (arcs : List (TableArc Ranked g)) (p : List (List Sym)) (s : ℕ) → IsRun states s arcs
        → Reads arcs p → (weight_of arcs).parts ≡ parts_of_vector (walk (name_of names s) p)
    run_vector arcs p s run reads = let path = run_path states s arcs run in path_vector arcs p s path.0 path.1 reads

    -- a run from the kind of a prefix weighs the rest
    pub rest_vector : (arcs : List (TableArc Ranked g)) (s : ℕ) (p q : List (List Sym))
        → name_of names s ≡ kind_of problem (last_stage problem) p → IsRun states s arcs → Reads arcs q
        → IsCandidate problem (p ++ q)
        → (weight_of arcs).parts ≡ parts_of_vector (counts_rest problem (p ++ q) (length p))
    rest_vector arcs s p q name run reads c =
        run_vector arcs q s run reads ∙ ap (λ k. parts_of_vector (walk k q)) name
        ∙ ap parts_of_vector (sym (rest_walk problem stage p q c))

  -- an accepting run weighs the vector of what it reads
  pub run_vector_law : IsRankedTable problem names states → (arcs : List (TableArc Ranked g)) (T : List (List Sym))
      → AcceptingRun states T arcs → (weight_of arcs).parts ≡ parts_of_vector (counts_on problem T)
  run_vector_law table arcs T accepting =
      run_vector table.named table.weighed arcs T 0 accepting.run accepting.reads
      ∙ ap (λ k. parts_of_vector (walk k T)) table.named.start
      ∙ ap parts_of_vector (sym (whole_walk problem stage T ((table.accepts T).0 (arcs, accepting))))

-- a column costs 1 at most under each constraint
costs_most : (cs : List Constraint) (o : ℕ → Bool) (phases : List Phase) (column : List Sym)
    → greatest_part (costs_each cs o phases column) ≤ 1
costs_most [] o phases column = omega arith
costs_most (c ∷ cs) o phases column =
    let first = at_most_one (costs c.family c.left c.right o (first_phase phases) column) in
    let rest = costs_most cs o (cond (is_stretch c) (drop 1 phases) phases) column in
    omega (arith, first, rest)

-- so the weights of runs without repeats fit where the number of states does
module _ (problem : Problem) {g : Ghosts Ranked} (meaning : g.meaning ≡ ranked_meaning) (names : List PrefixKind)
    (states : List (TableState Ranked g))
    (table : IsRankedTable problem names states) where
  size_most : (s : ℕ) (arc : TableArc Ranked g) → Contains (moves_at states s) arc → greatest_part arc.weight.parts ≤ 1
  size_most s arc here =
      let column : List Sym = first_column arc.class in
      let k : PrefixKind = name_of names s in
      let costs : List ℕ = move_costs problem (last_stage problem) k column in
      let is : arc.weight.parts ≡ parts_of_vector costs = table.weighed s arc column here
      (has-first_column arc.class (table.named.filled s arc here)) in
      let size : greatest_part arc.weight.parts ≡ greatest_part costs = ap greatest_part is ∙ greatest-padded costs in
      let most : greatest_part costs ≤ 1 = costs_most (take (last_stage problem) problem.constraints)
      (is_tier_open problem k) k.phases column in
      omega (arith, size, most)

  pub vectors_fit : (n : ℕ) → length states ≤ n → SizesWithin states n
  vectors_fit n few s arc here =
      let size : g.meaning.size arc.weight ≡ greatest_part arc.weight.parts = ap (λ m. m.size arc.weight) meaning in
      rw size (omega (arith, times_one (length states) (greatest_part arc.weight.parts) (size_most s arc here), few))
