-- The words of least weight of the table of a single pass are the optimal candidates, and its least
-- weights are the least vectors that remain.
use Rattle.std.proofs.Common.{◌≡◌, ◌↔◌, ℕ, ◌≤◌, ◌<◌, List, ◌++◌, take, drop, length, ◌-◌, refl, sym, ap, ◌∙◌, subst}
use Rattle.std.proofs.lemmas.List.{length-map, take-append-drop, length-take-le}
use Rattle.weight_law.specs.{Meaning.AtMost, Ranked.{parts_of_vector, ranked_meaning}, declared.Weight.Ghosts}
use Rattle.weight_law.specs.declared.ranked.Ranked.{Ranked}
use Rattle.weight_law.proofs.Padded.{at_most_vector, vector_at_most}
use Rattle.tier_core.specs.{declared.sym.Sym.Sym, Kinds.PrefixKind}
use Rattle.arc_table.specs.{declared.arc.TableArc.TableArc, declared.state.TableState.TableState}
use Rattle.arc_table.specs.Runs.{IsRun, weight_of, AcceptingRun, Accepts, IsLeastWord, IsLeastFrom, IsOnRun}
use Rattle.arc_table.proofs.SomeWord.{some_word}
use Rattle.violation.specs.Candidates.{IsCandidate, counts_on, IsAtMost, IsOptimalFor, IsOptimal, IsLeastVector}
use Rattle.violation.specs.{Counts.{violations_of, violations_so_far}, Prefixes.kind_of}
use Rattle.violation.specs.{Rests.{counts_rest, PassesWhole, IsLeastRestVector}, Problems.{Problem, last_stage}}
use Rattle.violation.proofs.{LeastVector.{one_vector, all_counts_taken}, StageLemmas.all_optimal}
use Rattle.violation.proofs.CutCandidates.{candidate_cut}
use Rattle.kind_tables.specs.{StageTables.{IsStage, name_of}, RankedTables.IsRankedTable}
use Rattle.kind_tables.proofs.Naming.{path_kind, same_state, passes_state, passed_state}
use Rattle.kind_tables.proofs.{Paths.{IsParted, run_exists, path_word}, VectorWeights.{run_vector_law, rest_vector}}

module _ (problem : Problem) (stage : IsStage problem (last_stage problem)) (few : last_stage problem ≤ 24)
    {g : Ghosts Ranked} (meaning : g.meaning ≡ ranked_meaning) (names : List PrefixKind)
    (states : List (TableState Ranked g)) (table : IsRankedTable problem names states) where
  -- weights that are vectors are compared as these
  at_most : (a b : Ranked) (v w : List ℕ) → a.parts ≡ parts_of_vector v → b.parts ≡ parts_of_vector w → length w
      ≡ length v
      → AtMost g.meaning a b → IsAtMost v w
  at_most a b v w x y e h = at_most_vector a b v w x y e (subst (λ m. AtMost m a b) meaning h)

  no_more : (a b : Ranked) (v w : List ℕ) → a.parts ≡ parts_of_vector v → b.parts ≡ parts_of_vector w → length w
      ≡ length v
      → IsAtMost v w → AtMost g.meaning a b
  no_more a b v w x y e h = subst (λ m. AtMost m a b) (sym meaning) (vector_at_most a b v w x y e h)

  length_vec : (T : List (List Sym)) → length (counts_on problem T) ≡ last_stage problem
  length_vec T = length-map problem.constraints (λ c. violations_of c T)

  even_vec : (T U : List (List Sym)) → length (counts_on problem U) ≡ length (counts_on problem T)
  even_vec T U = length_vec U ∙ sym (length_vec T)

  weight_vec : (T : List (List Sym)) (arcs : List (TableArc Ranked g)) → AcceptingRun states T arcs
      → (weight_of arcs).parts ≡ parts_of_vector (counts_on problem T)
  weight_vec T arcs run = run_vector_law problem stage few meaning names states table arcs T run

  least_optimal : (T : List (List Sym)) → IsLeastWord states T → IsOptimal problem T
  least_optimal T word = record { candidate = (table.accepts T).0 (word.0, word.1); least = least }
    where
      least : (U : List (List Sym)) → IsCandidate problem U
          → IsAtMost (take (last_stage problem) (counts_on problem T)) (take (last_stage problem) (counts_on problem U))
      least U c =
          let accepted : Accepts states U = (table.accepts U).1 c in
          let bound : IsAtMost (counts_on problem T) (counts_on problem U) =
          at_most (weight_of word.0) (weight_of accepted.0) (counts_on problem T) (counts_on problem U)
          (weight_vec T word.0 word.1) (weight_vec U accepted.0 accepted.1) (even_vec T U)
          (word.2 U accepted.0 accepted.1) in
          subst (λ v. IsAtMost v (take (last_stage problem) (counts_on problem U))) (sym (all_counts_taken problem T))
          (subst (IsAtMost (counts_on problem T)) (sym (all_counts_taken problem U)) bound)

  optimal_least : (T : List (List Sym)) → IsOptimal problem T → IsLeastWord states T
  optimal_least T opt = (accepted.0, accepted.1, least)
    where
      accepted : Accepts states T
      accepted = (table.accepts T).1 opt.candidate

      least : (U : List (List Sym)) (others : List (TableArc Ranked g)) → AcceptingRun states U others
          → AtMost g.meaning (weight_of accepted.0) (weight_of others)
      least U others run =
          let bound : IsAtMost (counts_on problem T) (counts_on problem U) =
          subst (λ v. IsAtMost v (counts_on problem U)) (all_counts_taken problem T)
          (subst (IsAtMost (take (last_stage problem) (counts_on problem T))) (all_counts_taken problem U)
          (opt.least U ((table.accepts U).0 (others, run)))) in
          no_more (weight_of accepted.0) (weight_of others) (counts_on problem T) (counts_on problem U)
          (weight_vec T accepted.0 accepted.1) (weight_vec U others run) (even_vec T U) bound

  -- its words of least weight are exactly the optimal candidates
  pub optimal_words : (T : List (List Sym)) → IsLeastWord states T ↔ IsOptimal problem T
  optimal_words T = (least_optimal T, optimal_least T)

  -- the least weight from the start is the least vector
  pub least_vector : (w : Ranked) → IsLeastFrom states 0 w
      → (v : List ℕ) × ((w.parts ≡ parts_of_vector v) × IsLeastVector problem v)
  least_vector w from =
      let found = from.some in
      let q = some_word states table.named.filled 0 found.0 found.1 in
      let T : List (List Sym) = q.0 in
      let run : AcceptingRun states T found.0 = record { run = found.1; reads = q.1 } in
      let opt : IsOptimal problem T = least_optimal T (
        found.0,
        run,
        λ U others other. subst (λ x. AtMost g.meaning x (weight_of others)) (sym found.2)
            (from.least others other.run),
      ) in (
        counts_on problem T,
        (
          ap (λ (x : Ranked). x.parts) (sym found.2) ∙ weight_vec T found.0 run,
          record { some = (T, (opt, refl)); shared = λ U o. one_vector problem U T o opt },
        ),
      )

  -- each candidate is 0-optimal
  pub zero_words : (T : List (List Sym)) → Accepts states T ↔ IsOptimalFor problem 0 T
  zero_words T = (λ a. all_optimal problem T ((table.accepts T).0 a), λ o. (table.accepts T).1 o.candidate)

  length_rest : (T : List (List Sym)) (n : ℕ) → length (counts_rest problem T n) ≡ last_stage problem
  length_rest T n = length-map problem.constraints (λ c. violations_of c T - violations_so_far c T n)

  -- a candidate with a prefix of the kind that names s leaves at least the least weight from s
  least_of_all : (s : ℕ) (w : Ranked) (v : List ℕ) → length v ≡ last_stage problem → w.parts ≡ parts_of_vector v
      → s < length states → IsLeastFrom states s w
      → (T : List (List Sym)) (n : ℕ) → PassesWhole problem (name_of names s) T n → IsAtMost v (counts_rest problem T n)
  least_of_all s w v size is here from T n passes =
      let found = passed_state problem (last_stage problem) stage names states table.named 0 zero_words
      (name_of names s) T n passes in
      let parts : IsParted states 0 (take n T) (drop n T) = found.0 in
      let same : parts.middle ≡ s = same_state problem
      (last_stage problem) stage names states table.named parts.middle s
      (run_exists states parts.middle parts.after parts.run) here found.1 in
      let run : IsRun states s parts.after = subst (λ x. IsRun states x parts.after) same parts.run in
      let whole : take n T ++ drop n T ≡ T = take-append-drop n T in
      let rest : (weight_of parts.after).parts
      ≡ parts_of_vector (counts_rest problem (take n T ++ drop n T) (length (take n T))) =
      rest_vector problem stage few meaning names states table.named table.weighed parts.after s (take n T) (drop n T)
      (sym passes.of_kind) run parts.reads_after (candidate_cut problem T n passes.optimal.candidate) in
      let total : counts_rest problem (take n T ++ drop n T) (length (take n T)) ≡ counts_rest problem T n =
      ap (λ (x : List (List Sym)). counts_rest problem x (length (take n T))) whole
      ∙ ap (λ (m : ℕ). counts_rest problem T m) (length-take-le n T passes.within) in
      at_most w (weight_of parts.after) v (counts_rest problem T n) is (rest ∙ ap parts_of_vector total)
      (length_rest T n ∙ sym size) (from.least parts.after run)

  -- the least weight from a state is the least vector that remains from its name
  pub least_rest_vector : (s : ℕ) (w : Ranked) → IsLeastFrom states s w
      → (v : List ℕ) × ((w.parts ≡ parts_of_vector v) × IsLeastRestVector problem (name_of names s) v)
  least_rest_vector s w from =
      let found = from.some in
      let here : s < length states = run_exists states s found.0 found.1 in
      let on : IsOnRun states s = table.on_runs s here in
      let p = path_word states table.named.filled 0 s on.0 on.1 in
      let q = some_word states table.named.filled s found.0 found.1 in
      let passes : PassesWhole problem (name_of names s) (p.0 ++ q.0) (length p.0) =
      passes_state problem
      (last_stage problem) stage names states table.named 0 zero_words on.0 found.0 s p.0 q.0 on.1 p.1 found.1 q.1
      in
      let name : name_of names s ≡ kind_of problem (last_stage problem) p.0 = path_kind problem
      (last_stage problem) stage names states table.named on.0 s p.0 on.1 p.1 in
      let v : List ℕ = counts_rest problem (p.0 ++ q.0) (length p.0) in
      let is : w.parts ≡ parts_of_vector v = ap (λ (x : Ranked). x.parts) (sym found.2)
      ∙ rest_vector problem stage few meaning names states table.named table.weighed found.0 s p.0 q.0 name
      found.1 q.1 passes.optimal.candidate in (
        v,
        (
          is,
          record {
            some = (p.0 ++ q.0, (length p.0, (passes, refl)));
            least = least_of_all s w v (length_rest (p.0 ++ q.0) (length p.0)) is here from;
          },
        ),
      )
