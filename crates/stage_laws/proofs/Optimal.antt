-- The words of least weight of a stage's table are the candidates that its constraint leaves.
use Rattle.std.proofs.Common.{◌≡◌, ◌↔◌, ℕ, zero, suc, ◌-◌, ◌≤◌, List, get_or, sym, ap, ◌∙◌, arith}
use Rattle.weight_law.specs.{Meaning.AtMost, Count.count_meaning, declared.Weight.Ghosts, declared.count.Count.Count}
use Rattle.tier_core.specs.{declared.sym.Sym.Sym, Kinds.PrefixKind}
use Rattle.arc_table.specs.{declared.arc.TableArc.TableArc, declared.state.TableState.TableState}
use Rattle.arc_table.specs.Runs.{weight_of, AcceptingRun, Accepts, IsLeastWord, IsLeastFrom}
use Rattle.arc_table.proofs.SomeWord.{some_word}
use Rattle.violation.specs.{Candidates.{IsOptimalFor, IsLeastVector, count_at}, Problems.{Problem, last_stage}}
use Rattle.violation.proofs.{Ranks.{least_count, optimal_by_count}, StageLemmas.optimal_for_fewer}
use Rattle.kind_tables.specs.StageTables.{IsStage, IsStageTable}
use Rattle.stage_laws.proofs.Resting.{at_most_le, le_at_most, first_weight}
use Rattle.kind_tables.proofs.Weighing.{run_weight_law}

module _ (problem : Problem) (r : ℕ) (stage : IsStage problem r) {g : Ghosts Count}
    (meaning : g.meaning ≡ count_meaning) (names : List PrefixKind) (states : List (TableState Count g))
    (table : IsStageTable problem r names states) (ranked : 1 ≤ r) where
  -- the violations of constraint r
  abbrev count : List (List Sym) → ℕ
  count T = count_at problem r T

  weight_count : (arcs : List (TableArc Count g)) (T : List (List Sym)) → AcceptingRun states T arcs
      → (weight_of arcs).0 ≡ count T
  weight_count arcs T run = run_weight_law problem r stage meaning names states table ranked arcs T run

  pub least_optimal : (T : List (List Sym)) → IsLeastWord states T → IsOptimalFor problem r T
  least_optimal T word =
      optimal_by_count problem r stage.within ranked T ((table.accepts T).0 (word.0, word.1)) (λ U other.
      let accepted : Accepts states U = (table.accepts U).1 other in
      omega (
        arith,
        at_most_le meaning (weight_of word.0) (weight_of accepted.0) (word.2 U accepted.0 accepted.1),
        weight_count word.0 T word.1,
        weight_count accepted.0 U accepted.1,
      ))

  pub optimal_least : (T : List (List Sym)) → IsOptimalFor problem r T → IsLeastWord states T
  optimal_least T opt = (accepted.0, accepted.1, least)
    where
      before : IsOptimalFor problem (r - 1) T
      before = optimal_for_fewer problem (r - 1) r (omega arith) T opt

      accepted : Accepts states T
      accepted = (table.accepts T).1 before

      least : (U : List (List Sym)) (others : List (TableArc Count g)) → AcceptingRun states U others
          → AtMost g.meaning (weight_of accepted.0) (weight_of others)
      least U others run =
          let bound : count T ≤ count U = least_count problem r stage.within ranked T U opt
          ((table.accepts U).0 (others, run)) in
          le_at_most meaning (weight_of accepted.0) (weight_of others)
          (omega (arith, bound, weight_count accepted.0 T accepted.1, weight_count others U run))

  pub words_law : (T : List (List Sym)) → IsLeastWord states T ↔ IsOptimalFor problem r T
  words_law T = (least_optimal T, optimal_least T)

  -- the least weight from the start is what every r-optimal candidate violates of constraint r
  pub number_law : (w : Count) → IsLeastFrom states 0 w → (T : List (List Sym)) → IsOptimalFor problem r T
      → count_at problem r T ≡ w.0
  number_law w from T opt =
      let word : IsLeastWord states T = optimal_least T opt in
      let found = from.some in
      let q = some_word states table.named.filled 0 found.0 found.1 in
      let weight : (weight_of found.0).0 ≡ w.0 = ap (λ (n : Count). n.0) found.2 in
      omega (
        arith,
        weight_count word.0 T word.1,
        weight,
        at_most_le meaning w (weight_of word.0) (from.least word.0 word.1.run),
        at_most_le meaning (weight_of word.0) (weight_of found.0)
            (word.2 q.0 found.0 (record { run = found.1; reads = q.1 })),
      )

  pub vector_law : (w : Count) → IsLeastFrom states 0 w → (v : List ℕ) → IsLeastVector problem v
      → get_or v (r - 1) 0 ≡ w.0
  vector_law w from v least =
      let best = least.some in
      ap (λ (ns : List ℕ). get_or ns (r - 1) 0) (sym best.1.1)
      ∙ number_law w from best.0 (optimal_for_fewer problem r (last_stage problem) stage.within best.0 best.1.0)

module _ {g : Ghosts Count} (meaning : g.meaning ≡ count_meaning) (names : List PrefixKind)
    (states : List (TableState Count g)) (problem : Problem) where
  -- at stage 0 nothing weighs, and each word is of least weight
  first_words : IsStage problem 0 → IsStageTable problem 0 names states → (T : List (List Sym))
      → IsLeastWord states T ↔ IsOptimalFor problem 0 T
  first_words stage table T = (
    λ w. (table.accepts T).0 (w.0, w.1),
    λ o.
        let accepted : Accepts states T = (table.accepts T).1 o in (
          accepted.0,
          accepted.1,
          λ U others run. le_at_most meaning (weight_of accepted.0) (weight_of others)
              (omega (
                arith,
                first_weight meaning names states problem stage table accepted.0 T 0 accepted.1.run accepted.1.reads,
              )),
        ),
  )

  pub all_words_law : (r : ℕ) → IsStage problem r → IsStageTable problem r names states → (T : List (List Sym))
      → IsLeastWord states T ↔ IsOptimalFor problem r T
  all_words_law zero stage table = first_words stage table
  all_words_law (suc i) stage table = words_law problem (suc i) stage meaning names states table (omega arith)
