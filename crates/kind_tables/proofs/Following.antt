-- What is a stage's table, and how one follows another.
use Rattle.std.proofs.Common.{◌<◌, length, ◌≡◌, ◌↔◌, ℕ, ◌+◌, ◌-◌, List, sym, subst, arith}
use Rattle.weight_law.specs.{declared.Weight.Ghosts, declared.count.Count.Count}
use Rattle.tier_core.specs.{declared.sym.Sym.Sym, Kinds.PrefixKind}
use Rattle.arc_table.specs.{declared.state.TableState.TableState, Runs.{Accepts, IsOnRun}}
use Rattle.violation.specs.{Candidates.{IsCandidate, IsOptimalFor}, Problems.Problem}
use Rattle.violation.proofs.StageLemmas.{all_optimal}
use Rattle.kind_tables.specs.StageTables.{AreNamedByKinds, AreWeighed, IsStageTable}

pub first_table : (problem : Problem) {g : Ghosts Count} (names : List PrefixKind) (states : List (TableState Count g))
    → AreNamedByKinds problem 0 names states → AreWeighed problem 0 names states
    → ((T : List (List Sym)) → Accepts states T ↔ IsCandidate problem T)
    → ((s : ℕ) → s < length states → IsOnRun states s) → IsStageTable problem 0 names states
first_table problem names states named weighed accepts on_runs = record {
  named = named;
  weighed = weighed;
  accepts = λ T. (λ a. all_optimal problem T ((accepts T).0 a), λ o. (accepts T).1 o.candidate);
  on_runs = on_runs;
}

pub next_table : (problem : Problem) (r : ℕ) {g : Ghosts Count} (names : List PrefixKind)
    (states : List (TableState Count g))
    → AreNamedByKinds problem (r + 1) names states → AreWeighed problem (r + 1) names states
    → ((T : List (List Sym)) → Accepts states T ↔ IsOptimalFor problem r T)
    → ((s : ℕ) → s < length states → IsOnRun states s) → IsStageTable problem (r + 1) names states
next_table problem r names states named weighed accepts on_runs =
    let before : r + 1 - 1 ≡ r = omega arith in
    record {
      named = named;
      weighed = weighed;
      accepts = λ T. subst (λ n. Accepts states T ↔ IsOptimalFor problem n T) (sym before) (accepts T);
      on_runs = on_runs;
    }
