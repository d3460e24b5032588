-- From the table of a stage to that of the next: prune it, and go on by kinds under one constraint more.
use Rattle.std.proofs.Common.{◌↔◌, ◌≤◌, take, Contains, ◌≡◌, ℕ, ◌+◌, ◌<◌, List, length, arith}
use Rattle.weight_law.specs.{Count.count_meaning, declared.Weight.Ghosts, declared.count.Count.Count}
use Rattle.tier_core.specs.{declared.sym.Sym.Sym, Kinds.PrefixKind}
use Rattle.arc_table.specs.{declared.state.TableState.TableState, Conditions.{TargetsExist, ClassesFilled}}
use Rattle.arc_table.specs.{declared.arc.TableArc.TableArc, Runs.{IsPath, Reads, Accepts}}
use Rattle.violation.specs.{Candidates.IsOptimalFor, Prefixes.kind_of, Stages.IsPassed, Problems.Problem}
use Rattle.prune_best.specs.Tight.{IsTight}
use Rattle.kind_tables.specs.StageTables.{IsStage, name_of, AreNamedByKinds, AreWeighed, IsStageTable}
use Rattle.kind_tables.specs.FoundTables.{names_kept, AreFoundFrom}
use Rattle.kind_tables.proofs.{Exploring.{found_named, found_on_runs, same_words}, Following.next_table}
use Rattle.kind_tables.proofs.Naming.{names_law, prefix_path}
use Rattle.stage_laws.proofs.{Optimal.all_words_law, Pruned.kept_named}

module _ (problem : Problem) (r : ℕ) (stage : IsStage problem r) {g : Ghosts Count}
    (meaning : g.meaning ≡ count_meaning) (names : List PrefixKind) (states : List (TableState Count g))
    (table : IsStageTable problem r names states) {V : Type 0} {h : Ghosts V} (pruned : List (TableState V h))
    (old : List ℕ) (tight : IsTight states pruned old) (some : 0 < length pruned) (targets : TargetsExist pruned)
    (filled : ClassesFilled pruned) where
  named : AreNamedByKinds problem r (names_kept names old) pruned
  named = kept_named problem r stage names states table.named pruned old tight some targets filled

  -- the pruned table accepts the r-optimal candidates
  optimal_words : (T : List (List Sym)) → Accepts pruned T ↔ IsOptimalFor problem r T
  optimal_words T =
      let law = all_words_law meaning names states problem r stage table T in
      (λ a. law.0 ((tight.accepts T).0 a), λ o. (tight.accepts T).1 (law.1 o))

  -- its names are the kinds that these pass
  pub kept_kinds : (k : PrefixKind) → Contains (names_kept names old) k ↔ IsPassed problem r r k
  kept_kinds = names_law problem r stage (names_kept names old) pruned named r optimal_words tight.on_runs

  pub kept_paths : (T : List (List Sym)) (n : ℕ) → IsOptimalFor problem r T → n ≤ length T
      → (s : ℕ) × ((arcs : List (TableArc V h)) × IsPath pruned 0 arcs s × Reads arcs (take n T)) ×
      ((s < length pruned) × (name_of (names_kept names old) s ≡ kind_of problem r (take n T)))
  kept_paths = prefix_path problem r stage (names_kept names old) pruned named r optimal_words

  more : r ≤ r + 1
  more = omega arith

  -- what is found from it is the next stage's table
  pub next_stage : (bases : List ℕ) (kinds : List PrefixKind) (found : List (TableState Count g))
      → AreFoundFrom problem r (r + 1) (names_kept names old) pruned bases kinds found
      → AreWeighed problem (r + 1) kinds found
      → IsStageTable problem (r + 1) kinds found
  next_stage bases kinds found from weighed =
      next_table problem r kinds found (found_named problem r (r + 1) more
      (names_kept names old) pruned named stage bases kinds found from) weighed
      (λ T. let same = same_words problem r (r + 1) more
      (names_kept names old) pruned named stage bases kinds found from T in
      (λ a. (optimal_words T).0 (same.0 a), λ o. same.1 ((optimal_words T).1 o)))
      (found_on_runs problem r (r + 1) more
      (names_kept names old) pruned named stage bases kinds found from tight.on_runs)
