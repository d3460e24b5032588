-- What is left of the table of a single pass is the automaton of the optimal candidates.
use Rattle.std.proofs.Common.{◌≡◌, ◌↔◌, ℕ, ◌≤◌, ◌<◌, List, take, length, Contains}
use Rattle.weight_law.specs.{Ranked.ranked_meaning, declared.Weight.Ghosts, declared.ranked.Ranked.Ranked}
use Rattle.tier_core.specs.{declared.sym.Sym.Sym, Kinds.PrefixKind}
use Rattle.arc_table.specs.{declared.arc.TableArc.TableArc, declared.state.TableState.TableState}
use Rattle.arc_table.specs.{Conditions.{TargetsExist, ClassesFilled}, Runs.{IsPath, Reads, Accepts}}
use Rattle.prune_best.specs.Tight.{IsTight}
use Rattle.violation.specs.{Candidates.IsOptimal, Prefixes.kind_of, Rests.IsWholeKind, Stages.IsPassed}
use Rattle.violation.specs.Problems.{Problem, last_stage}
use Rattle.kind_tables.specs.{StageTables.{IsStage, name_of, AreNamedByKinds}, FoundTables.names_kept}
use Rattle.kind_tables.specs.RankedTables.{IsRankedTable}
use Rattle.stage_laws.proofs.{LeastVectors.{optimal_words, zero_words}, Pruned.kept_named}
use Rattle.kind_tables.proofs.Naming.{names_law, prefix_path}

module _ (problem : Problem) (stage : IsStage problem (last_stage problem)) (few : last_stage problem ≤ 24)
    {g : Ghosts Ranked} (meaning : g.meaning ≡ ranked_meaning) (names : List PrefixKind)
    (states : List (TableState Ranked g)) (table : IsRankedTable problem names states) where
  -- its names are the kinds under all constraints of prefixes of candidates
  pub whole_names : (k : PrefixKind) → Contains names k ↔ IsWholeKind problem k
  whole_names =
      names_law problem (last_stage problem) stage names states table.named 0
      (zero_words problem stage few meaning names states table) table.on_runs

  module _ {V : Type 0} {h : Ghosts V} (pruned : List (TableState V h)) (old : List ℕ)
      (tight : IsTight states pruned old)
      (some : 0 < length pruned) (targets : TargetsExist pruned) (filled : ClassesFilled pruned) where
    pub once_named : AreNamedByKinds problem (last_stage problem) (names_kept names old) pruned
    once_named = kept_named problem
        (last_stage problem) stage names states table.named pruned old tight some targets filled

    -- the pruned table accepts the optimal candidates
    pub once_words : (T : List (List Sym)) → Accepts pruned T ↔ IsOptimal problem T
    once_words T =
        let law = optimal_words problem stage few meaning names states table T in
        (λ a. law.0 ((tight.accepts T).0 a), λ o. (tight.accepts T).1 (law.1 o))

    -- its names are the kinds that these pass
    pub once_kinds : (k : PrefixKind)
        → Contains (names_kept names old) k ↔ IsPassed problem (last_stage problem) (last_stage problem) k
    once_kinds = names_law problem (last_stage problem) stage (names_kept names old) pruned once_named
        (last_stage problem) once_words tight.on_runs

    -- reading a prefix of one ends at the state of its kind
    pub once_paths : (T : List (List Sym)) (n : ℕ) → IsOptimal problem T → n ≤ length T
        → (s : ℕ) × ((arcs : List (TableArc V h)) × IsPath pruned 0 arcs s × Reads arcs (take n T))
        × ((s < length pruned) × (name_of (names_kept names old) s ≡ kind_of problem (last_stage problem) (take n T)))
    once_paths = prefix_path problem (last_stage problem) stage (names_kept names old) pruned once_named
        (last_stage problem) once_words
