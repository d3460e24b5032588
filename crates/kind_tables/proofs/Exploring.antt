-- A table that is found from the pruned one is named by kinds, and accepts the same words.
use Rattle.std.proofs.Common.{◌≡◌, ◌↔◌, ℕ, suc, ◌<◌, ◌≤◌, List, [], ◌∷◌, length, sym, ap, ◌∙◌, subst, arith}
use Rattle.std.specs.Prelude.{Contains, IsTrue}
use Rattle.weight_law.specs.{declared.Weight.Ghosts, declared.count.Count.Count}
use Rattle.tier_core.specs.{declared.sym.Sym.Sym, Classes.has, Kinds.PrefixKind}
use Rattle.arc_table.specs.{declared.arc.TableArc.TableArc, declared.state.TableState.TableState, Moves.moves_at}
use Rattle.arc_table.specs.Runs.{IsRun, Reads, Accepts, IsOnRun}
use Rattle.arc_table.proofs.{Push.moves_exist, SomeWord.some_word}
use Rattle.violation.specs.{Moves.{FitsKind, next_kind, is_final, cut_kind}, Problems.Problem}
use Rattle.kind_tables.specs.StageTables.{IsStage, name_of, GoesAsKinds, AreNamedByKinds}
use Rattle.kind_tables.specs.FoundTables.{HasMoveOn, base_of, AreFoundFrom}
use Rattle.violation.proofs.CutLemmas.{cut_kind-next_kind, cut_kind-kind_of, fits-cut}
use Rattle.kind_tables.proofs.{Naming.same_state, Paths.reached_path}

module _ (problem : Problem) (r n : ℕ) (further : r ≤ n) {V : Type 0} {h : Ghosts V} (pruned_names : List PrefixKind)
    (pruned : List (TableState V h)) (before : AreNamedByKinds problem r pruned_names pruned) where
  -- a move of the pruned table, at a kind that is cut to the name of its state
  pub fits_from_cut : (k : PrefixKind) (b : ℕ) (a : TableArc V h) (column : List Sym)
      → cut_kind problem r k ≡ name_of pruned_names b → Contains (moves_at pruned b) a → IsTrue (has a.class column)
      → FitsKind problem k column
  fits_from_cut k b a column name here reads =
      (fits-cut problem r k column).0 (subst (λ n. FitsKind problem n column) (sym name)
      (before.moves b a column here reads).fits)

  pub cut_leads : (k : PrefixKind) (b : ℕ) (a : TableArc V h) (column : List Sym)
      → cut_kind problem r k ≡ name_of pruned_names b → Contains (moves_at pruned b) a → IsTrue (has a.class column)
      → cut_kind problem r (next_kind problem n k column) ≡ name_of pruned_names a.target
  cut_leads k b a column name here reads =
      cut_kind-next_kind problem r n further k column ∙ ap (λ n. next_kind problem r n column) name
      ∙ sym (before.moves b a column here reads).leads

  module _ (stage : IsStage problem r) {g : Ghosts Count} (bases : List ℕ) (names : List PrefixKind)
      (states : List (TableState Count g))
      (found : AreFoundFrom problem r n pruned_names pruned bases names states) where
    -- moves on one column lead to a state and to its base
    based_alike : (s : ℕ) (arc : TableArc Count g) (a : TableArc V h) (column : List Sym)
        → Contains (moves_at states s) arc → IsTrue (has arc.class column)
        → Contains (moves_at pruned (base_of bases s)) a → IsTrue (has a.class column)
        → base_of bases arc.target ≡ a.target
    based_alike s arc a column here reads there holds =
        let inside : s < length states = moves_exist states s arc here in
        let target : arc.target < length states = found.targets s arc here in
        let name : name_of pruned_names (base_of bases arc.target) ≡ name_of pruned_names a.target =
        sym (found.cuts arc.target target) ∙ ap (cut_kind problem r) (found.leads s arc column here reads)
        ∙ cut_leads (name_of names s) (base_of bases s) a column (found.cuts s inside) there holds in
        same_state problem r stage pruned_names pruned before (base_of bases arc.target) a.target
        (found.based arc.target target) (before.targets (base_of bases s) a there) name

    start_base : base_of bases 0 ≡ 0
    start_base =
        same_state problem r stage pruned_names pruned before (base_of bases 0) 0 (found.based 0 found.some) before.some
        (sym (found.cuts 0 found.some) ∙ ap (cut_kind problem r) found.start ∙ cut_kind-kind_of problem r n further []
        ∙ sym before.start)

    run_back : (arcs : List (TableArc Count g)) (p : List (List Sym)) (s : ℕ) → s < length states
        → IsRun states s arcs → Reads arcs p
        → (others : List (TableArc V h)) × IsRun pruned (base_of bases s) others × Reads others p
    run_back [] [] s inside run reads = ([], sym (found.ends s inside) ∙ run, tt)
    run_back [] (column ∷ p) s inside run reads = absurd reads
    run_back (arc ∷ arcs) [] s inside run reads = absurd reads
    run_back (arc ∷ arcs) (column ∷ p) s inside run reads =
        let move : HasMoveOn pruned (base_of bases s) column = (found.columns s column inside).0
        (arc, run.0, reads.0) in
        let rest = run_back arcs p arc.target (found.targets s arc run.0) run.1 reads.1 in
        let on : IsRun pruned move.0.target rest.0 = subst (λ t. IsRun pruned t rest.0)
        (based_alike s arc move.0 column run.0 reads.0 move.1 move.2) rest.1 in
        (move.0 ∷ rest.0, (move.1, on), (move.2, rest.2))

    run_on : (others : List (TableArc V h)) (p : List (List Sym)) (s : ℕ) → s < length states
        → IsRun pruned (base_of bases s) others → Reads others p
        → (arcs : List (TableArc Count g)) × IsRun states s arcs × Reads arcs p
    run_on [] [] s inside run reads = ([], found.ends s inside ∙ run, tt)
    run_on [] (column ∷ p) s inside run reads = absurd reads
    run_on (a ∷ others) [] s inside run reads = absurd reads
    run_on (a ∷ others) (column ∷ p) s inside run reads =
        let move : HasMoveOn states s column = (found.columns s column inside).1 (a, run.0, reads.0) in
        let on : IsRun pruned (base_of bases move.0.target) others = subst (λ t. IsRun pruned t others)
        (sym (based_alike s move.0 a column move.1 move.2 run.0 reads.0)) run.1 in
        let rest = run_on others p move.0.target (found.targets s move.0 move.1) on reads.1 in
        (move.0 ∷ rest.0, (move.1, rest.1), (move.2, rest.2))

    -- it accepts the same words
    pub same_words : (T : List (List Sym)) → Accepts states T ↔ Accepts pruned T
    same_words T = (
      λ w.
          let back = run_back w.0 T 0 found.some w.1.run w.1.reads in
          (back.0, record { run = subst (λ t. IsRun pruned t back.0) start_base back.1; reads = back.2 }),
      λ w.
          let on = run_on w.0 T 0 found.some (subst (λ t. IsRun pruned t w.0) (sym start_base) w.1.run) w.1.reads in
          (on.0, record { run = on.1; reads = on.2 }),
    )

    -- each state is on a run where each base is
    pub found_on_runs : ((b : ℕ) → b < length pruned → IsOnRun pruned b) → (s : ℕ) → s < length states
        → IsOnRun states s
    found_on_runs on_runs s inside =
        let path = reached_path states found.reached (suc s) s (omega arith) inside in
        let on : IsOnRun pruned (base_of bases s) = on_runs (base_of bases s) (found.based s inside) in
        let q = some_word pruned before.filled (base_of bases s) on.2.0 on.2.1 in
        let run = run_on on.2.0 q.0 s inside on.2.1 q.1 in
        (path.0, path.1, (run.0, run.1))

    go_on : (s : ℕ) (arc : TableArc Count g) (column : List Sym) → Contains (moves_at states s) arc
        → IsTrue (has arc.class column) → GoesAsKinds problem n names s arc column
    go_on s arc column here reads =
        let inside : s < length states = moves_exist states s arc here in
        let move : HasMoveOn pruned (base_of bases s) column = (found.columns s column inside).0 (arc, here, reads) in
        record {
          fits = fits_from_cut (name_of names s) (base_of bases s) move.0 column (found.cuts s inside) move.1 move.2;
          leads = found.leads s arc column here reads;
        }

    pub found_named : AreNamedByKinds problem n names states
    found_named = record {
      each_named = found.each_named;
      distinct = found.distinct;
      some = found.some;
      start = found.start;
      ends = λ s l. found.ends s l ∙ before.ends (base_of bases s) (found.based s l)
          ∙ ap (is_final problem) (sym (found.cuts s l));
      moves = go_on;
      targets = found.targets;
      filled = found.filled;
    }
