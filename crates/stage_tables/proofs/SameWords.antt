-- Tables of which one has a move to the same state on each column on which the other has one.
use Rattle.std.proofs.Common.{◌≡◌, ℕ, List, [], ◌∷◌, sym, subst}
use Rattle.std.specs.Prelude.{Contains, IsTrue}
use Rattle.weight_law.specs.declared.Weight.{Ghosts}
use Rattle.tier_core.specs.{declared.sym.Sym.Sym, Classes.has}
use Rattle.arc_table.specs.{declared.arc.TableArc.TableArc, declared.state.TableState.TableState}
use Rattle.arc_table.specs.{Conditions.ClassesFilled, Moves.{moves_at, accepting_at}}
use Rattle.arc_table.specs.Runs.{IsRun, IsPath, Reads, Accepts, IsOnRun}
use Rattle.arc_table.proofs.SomeWord.{some_word}
use Rattle.kind_tables.proofs.Paths.{path_word}

-- the new table accepts where the old one does, and has a move to the same state on each column
pub record GoesWith {W V : Type 0} {g : Ghosts W} {h : Ghosts V} (old : List (TableState W g))
    (new : List (TableState V h)) : Type 0 where
  pub ends : (s : ℕ) → IsTrue (accepting_at old s) → IsTrue (accepting_at new s)
  pub moves : (s : ℕ) (a : TableArc W g) (column : List Sym) → Contains (moves_at old s) a
      → IsTrue (has a.class column)
      → (b : TableArc V h) × Contains (moves_at new s) b × IsTrue (has b.class column) × (b.target ≡ a.target)

module _ {W V : Type 0} {g : Ghosts W} {h : Ghosts V} (old : List (TableState W g)) (new : List (TableState V h))
    (goes : GoesWith old new) where
  path_with : (arcs : List (TableArc W g)) (p : List (List Sym)) (s t : ℕ) → IsPath old s arcs t → Reads arcs p
      → (others : List (TableArc V h)) × IsPath new s others t
  path_with [] p s t path reads = ([], path)
  path_with (a ∷ arcs) [] s t path reads = absurd reads
  path_with (a ∷ arcs) (column ∷ p) s t path reads =
      let b = goes.moves s a column path.0 reads.0 in
      let rest = path_with arcs p a.target t path.1 reads.1 in
      (b.0 ∷ rest.0, (b.1, rw b.3 rest.1))

  run_with : (arcs : List (TableArc W g)) (p : List (List Sym)) (s : ℕ) → IsRun old s arcs → Reads arcs p
      → (others : List (TableArc V h)) × IsRun new s others × Reads others p
  run_with [] [] s run reads = ([], goes.ends s run, tt)
  run_with [] (column ∷ p) s run reads = absurd reads
  run_with (a ∷ arcs) [] s run reads = absurd reads
  run_with (a ∷ arcs) (column ∷ p) s run reads =
      let b = goes.moves s a column run.0 reads.0 in
      let rest = run_with arcs p a.target run.1 reads.1 in
      (b.0 ∷ rest.0, (b.1, rw b.3 rest.1), (b.2, rest.2))

  pub words_with : (T : List (List Sym)) → Accepts old T → Accepts new T
  words_with T a =
      let run = run_with _ T 0 a.1.run a.1.reads in
      (run.0, record { run = run.1; reads = run.2 })

  -- a state that is on a run stays on one
  pub on_runs_with : ClassesFilled old → (s : ℕ) → IsOnRun old s → IsOnRun new s
  on_runs_with filled s on =
      let p = path_word _ filled 0 s _ on.1 in
      let q = some_word _ filled s _ on.2.1 in
      let path = path_with _ _ 0 s on.1 p.1 in
      let run = run_with _ _ s on.2.1 q.1 in
      (path.0, path.1, (run.0, run.1))
