-- Paths and runs of a table: their parts, and what they read.
use Rattle.std.proofs.Common.{zero, suc, IsTrue, Contains, ℕ, ◌<◌, false, List, [], ◌∷◌, ◌++◌, map, length, refl}
use Rattle.std.proofs.{Common.{sym, ◌∙◌, subst, arith, inl, inr}, lemmas.Bool.{cases_lt, false≢true}}
use Rattle.std.proofs.lemmas.List.{get_or_past, length-map}
use Rattle.weight_law.specs.declared.Weight.{Ghosts}
use Rattle.tier_core.specs.{declared.sym.Sym.Sym, FirstColumn.first_column}
use Rattle.arc_table.specs.{declared.arc.TableArc.TableArc, declared.state.TableState.TableState}
use Rattle.arc_table.specs.{Conditions.ClassesFilled, Moves.{moves_at, accepting_at}, Runs.{IsRun, IsPath, Reads}}
use Rattle.tier_core.proofs.Filled.{has-first_column}
use Rattle.kind_tables.specs.FoundTables.{AreReached}
use Rattle.arc_table.proofs.Push.{moves_exist}

-- a run from s in two parts, of which the first reads p and the second q
pub record IsParted {W : Type 0} {g : Ghosts W} (states : List (TableState W g)) (s : ℕ)
    (p q : List (List Sym)) : Type 0 where
  pub middle : ℕ
  pub before : List (TableArc W g)
  pub after : List (TableArc W g)
  pub path : IsPath states s before middle
  pub reads_before : Reads before p
  pub run : IsRun states middle after
  pub reads_after : Reads after q

module _ {W : Type 0} {g : Ghosts W} (states : List (TableState W g)) where
  -- only states have runs
  pub run_exists : (s : ℕ) (arcs : List (TableArc W g)) → IsRun states s arcs → s < length states
  run_exists s [] run = elim (cases_lt s (length states)) [
    | inl l ↦ l
    | inr l ↦ absurd (false≢true (sym (get_or_past (map (λ s. s.accepting) states) s false
        (omega (arith, length-map states (λ s. s.accepting)))) ∙ run))
  ]
  run_exists s (arc ∷ arcs) run = moves_exist states s arc run.0

  -- a run that reads a word in two parts is a path and a run
  pub parted : (p q : List (List Sym)) (s : ℕ) (arcs : List (TableArc W g)) → IsRun states s arcs
      → Reads arcs (p ++ q) → IsParted states s p q
  parted [] q s arcs run reads = record {
    middle = s;
    before = [];
    after = arcs;
    path = refl;
    reads_before = tt;
    run = run;
    reads_after = reads;
  }
  parted (column ∷ p) q s [] run reads = absurd reads
  parted (column ∷ p) q s (arc ∷ arcs) run reads =
      let rest : IsParted states arc.target p q = parted p q arc.target arcs run.1 reads.1 in
      record {
        middle = rest.middle;
        before = arc ∷ rest.before;
        after = rest.after;
        path = (run.0, rest.path);
        reads_before = (reads.0, rest.reads_before);
        run = rest.run;
        reads_after = rest.reads_after;
      }

  pub joined_run : (before after : List (TableArc W g)) (s t : ℕ) → IsPath states s before t → IsRun states t after
      → IsRun states s (before ++ after)
  joined_run [] after s t path run = subst (λ x. IsRun states x after) (sym path) run
  joined_run (arc ∷ before) after s t path run = (path.0, joined_run before after arc.target t path.1 run)

  pub joined_reads : (before after : List (TableArc W g)) (p q : List (List Sym)) → Reads before p → Reads after q
      → Reads (before ++ after) (p ++ q)
  joined_reads [] after [] q r s = s
  joined_reads [] after (column ∷ p) q r s = absurd r
  joined_reads (arc ∷ before) after [] q r s = absurd r
  joined_reads (arc ∷ before) after (column ∷ p) q r s = (r.0, joined_reads before after p q r.1 s)

  pub path_push : (arcs : List (TableArc W g)) (s t : ℕ) (arc : TableArc W g) → IsPath states s arcs t
      → Contains (moves_at states t) arc → IsPath states s (arcs ++ arc ∷ []) arc.target
  path_push [] s t arc path here = (subst (λ x. Contains (moves_at states x) arc) (sym path) here, refl)
  path_push (first ∷ arcs) s t arc path here = (path.0, path_push arcs first.target t arc path.1 here)

  -- a run is a path to an accepting state
  pub run_path : (s : ℕ) (arcs : List (TableArc W g)) → IsRun states s arcs
      → (t : ℕ) × IsPath states s arcs t × IsTrue (accepting_at states t)
  run_path s [] run = (s, refl, run)
  run_path s (arc ∷ arcs) run = let rest = run_path arc.target arcs run.1 in (rest.0, (run.0, rest.1), rest.2)

  -- a path reads a word
  pub path_word : ClassesFilled states → (s t : ℕ) (arcs : List (TableArc W g)) → IsPath states s arcs t
      → (word : List (List Sym)) × Reads arcs word
  path_word filled s t [] path = ([], tt)
  path_word filled s t (arc ∷ arcs) path =
      let rest = path_word filled arc.target t arcs path.1 in
      (first_column arc.class ∷ rest.0, (has-first_column arc.class (filled s arc path.0), rest.1))

  -- each state is reached from the start
  pub reached_path : AreReached states → (n s : ℕ) → s < n → s < length states
      → (arcs : List (TableArc W g)) × IsPath states 0 arcs s
  reached_path from zero s l inside = absurd (omega arith)
  reached_path from (suc n) zero l inside = ([], refl)
  reached_path from (suc n) (suc s) l inside =
      let last = from (suc s) (omega arith) inside in
      let path = reached_path from n last.0 (omega (arith, last.1)) (omega (arith, last.1)) in
      let arc : TableArc W g = last.2.0 in (
        path.0 ++ arc ∷ [],
        subst (IsPath states 0 (path.0 ++ arc ∷ [])) last.2.2
            (path_push path.0 0 last.0 arc path.1 last.2.1),
      )
