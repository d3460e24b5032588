-- A table of kinds with all their moves accepts exactly the candidates.
use Rattle.std.proofs.Common.{◌≡◌, ◌↔◌, ℕ, suc, ◌<◌, IsTrue, List, [], ◌∷◌, ◌++◌, length, sym, ap, ◌∙◌, subst}
use Rattle.std.proofs.Common.{arith, append-nil}
use Rattle.weight_law.specs.declared.Weight.{Ghosts}
use Rattle.tier_core.specs.{declared.sym.Sym.Sym, Kinds.PrefixKind}
use Rattle.arc_table.specs.{declared.arc.TableArc.TableArc, declared.state.TableState.TableState}
use Rattle.arc_table.specs.Runs.{IsRun, IsPath, Reads, Accepts, IsOnRun}
use Rattle.violation.specs.{Candidates.IsCandidate, Moves.is_final, Prefixes.kind_of}
use Rattle.violation.specs.{Walks.{HasMoves, walk_end, BeginsCandidate}, Problems.Problem}
use Rattle.violation.proofs.WalkLemmas.{begun_of, walk_on, candidate_walk, candidate_final, moves_begin, moves_end}
use Rattle.violation.proofs.{WalkLemmas.reached_is, StageLemmas.over_stretches}
use Rattle.kind_tables.specs.StageTables.{IsStage, name_of, GoesAsKinds, AreNamedByKinds}
use Rattle.kind_tables.specs.FoundTables.{HasMoveOn, AreReached, HaveAllMoves}
use Rattle.kind_tables.proofs.{Naming.path_moves, Paths.{run_exists, run_path, path_word, reached_path}}

module _ (problem : Problem) (r : ℕ) (stage : IsStage problem r) {W : Type 0} {g : Ghosts W} (names : List PrefixKind)
    (states : List (TableState W g)) (named : AreNamedByKinds problem r names states)
    (all : HaveAllMoves problem names states) where
  -- moves of kinds from the name of a state to a final kind are a run from it
  walk_run : (p : List (List Sym)) (s : ℕ) → s < length states → HasMoves problem r (name_of names s) p
      → IsTrue (is_final problem (walk_end problem r (name_of names s) p))
      → (arcs : List (TableArc W g)) × IsRun states s arcs × Reads arcs p
  walk_run [] s inside moves final = ([], named.ends s inside ∙ final, tt)
  walk_run (column ∷ p) s inside moves final =
      let move : HasMoveOn states s column = all s column inside moves.0 in
      let arc : TableArc W g = move.0 in
      let goes : GoesAsKinds problem r names s arc column = named.moves s arc column move.1 move.2 in
      let rest = walk_run p arc.target (named.targets s arc move.1)
      (subst (λ k. HasMoves problem r k p) (sym goes.leads) moves.1)
      (ap (λ k. is_final problem (walk_end problem r k p)) goes.leads ∙ final) in
      (arc ∷ rest.0, (move.1, rest.1), (move.2, rest.2))

  -- a path from the start reads moves from the kind of the empty prefix
  start_moves : (arcs : List (TableArc W g)) (s : ℕ) (p : List (List Sym)) → IsPath states 0 arcs s → Reads arcs p
      → HasMoves problem r (kind_of problem r []) p × (walk_end problem r (kind_of problem r []) p ≡ name_of names s)
  start_moves arcs s p path reads =
      let walk = path_moves problem r stage names states named arcs p 0 s path reads in (
        subst (λ k. HasMoves problem r k p) named.start walk.0,
        ap (λ k. walk_end problem r k p) (sym named.start)
            ∙ walk.1,
      )

  -- what follows a prefix of a candidate goes by moves to a final kind
  rest_moves : (p q : List (List Sym)) → IsCandidate problem (p ++ q)
      → HasMoves problem r (kind_of problem r p) q × IsTrue
      (is_final problem (walk_end problem r (kind_of problem r p) q))
  rest_moves p q c =
      let over = over_stretches problem r stage in
      let moves : HasMoves problem r (kind_of problem r p) q =
      candidate_walk problem r stage.split stage.form over q p []
      (subst (λ v. IsCandidate problem (p ++ v)) (sym (append-nil q)) c) in
      let last = (walk_on problem r stage.split stage.form over q p (begun_of problem p q c) moves).1 in
      (moves, ap (is_final problem) last ∙ candidate_final problem r stage.split stage.form over (p ++ q) c)

  rest_run : (s : ℕ) → s < length states → (p : List (List Sym)) → kind_of problem r p ≡ name_of names s
      → BeginsCandidate problem p → (arcs : List (TableArc W g)) × IsRun states s arcs
  rest_run s inside p name begins =
      let rest = rest_moves p begins.0 begins.1 in
      let run = walk_run begins.0 s inside (subst (λ k. HasMoves problem r k begins.0) name rest.0)
      (subst (λ k. IsTrue (is_final problem (walk_end problem r k begins.0))) name rest.1) in
      (run.0, run.1)

  -- its words are exactly the candidates
  pub complete_words : (T : List (List Sym)) → Accepts states T ↔ IsCandidate problem T
  complete_words T = (
    λ a.
        let path = run_path states 0 a.0 a.1.run in
        let walk = start_moves a.0 path.0 T path.1 a.1.reads in
        (moves_end problem r stage.split stage.form (over_stretches problem r stage) T).0
        (walk.0, ap (is_final problem) walk.1 ∙ sym (named.ends path.0 (run_exists states path.0 [] path.2)) ∙ path.2),
    λ c.
        let walk = (moves_end problem r stage.split stage.form (over_stretches problem r stage) T).1 c in
        let run = walk_run T 0 named.some (subst (λ k. HasMoves problem r k T) (sym named.start) walk.0)
        (ap (λ k. is_final problem (walk_end problem r k T)) named.start ∙ walk.1) in
        (run.0, record { run = run.1; reads = run.2 }),
  )

  -- each state that is reached is on a run
  pub complete_on_runs : AreReached states → (s : ℕ) → s < length states → IsOnRun states s
  complete_on_runs from s inside =
      let path = reached_path states from (suc s) s (omega arith) inside in
      let p = path_word states named.filled 0 s path.0 path.1 in
      let over = over_stretches problem r stage in
      let walk = start_moves path.0 s p.0 path.1 p.1 in
      let begins : BeginsCandidate problem p.0 = (moves_begin problem r stage.split stage.form over p.0).0 walk.0 in
      let name : kind_of problem r p.0 ≡ name_of names s = sym
      (reached_is problem r stage.split stage.form over p.0 walk.0) ∙ walk.1 in
      (path.0, path.1, rest_run s inside p.0 name begins)
