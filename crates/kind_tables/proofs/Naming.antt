-- The names of a table of kinds are the kinds that its words pass.
use Rattle.std.proofs.Common.{◌≤◌, ◌≡◌, ◌↔◌, ℕ, ◌<◌, List, [], ◌∷◌, ◌++◌, length, take, drop, refl, sym, ap, ◌∙◌}
use Rattle.std.proofs.{Common.{subst, arith, inl, inr}, lemmas.Bool.cases_order}
use Rattle.std.proofs.lemmas.List.{get_or_default, take-append-drop}
use Rattle.std.specs.Prelude.{Contains}
use Rattle.weight_law.specs.declared.Weight.{Ghosts}
use Rattle.tier_core.specs.{declared.sym.Sym.Sym, Kinds.PrefixKind}
use Rattle.arc_table.specs.{declared.arc.TableArc.TableArc, declared.state.TableState.TableState}
use Rattle.arc_table.specs.Runs.{IsRun, IsPath, Reads, Accepts, IsOnRun}
use Rattle.arc_table.proofs.SomeWord.{some_word}
use Rattle.violation.specs.{Candidates.IsOptimalFor, Prefixes.kind_of, Stages.{Passes, IsPassed}}
use Rattle.violation.specs.{Walks.{HasMoves, walk_end}, Problems.Problem}
use Rattle.violation.proofs.{StageLemmas.over_stretches, WalkLemmas.reached_is, CutCandidates.prefix_passes}
use Rattle.kind_tables.specs.StageTables.{IsStage, name_of, GoesAsKinds, AreNamedByKinds}
use Rattle.kind_tables.proofs.Paths.{IsParted, run_exists, parted, joined_run, joined_reads, path_word}

module _ (problem : Problem) (r : ℕ) (stage : IsStage problem r) where
  module _ {W : Type 0} {g : Ghosts W} (names : List PrefixKind) (states : List (TableState W g)) where
    module _ (named : AreNamedByKinds problem r names states) where
      -- a path reads moves of kinds, from the name of its first state to that of its last
      pub path_moves : (arcs : List (TableArc W g)) (p : List (List Sym)) (s t : ℕ) → IsPath states s arcs t
          → Reads arcs p
          → HasMoves problem r (name_of names s) p × (walk_end problem r (name_of names s) p ≡ name_of names t)
      path_moves [] [] s t path reads = (tt, ap (name_of names) path)
      path_moves [] (column ∷ p) s t path reads = absurd reads
      path_moves (arc ∷ arcs) [] s t path reads = absurd reads
      path_moves (arc ∷ arcs) (column ∷ p) s t path reads =
          let move : GoesAsKinds problem r names s arc column = named.moves s arc column path.0 reads.0 in
          let rest : HasMoves problem r (name_of names arc.target) p ×
          (walk_end problem r (name_of names arc.target) p ≡ name_of names t) =
          path_moves arcs p arc.target t path.1 reads.1 in (
            (move.fits, subst (λ k. HasMoves problem r k p) move.leads rest.0),
            ap (λ k. walk_end problem r k p) (sym move.leads) ∙ rest.1,
          )

      -- a path from the start ends at the kind of what it reads
      pub path_kind : (arcs : List (TableArc W g)) (s : ℕ) (p : List (List Sym)) → IsPath states 0 arcs s
          → Reads arcs p → name_of names s ≡ kind_of problem r p
      path_kind arcs s p path reads =
          let walk = path_moves arcs p 0 s path reads in
          let moves : HasMoves problem r (kind_of problem r []) p = subst
          (λ k. HasMoves problem r k p) named.start walk.0 in
          sym walk.1 ∙ ap (λ k. walk_end problem r k p) named.start
          ∙ reached_is problem r stage.split stage.form (over_stretches problem r stage) p moves

      -- a state has a name of its own
      pub same_state : (s t : ℕ) → s < length states → t < length states → name_of names s ≡ name_of names t → s ≡ t
      same_state s t a b e = elim (cases_order s t) [
        | inl same ↦ same
        | inr other ↦ elim other [
          | inl less ↦ absurd (named.distinct s t _ less (omega (arith, named.each_named)) e)
          | inr more ↦ absurd (named.distinct t s _ more (omega (arith, named.each_named)) (sym e))
        ]
      ]

    -- where it accepts the t-optimal candidates
    module _ (named : AreNamedByKinds problem r names states) (t : ℕ)
        (accepts : (T : List (List Sym)) → Accepts states T ↔ IsOptimalFor problem t T) where
      -- a path from the start and a run after it read a t-optimal candidate, which passes the state between
      pub passes_state : (before after : List (TableArc W g)) (s : ℕ) (p q : List (List Sym))
          → IsPath states 0 before s → Reads before p → IsRun states s after → Reads after q
          → Passes problem t r (name_of names s) (p ++ q) (length p)
      passes_state before after s p q path first run rest =
          prefix_passes problem t r p q ((accepts (p ++ q)).0 (
            before ++ after,
            record {
              run = joined_run states before after 0 s path run;
              reads = joined_reads states before after p q first rest;
            },
          )) (sym (path_kind named before s p path first))

      -- a t-optimal candidate is read in two parts, by way of the state that its first part's kind names
      pub passed_state : (k : PrefixKind) (T : List (List Sym)) (n : ℕ) → Passes problem t r k T n
          → (parts : IsParted states 0 (take n T) (drop n T)) × (name_of names parts.middle ≡ k)
      passed_state k T n passes =
          let accepted : Accepts states T = (accepts T).1 passes.optimal in
          let parts : IsParted states 0 (take n T) (drop n T) =
          parted states (take n T) (drop n T) 0 accepted.0 accepted.1.run
          (subst (Reads accepted.0) (sym (take-append-drop n T)) accepted.1.reads) in
          (parts, path_kind named parts.before parts.middle (take n T) parts.path parts.reads_before ∙ passes.of_kind)

      -- so each of its prefixes is
      pub prefix_path : (T : List (List Sym)) (n : ℕ) → IsOptimalFor problem t T → n ≤ length T
          → (s : ℕ) × ((arcs : List (TableArc W g)) × IsPath states 0 arcs s × Reads arcs (take n T)) ×
          ((s < length states) × (name_of names s ≡ kind_of problem r (take n T)))
      prefix_path T n opt l =
          let found = passed_state (kind_of problem r (take n T)) T n
          (record { optimal = opt; within = l; of_kind = refl }) in
          let parts : IsParted states 0 (take n T) (drop n T) = found.0 in (
            parts.middle,
            (parts.before, parts.path, parts.reads_before),
            (run_exists states parts.middle parts.after parts.run, found.1),
          )

      module _ (on_runs : (s : ℕ) → s < length states → IsOnRun states s) where
        name_passed : (s : ℕ) → s < length states → IsPassed problem t r (name_of names s)
        name_passed s l =
            let on : IsOnRun states s = on_runs s l in
            let p = path_word states named.filled 0 s on.0 on.1 in
            let q = some_word states named.filled s on.2.0 on.2.1 in
            record {
              candidate = p.0 ++ q.0;
              columns = length p.0;
              passes = passes_state on.0 on.2.0 s p.0 q.0 on.1 p.1 on.2.1 q.1;
            }

        passed_name : (k : PrefixKind) → IsPassed problem t r k → Contains names k
        passed_name k passed =
            let found = passed_state k passed.candidate passed.columns passed.passes in
            let within : found.0.middle < length names = omega
            (arith, run_exists states found.0.middle found.0.after found.0.run, named.each_named) in
            (found.0.middle, within, get_or_default names found.0.middle k _ within ∙ found.1)

        -- the names are exactly the kinds that t-optimal candidates pass
        pub names_law : (k : PrefixKind) → Contains names k ↔ IsPassed problem t r k
        names_law k = (
          λ c. subst (IsPassed problem t r) (get_or_default names c.0 _ k c.1 ∙ c.2)
              (name_passed c.0 (omega (arith, c.1, named.each_named))),
          passed_name k,
        )
