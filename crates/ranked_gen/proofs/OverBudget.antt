-- The kinds of a stage can be listed, whatever table the stage before has left. So a stage of which
-- more kinds than a budget are found is over it.
use Rattle.std.proofs.Common.{filter, ◌≡◌, ◌≢◌, ℕ, zero, suc, ◌+◌, ◌-◌, ◌<◌, ◌≤◌, ◌⊎◌, inl, inr, Bool, true, false}
use Rattle.std.proofs.Common.{cond, List, [], ◌∷◌, ◌++◌, map, take, drop, length, get_or, refl, sym, ap, ap₂, ◌∙◌}
use Rattle.std.proofs.{Common.{subst, arith, ⊎_elim, Contains}, lemmas.Bool.cases_order}
use Rattle.std.proofs.{lemmas.List.{length-map, take-append-drop}, lemmas.List.Filters.length-filter_more}
use Rattle.std.specs.{Prelude.◌↔◌, List.{range_with_len, flat_map}}
use Rattle.weight_law.specs.{declared.Weight.Ghosts, declared.unit_weight.UnitWeight.UnitWeight}
use Rattle.tier_core.specs.{declared.sym.Sym.Sym, declared.constraint.Constraint.Constraint}
use Rattle.tier_core.specs.{Kinds.{Phase, closed, unmet, met, PrefixKind, kind_order}, Sides.is_stretch}
use Rattle.arc_table.specs.{declared.arc.TableArc.TableArc, declared.state.TableState.TableState}
use Rattle.arc_table.specs.{Conditions.{TargetsExist, ClassesFilled}, Moves.moves_at, Runs.{Accepts, IsPath, Reads}}
use Rattle.arc_table.proofs.SomeWord.{some_word}
use Rattle.violation.specs.{Candidates.{IsCandidate, IsOptimalFor}, Moves.{next_kind, cut_kind}}
use Rattle.violation.specs.{Prefixes.{kind_of, phase, stretches}, Stages.{IsPassed, AreKindsOfStage}, Walks.walk_end}
use Rattle.violation.specs.Problems.{last_stage, Problem}
use Rattle.violation.proofs.{WalkLemmas.{moves_begin, reached_is}, CutLemmas.cut_kind-kind_of}
use Rattle.violation.proofs.{StageLemmas.over_stretches, CutCandidates.{prefix_passed, candidate_cut}}
use Rattle.kind_tables.specs.StageTables.{IsStage, name_of, AreNamedByKinds}
use Rattle.kind_tables.proofs.{Naming.path_kind, Paths.{IsParted, parted, joined_run, joined_reads, path_push}}
use Rattle.stage_tables.specs.Kept.{AreKeptByKinds}
use Rattle.tier_core.proofs.{KindTies.same_or_not, Members.{contains_map, contains_of_map, contains_first}}
use Rattle.tier_core.proofs.{Members.{contains_later, contains_flat, contains_of_flat}, RangeMembers.range_has}
use Rattle.tier_core.proofs.Differing.{Differ, no_longer}
use Rattle.ranked_gen.specs.Budgets.{IsOver}
use Rattle.ranked_gen.proofs.{ClassColumns.{columns_in, in_columns, of_columns}, Ascending.sorted_from}
use Rattle.ranked_gen.proofs.{SortedKinds.sorted_kinds, Closures.{IsClosed, closure}}

-- a state and a kind over it
abbrev Place : Type 0
Place = ℕ × PrefixKind

same_place : (x y : Place) → (x ≡ y) ⊎ (x ≢ y)
same_place (s, k) (t, l) = ⊎_elim
    (λ es. ⊎_elim (λ ek. inl (ap₂ (λ n (q : PrefixKind). (n, q)) es ek))
    (λ other. inr (λ e. other (ap (λ (p : Place). p.1) e))) (same_or_not k l))
    (λ other. inr (λ e. ⊎_elim (λ less. omega (arith, less, ap (λ (p : Place). p.0) e))
    (λ more. omega (arith, more, ap (λ (p : Place). p.0) e)) other))
    (cases_order s t)

-- a kind with one phase more
abbrev with_phase : PrefixKind → Phase → PrefixKind
with_phase k p = record { place = k.place; opened = k.opened; phases = k.phases ++ p ∷ [] }

-- a kind with no phase more, or one
abbrev longer : PrefixKind → List PrefixKind
longer k = k ∷ with_phase k closed ∷ with_phase k unmet ∷ with_phase k met ∷ []

abbrev kind_by : ℕ → List Bool → List Phase → PrefixKind
kind_by place opened phases = record { place = place; opened = opened; phases = phases }

any_phase : (k : PrefixKind) (p : Phase) → Contains (longer k) (with_phase k p)
any_phase k closed =
    let rest = with_phase k unmet ∷ with_phase k met ∷ [] in
    contains_later k (with_phase k closed ∷ rest) (with_phase k closed) (contains_first (with_phase k closed) rest)
any_phase k unmet =
    let rest = with_phase k met ∷ [] in
    contains_later k (with_phase k closed ∷ with_phase k unmet ∷ rest) (with_phase k unmet)
    (contains_later (with_phase k closed) (with_phase k unmet ∷ rest) (with_phase k unmet)
    (contains_first (with_phase k unmet) rest))
any_phase k met =
    let last = with_phase k met ∷ [] in
    contains_later k (with_phase k closed ∷ with_phase k unmet ∷ last) (with_phase k met)
    (contains_later (with_phase k closed) (with_phase k unmet ∷ last) (with_phase k met)
    (contains_later (with_phase k unmet) last (with_phase k met) (contains_first (with_phase k met) [])))

-- a list with one element at most behind its first is the first, or has one more
take_longer : (n : ℕ) (ps : List Phase) → length ps ≤ n + 1
    → (ps ≡ take n ps) ⊎ ((p : Phase) × (ps ≡ take n ps ++ p ∷ []))
take_longer zero [] l = inl refl
take_longer zero (p ∷ []) l = inr (p, refl)
take_longer zero (p ∷ q ∷ ps) l = absurd (omega arith)
take_longer (suc n) [] l = inl refl
take_longer (suc n) (p ∷ ps) l = ⊎_elim (λ e. inl (ap (λ qs. p ∷ qs) e))
    (λ more. inr (more.0, ap (λ qs. p ∷ qs) more.1)) (take_longer n ps (omega arith))

reached_push : (problem : Problem) (r : ℕ) (k : PrefixKind) (p : List (List Sym)) (column : List Sym)
    → walk_end problem r k (p ++ column ∷ []) ≡ next_kind problem r (walk_end problem r k p) column
reached_push problem r k [] column = refl
reached_push problem r k (c ∷ p) column = reached_push problem r (next_kind problem r k c) p column

reads_push : {g : Ghosts UnitWeight} (arcs : List (TableArc UnitWeight g)) (arc : TableArc UnitWeight g)
    (p : List (List Sym)) (column : List Sym) → Reads arcs p → Reads (arc ∷ []) (column ∷ [])
    → Reads (arcs ++ arc ∷ []) (p ++ column ∷ [])
reads_push arcs arc p column a b = joined_reads [] arcs (arc ∷ []) p (column ∷ []) a b

bit_most : (b : Bool) → cond b 1 0 ≤ 1
bit_most true = omega arith
bit_most false = omega arith

-- one constraint more has one stretch implication more at most
one_stretch : (cs : List Constraint) (r : ℕ) → r < length cs
    → length (filter is_stretch (take (r + 1) cs)) ≤ length (filter is_stretch (take r cs)) + 1
one_stretch [] r l = absurd (omega arith)
one_stretch (c ∷ cs) r l =
    let e = length-filter_more is_stretch (c ∷ cs) r c l in
    let b = bit_most (is_stretch (get_or (c ∷ cs) r c)) in
    omega (arith, e, b)

module _ (problem : Problem) (r : ℕ) (stage : IsStage problem r) (next : IsStage problem (r + 1))
    {g : Ghosts UnitWeight} (names : List PrefixKind) (kept : List (TableState UnitWeight g)) (some : 0 < length kept)
    (targets : TargetsExist kept) (filled : ClassesFilled kept) (by : AreKeptByKinds problem r names kept)
    (accepts : (T : List (List Sym)) → Accepts kept T ↔ IsOptimalFor problem r T) where
  named : AreNamedByKinds problem r names kept
  named = by.named

  -- where a place goes on to
  abbrev step : PrefixKind → TableArc UnitWeight g → List Sym → Place
  step k arc column = (arc.target, next_kind problem (r + 1) k column)

  abbrev steps : PrefixKind → TableArc UnitWeight g → List Place
  steps k arc = map (step k arc) (columns_in arc.class)

  abbrev onward : Place → List Place
  onward (s, k) = flat_map (steps k) (moves_at kept s)

  -- a place that is gone to by the columns of a path
  record IsGone (x : Place) : Type 0 where
    pub inside : x.0 < length kept
    pub columns : List (List Sym)
    pub arcs : List (TableArc UnitWeight g)
    pub path : IsPath kept 0 arcs x.0
    pub reads : Reads arcs columns
    pub tells : walk_end problem (r + 1) (kind_of problem (r + 1) []) columns ≡ x.1

  goes_on : (x y : Place) → IsGone x → Contains (onward x) y → IsGone y
  goes_on (s, k) y gone c =
      let a = contains_of_flat (steps k) (moves_at kept s) y c in
      let arc : TableArc UnitWeight g = a.0 in
      let b = contains_of_map (step k arc) (columns_in arc.class) y a.1.1 in
      let column : List Sym = b.0 in
      let there : IsGone (step k arc column) = record {
        inside = targets s arc a.1.0;
        columns = gone.columns ++ column ∷ [];
        arcs = gone.arcs ++ arc ∷ [];
        path = path_push kept gone.arcs 0 s arc gone.path a.1.0;
        reads = reads_push gone.arcs arc gone.columns column gone.reads (of_columns arc.class column b.1.0, tt);
        tells = reached_push problem (r + 1) (kind_of problem (r + 1) []) gone.columns column
            ∙ ap (λ q. next_kind problem (r + 1) q column) gone.tells;
      } in
      subst IsGone b.1.1 there

  -- a run goes on from it, so its columns begin an r-optimal candidate
  begun : (x : Place) → (gone : IsGone x) → (q : List (List Sym)) × IsOptimalFor problem r (gone.columns ++ q)
  begun x gone =
      let on = by.on_runs x.0 gone.inside in
      let q = some_word kept filled x.0 on.2.0 on.2.1 in (
        q.0,
        (accepts (gone.columns ++ q.0)).0 (
          gone.arcs ++ on.2.0,
          record {
            run = joined_run kept gone.arcs on.2.0 0 x.0 gone.path on.2.1;
            reads = joined_reads kept gone.arcs on.2.0 gone.columns q.0 gone.reads q.1;
          },
        ),
      )

  of_kind : (p q : List (List Sym)) → IsCandidate problem (p ++ q)
      → walk_end problem (r + 1) (kind_of problem (r + 1) []) p ≡ kind_of problem (r + 1) p
  of_kind p q c =
      let over = over_stretches problem (r + 1) next in
      reached_is problem (r + 1) stage.split stage.form over p
      ((moves_begin problem (r + 1) stage.split stage.form over p).1 (q, c))

  kind_gone : (x : Place) (gone : IsGone x) → x.1 ≡ kind_of problem (r + 1) gone.columns
  kind_gone x gone = let b = begun x gone in sym gone.tells ∙ of_kind gone.columns b.0 b.1.candidate

  gone_kind : (x : Place) → IsGone x → IsPassed problem r (r + 1) x.1
  gone_kind x gone =
      let b = begun x gone in
      prefix_passed problem r (r + 1) gone.columns b.0 b.1 (sym (kind_gone x gone))

  -- ---- there are only so many

  abbrev bound : List Place
  bound = flat_map (λ s. map (λ k. (s, k)) (longer (name_of names s))) (range_with_len 0 (length kept))

  is_longer : (n k : PrefixKind) → cut_kind problem r k ≡ n → length k.phases ≤ length (stretches problem r) + 1
      → Contains (longer n) k
  is_longer n k e l = ⊎_elim
      (λ same. let one : k ≡ cut_kind problem r k = ap (kind_by k.place k.opened) same in
      subst (Contains (longer n)) (sym (one ∙ e))
      (contains_first n (with_phase n closed ∷ with_phase n unmet ∷ with_phase n met ∷ [])))
      (λ more. let one : k ≡ with_phase (cut_kind problem r k) more.0 = ap (kind_by k.place k.opened) more.1 in
      subst (Contains (longer n)) (sym (one ∙ ap (λ q. with_phase q more.0) e)) (any_phase n more.0))
      (take_longer (length (stretches problem r)) k.phases l)

  bounded : (x : Place) → IsGone x → Contains bound x
  bounded (s, k) gone =
      let x : Place = (s, k) in
      let p = gone.columns in
      let whole = kind_gone x gone in
      let less : r ≤ r + 1 = omega arith in
      let cuts : cut_kind problem r k ≡ name_of names s =
      ap (cut_kind problem r) whole ∙ cut_kind-kind_of problem r (r + 1) less p
      ∙ sym (path_kind problem r stage names kept named gone.arcs s p gone.path gone.reads) in
      let room : r < last_stage problem = omega (arith, next.within) in
      let phases : length k.phases ≡ length (stretches problem (r + 1)) = ap
      (λ (q : PrefixKind). length q.phases) whole
      ∙ length-map (stretches problem (r + 1)) (λ c. phase c.left c.right p) in
      let few : length k.phases ≤ length (stretches problem r) + 1 = omega
      (arith, phases, one_stretch problem.constraints r room) in
      contains_flat (λ s. map (λ k. (s, k)) (longer (name_of names s))) (range_with_len 0 (length kept)) s (s, k)
      (range_has 0 (length kept) s (omega arith) (omega (arith, gone.inside)))
      (contains_map (λ k. (s, k)) (longer (name_of names s)) k (is_longer (name_of names s) k cuts few))

  first_gone : IsGone (0, kind_of problem (r + 1) [])
  first_gone = record { inside = some; columns = []; arcs = []; path = refl; reads = tt; tells = refl }

  module _ (all : List Place) (is : IsClosed same_place onward IsGone goes_on bound bounded
      (0, kind_of problem (r + 1) []) all) where
    -- paths stay in what is closed
    stays : (arcs : List (TableArc UnitWeight g)) (p : List (List Sym)) (s t : ℕ) (k : PrefixKind)
        → IsPath kept s arcs t → Reads arcs p → Contains all (s, k) → Contains all (t, walk_end problem (r + 1) k p)
    stays [] [] s t k path reads c = subst (λ n. Contains all (n, k)) path c
    stays [] (column ∷ p) s t k path reads c = absurd reads
    stays (arc ∷ arcs) [] s t k path reads c = absurd reads
    stays (arc ∷ arcs) (column ∷ p) s t k path reads c =
        let here : Contains all (step k arc column) = is.onward (s, k) (step k arc column) c
        (contains_flat (steps k) (moves_at kept s) arc (step k arc column) path.0
        (contains_map (step k arc) (columns_in arc.class) column (in_columns arc.class column reads.0))) in
        stays arcs p arc.target t (next_kind problem (r + 1) k column) path.1 reads.1 here

    kinds_all : (k : PrefixKind) → Contains (map (λ (x : Place). x.1) all) k ↔ IsPassed problem r (r + 1) k
    kinds_all k = (
      λ c. let x = contains_of_map (λ (x : Place). x.1) all k c in subst (IsPassed problem r (r + 1)) x.1.1
          (gone_kind x.0 (is.good x.0 x.1.0)),
      λ passed.
          let T = passed.candidate in
          let n = passed.columns in
          let a = (accepts T).1 passed.passes.optimal in
          let parts : IsParted kept 0 (take n T) (drop n T) = parted kept (take n T) (drop n T) 0 a.0 a.1.run
          (subst (Reads a.0) (sym (take-append-drop n T)) a.1.reads) in
          let there = stays parts.before (take n T) 0 parts.middle
          (kind_of problem (r + 1) []) parts.path parts.reads_before is.first in
          let whole = candidate_cut problem T n passed.passes.optimal.candidate in
          let same : walk_end problem (r + 1) (kind_of problem (r + 1) []) (take n T)
          ≡ k = of_kind (take n T) (drop n T) whole ∙ passed.passes.of_kind in
          subst (Contains (map (λ (x : Place). x.1) all)) same
          (contains_map (λ (x : Place). x.1) all
          (parts.middle, walk_end problem (r + 1) (kind_of problem (r + 1) []) (take n T)) there),
    )

  -- the kinds of the next stage, in kind order
  pub next_kinds : (ks : List PrefixKind) × AreKindsOfStage problem (r + 1) ks
  next_kinds =
      let found = closure same_place onward IsGone goes_on bound bounded (0, kind_of problem (r + 1) []) first_gone in
      let sorted = sorted_kinds (map (λ (x : Place). x.1) found.0) in
      let before : r + 1 - 1 ≡ r = omega arith in (
        sorted.0,
        record {
          ascending = sorted_from kind_order sorted.0 sorted.1.0;
          members = λ k.
              let law = kinds_all found.0 found.1 k in
              subst (λ n. Contains sorted.0 k ↔ IsPassed problem n (r + 1) k) (sym before)
              (λ c. law.0 ((sorted.1.1 k).0 c), λ p. (sorted.1.1 k).1 (law.1 p));
        },
      )

  -- more kinds than a budget, each of a prefix of what is kept
  pub over_budget : (budget : ℕ) (kinds : List PrefixKind) → Differ kinds
      → ((k : PrefixKind) → Contains kinds k
      → (p : List (List Sym)) × ((q : List (List Sym)) × (Accepts kept (p ++ q) × (kind_of problem (r + 1) p ≡ k))))
      → budget < length kinds
      → IsOver problem budget (r + 1)
  over_budget budget kinds differ each more =
      let all = next_kinds in
      let before : r ≡ r + 1 - 1 = omega arith in
      let inside : (k : PrefixKind) → Contains kinds k → Contains all.0 k = λ k c.
      let m = each k c in
      let p = m.0 in
      let q = m.1.0 in
      let passed : IsPassed problem r (r + 1) k =
      prefix_passed problem r (r + 1) p q ((accepts (p ++ q)).0 m.1.1.0) m.1.1.1 in
      (all.1.members k).1 (subst (λ n. IsPassed problem n (r + 1) k) before passed) in
      let few = no_longer all.0 kinds inside differ in
      record { kinds = all.0; are = all.1; more = omega (arith, more, few) }
