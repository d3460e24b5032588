-- The least weights of a stage's table are what remains to be counted.
use Rattle.std.proofs.Common.{◌≡◌, ℕ, zero, suc, ◌+◌, ◌-◌, ◌<◌, ◌≤◌, false, List, ◌++◌, take, drop, length, get_or}
use Rattle.std.proofs.{Common.{Option, None, Some, refl, sym, ap, ◌∙◌, subst, arith, inl, inr}, lemmas.Bool.cases_lt}
use Rattle.std.proofs.{lemmas.Bool.Decides.nat_tests, lemmas.List.get_or_past}
use Rattle.std.specs.Prelude.{nat_lt, MatchOption, IsSome}
use Rattle.weight_law.specs.{Meaning.AtMost, Count.count_meaning, declared.Weight.Ghosts, declared.count.Count.Count}
use Rattle.tier_core.specs.{declared.sym.Sym.Sym, Kinds.PrefixKind}
use Rattle.arc_table.specs.{declared.arc.TableArc.TableArc, declared.state.TableState.TableState}
use Rattle.arc_table.specs.Runs.{IsRun, Reads, weight_of, IsLeastFrom, HasNoRun, IsOnRun}
use Rattle.distances.specs.Least.{AreLeast}
use Rattle.arc_table.proofs.SomeWord.{some_word}
use Rattle.violation.specs.{Candidates.{count_at, count_so_far_at}, Prefixes.kind_of}
use Rattle.violation.specs.{Stages.{Passes, IsLeastRest, IsRemaining}, Walks.walk_costs, Problems.Problem}
use Rattle.violation.proofs.{CostLemmas.length_walk, StageLemmas.over_first}
use Rattle.violation.proofs.CutCandidates.{candidate_cut, count_cut, so_far_cut}
use Rattle.kind_tables.specs.StageTables.{IsStage, name_of, IsStageTable}
use Rattle.kind_tables.proofs.Paths.{IsParted, run_exists, path_word}
use Rattle.kind_tables.proofs.Naming.{path_kind, same_state, passes_state, passed_state}
use Rattle.kind_tables.proofs.Weighing.{run_weight, rest_weight}

pub le_from_test : (x y : ℕ) → nat_lt y x ≡ false → x ≤ y
le_from_test x y e = grind (arith, nat_tests)

pub test_from_le : (x y : ℕ) → x ≤ y → nat_lt y x ≡ false
test_from_le x y l = grind (arith, nat_tests)

module _ {g : Ghosts Count} (meaning : g.meaning ≡ count_meaning) where
  -- counts are compared as numbers
  pub at_most_le : (a b : Count) → AtMost g.meaning a b → a.0 ≤ b.0
  at_most_le a b h = le_from_test a.0 b.0 (subst (λ m. m.below b a ≡ false) meaning h)

  pub le_at_most : (a b : Count) → a.0 ≤ b.0 → AtMost g.meaning a b
  le_at_most a b l = subst (λ m. m.below b a ≡ false) (sym meaning) (test_from_le a.0 b.0 l)

-- the state of a weight has it as its least
pub least_from : {W : Type 0} {g : Ghosts W} (states : List (TableState W g)) (least : List (Option W))
    → AreLeast states least → (s : ℕ) (w : W) → get_or least s None ≡ Some w → IsLeastFrom states s w
least_from {W} states least are s w e = elim (cases_lt s (length states)) [
  | inl l ↦ (let P : Option W → Type 0 = λ o. MatchOption o (HasNoRun states s) (IsLeastFrom states s) in subst P e
      (are.each s l))
  | inr l ↦ (let gone : get_or least s None ≡ None = get_or_past least s None (omega (arith, are.each_state)) in cc)
]

-- a state with a run has a weight
pub some_weight : {W : Type 0} {g : Ghosts W} (states : List (TableState W g)) (least : List (Option W))
    → AreLeast states least → (s : ℕ) → s < length states → IsOnRun states s → IsSome (get_or least s None)
some_weight {W} states least are s l on = go (get_or least s None) (are.each s l)
  where
    go : (o : Option W) → MatchOption o (HasNoRun states s) (IsLeastFrom states s) → IsSome o
    go None h = absurd (h on.2.0 on.2.1)
    go (Some w) h = refl

module _ (problem : Problem) (r : ℕ) (stage : IsStage problem r) {g : Ghosts Count}
    (meaning : g.meaning ≡ count_meaning) (names : List PrefixKind) (states : List (TableState Count g))
    (table : IsStageTable problem r names states) where
  module _ (ranked : 1 ≤ r) where
    -- what an (r-1)-optimal candidate violates after a prefix of the kind that names s is at least
    -- the least weight from s
    least_of_all : (s : ℕ) (w : Count) → s < length states → IsLeastFrom states s w → (T : List (List Sym)) (n : ℕ)
        → Passes problem (r - 1) r (name_of names s) T n
        → count_so_far_at problem r T n + w.0 ≤ count_at problem r T
    least_of_all s w here from T n passes =
        let found = passed_state problem r stage names states table.named (r - 1) table.accepts
        (name_of names s) T n passes in
        let parts : IsParted states 0 (take n T) (drop n T) = found.0 in
        let same : parts.middle ≡ s = same_state problem r stage names states table.named parts.middle s
        (run_exists states parts.middle parts.after parts.run) here found.1 in
        let run : IsRun states s parts.after = subst (λ x. IsRun states x parts.after) same parts.run in
        let rest = rest_weight problem r stage meaning names states table.named table.weighed ranked parts.after s
        (take n T) (drop n T) (sym passes.of_kind) run parts.reads_after
        (candidate_cut problem T n passes.optimal.candidate) in
        let bound : w.0 ≤ (weight_of parts.after).0 = at_most_le meaning w (weight_of parts.after)
        (from.least parts.after run) in
        omega (arith, rest, count_cut problem T n r, so_far_cut problem T n r passes.within, bound)

    pub least_rest : (s : ℕ) (w : Count) → IsLeastFrom states s w → IsLeastRest problem r (name_of names s) w.0
    least_rest s w from =
        let found = from.some in
        let here : s < length states = run_exists states s found.0 found.1 in
        let on : IsOnRun states s = table.on_runs s here in
        let p = path_word states table.named.filled 0 s on.0 on.1 in
        let q = some_word states table.named.filled s found.0 found.1 in
        let passes : Passes problem (r - 1) r (name_of names s) (p.0 ++ q.0) (length p.0) =
        passes_state problem r stage names states table.named
        (r - 1) table.accepts on.0 found.0 s p.0 q.0 on.1 p.1 found.1 q.1 in
        let name : name_of names s
        ≡ kind_of problem r p.0 = path_kind problem r stage names states table.named on.0 s p.0 on.1 p.1 in
        record {
          some = (
            p.0 ++ q.0,
            (
              length p.0,
              (
                passes,
                rest_weight problem r stage meaning names states table.named table.weighed ranked found.0 s p.0 q.0
                    name found.1 q.1 passes.optimal.candidate
                    ∙ ap (λ (n : Count). count_so_far_at problem r (p.0 ++ q.0) (length p.0) + n.0) found.2,
              ),
            ),
          );
          least = least_of_all s w here from;
        }

-- at stage 0 no run weighs anything
pub first_weight : {g : Ghosts Count} (meaning : g.meaning ≡ count_meaning) (names : List PrefixKind)
    (states : List (TableState Count g)) (problem : Problem) (stage : IsStage problem 0)
    → IsStageTable problem 0 names states
    → (arcs : List (TableArc Count g)) (p : List (List Sym)) (s : ℕ) → IsRun states s arcs → Reads arcs p
    → (weight_of arcs).0 ≡ 0
first_weight meaning names states problem stage table arcs p s run reads =
    run_weight problem 0 stage meaning names states table.named table.weighed arcs p s run reads
    ∙ get_or_past (walk_costs problem 0 (name_of names s) p) (0 - 1) 0
    (omega (arith, length_walk problem 0 stage.split stage.form (over_first problem 0 stage) p (name_of names s)))

-- the least weights are what remains
pub remaining_law : (problem : Problem) (r : ℕ) (stage : IsStage problem r) {g : Ghosts Count}
    (meaning : g.meaning ≡ count_meaning) (names : List PrefixKind) (states : List (TableState Count g))
    (table : IsStageTable problem r names states) (s : ℕ) (w : Count) → IsLeastFrom states s w
    → IsRemaining problem r (name_of names s) w.0
remaining_law problem zero stage meaning names states table s w from =
    let found = from.some in
    let q = some_word states table.named.filled s found.0 found.1 in
    ap (λ (n : Count). n.0) (sym found.2)
    ∙ first_weight meaning names states problem stage table found.0 q.0 s found.1 q.1
remaining_law problem (suc i) stage meaning names states table s w from = least_rest problem
    (suc i) stage meaning names states table (omega arith) s w from
