-- The automaton of what the last stage leaves is right.
use Rattle.std.proofs.Common.{◌≡◌, ℕ, ◌<◌, List, ◌++◌, length, take, drop, get_or, refl, sym, ap, ◌∙◌, subst, arith}
use Rattle.std.proofs.{Common.Contains, lemmas.List.{get_or_default, get_or-map, length-map, take-append-drop}}
use Rattle.std.proofs.lemmas.List.Elements.{Contains-get_or}
use Rattle.weight_law.specs.{declared.Weight.Ghosts, declared.unit_weight.UnitWeight.UnitWeight}
use Rattle.tier_core.specs.{declared.sym.Sym.Sym, Classes.sets_of, Kinds.PrefixKind, FirstColumn.first_column}
use Rattle.tier_core.proofs.{ClassLemmas.same_width, Filled.has-first_column}
use Rattle.arc_table.specs.{declared.state.TableState.TableState, Conditions.ClassesFilled, Runs.Reads}
use Rattle.arc_table.proofs.SomeWord.{some_word}
use Rattle.violation.specs.{Prefixes.kind_of, Stages.IsPassed, Problems.{last_stage, Problem}}
use Rattle.answer_text.specs.{declared.stage.Node.Node, declared.automaton.StateLine.StateLine}
use Rattle.answer_text.specs.Right.{IsNodeOf, IsRightAutomaton}
use Rattle.kind_tables.proofs.Paths.{IsParted, run_exists, parted, joined_run, joined_reads, path_word}
use Rattle.kind_orders.specs.{Orderings.{IsOrdering, AreRanks}, AutomatonLines.state_nodes}
use Rattle.kind_orders.specs.Automata.{HasWidth, ReadsTo, IsAutomatonOf}
use Rattle.ranked_gen.specs.{Left.IsNodeOfKind, OptimalParts.IsOptimalPart}
use Rattle.violation.proofs.CutCandidates.{prefix_passed}

node_of : (problem : Problem) (nodes : List Node) (n : ℕ) (k : PrefixKind)
    → IsNodeOfKind problem (last_stage problem) nodes n k → IsNodeOf problem nodes n k
node_of problem nodes n k t = record { node = t.node; numbered = t.numbered; tells = t.tells }

module _ {g : Ghosts UnitWeight} (problem : Problem) (nodes : List Node) (kept : List (TableState UnitWeight g))
    (filled : ClassesFilled kept) (some : 0 < length kept) (states order ranks : List ℕ)
    (left : IsOptimalPart problem (last_stage problem) nodes kept states order)
    (numbers : IsOrdering (length order) ranks) (told : AreRanks order ranks) where
  abbrev rank_of : ℕ → ℕ
  rank_of s = get_or ranks (get_or states s 0) 0

  has_rank : (s : ℕ) → s < length kept → get_or (state_nodes ranks states) s 0 ≡ rank_of s
  has_rank s l = get_or-map (λ i. get_or ranks i 0) states s 0 0 (omega (arith, left.ordered.each_state))

  number_inside : (s : ℕ) → s < length kept → get_or states s 0 < length order
  number_inside s l = left.ordered.inside s 0 (omega (arith, left.ordered.each_state))

  rank_inside : (s : ℕ) → s < length kept → rank_of s < length order
  rank_inside s l = numbers.below (get_or states s 0) 0 (omega (arith, number_inside s l, numbers.count))

  at_rank : (s : ℕ) → s < length kept → get_or order (rank_of s) 0 ≡ get_or states s 0
  at_rank s l = told.back (get_or states s 0) (omega (arith, number_inside s l, numbers.count))

  start : get_or (state_nodes ranks states) 0 0 ≡ 0
  start = let one : 0 < length order = omega (arith, number_inside 0 some) in has_rank 0 some
      ∙ ap (λ i. get_or ranks i 0) (sym left.start) ∙ told.forth 0 one

  state_node : (s : ℕ) (p : List (List Sym)) → s < length kept → ReadsTo kept p s
      → IsNodeOf problem nodes (get_or (state_nodes ranks states) s 0) (kind_of problem (last_stage problem) p)
  state_node s p l r = node_of problem nodes (get_or (state_nodes ranks states) s 0)
      (kind_of problem (last_stage problem) p)
      (subst (λ n. IsNodeOfKind problem (last_stage problem) nodes n (kind_of problem (last_stage problem) p))
      (sym (has_rank s l))
      (left.tells p s (rank_of s) l r (rank_inside s l) (at_rank s l)))

  node_passed : (s : ℕ) → s < length kept
      → (k : PrefixKind) × (IsNodeOf problem nodes (get_or (state_nodes ranks states) s 0) k × IsPassed problem
      (last_stage problem) (last_stage problem) k)
  node_passed s l =
      let on = left.on_runs s l in
      let p = path_word kept filled 0 s on.0 on.1 in
      let q = some_word kept filled s on.2.0 on.2.1 in
      let k = kind_of problem (last_stage problem) p.0 in (
        k,
        (
          state_node s p.0 l (on.0, on.1, p.1),
          prefix_passed problem (last_stage problem) (last_stage problem) p.0 q.0 ((left.accepts (p.0 ++ q.0)).0 (
            on.0 ++ on.2.0,
            record {
              run = joined_run kept on.0 on.2.0 0 s on.1 on.2.1;
              reads = joined_reads kept on.0 on.2.0 p.0 q.0 p.1 q.1;
            },
          )) refl,
        ),
      )

  has_width : HasWidth problem.tiers.width kept
  has_width s arc c =
      let have = has-first_column arc.class (filled s arc c) in
      let fit = (left.named.moves s arc (first_column arc.class) c have).fits in
      sym (same_width (sets_of arc.class) (first_column arc.class) have) ∙ fit.width

  pub right_automaton : (lines : List StateLine) → IsAutomatonOf kept (state_nodes ranks states) lines
      → IsRightAutomaton problem nodes lines
  right_automaton lines a = record {
    ascending = a.lines.ascending;
    passed = λ n c.
        let m : Contains (state_nodes ranks states) n = (a.numbers n).0 c in
        let l : m.0 < length kept = omega
        (arith, m.1, length-map states (λ i. get_or ranks i 0), left.ordered.each_state) in
        let here : get_or (state_nodes ranks states) m.0 0 ≡ n = get_or_default (state_nodes ranks states) m.0 0 n m.1
        ∙ m.2 in
        let r = node_passed m.0 l in
        (r.0, (subst (λ i. IsNodeOf problem nodes i r.0) here r.1.0, r.1.1));
    accepts = λ T. let law = a.accepts start T in
        (λ h. (left.accepts T).0 (law.0 h), λ o. law.1 ((left.accepts T).1 o));
    reads = λ T n o l.
        let h = (left.accepts T).1 o in
        let parts : IsParted kept 0 (take n T) (drop n T) =
        parted kept (take n T) (drop n T) 0 h.0 h.1.run (subst (Reads h.0) (sym (take-append-drop n T)) h.1.reads) in
        let s = parts.middle in
        let inside = run_exists kept s parts.after parts.run in
        let reach : ReadsTo kept (take n T) s = (parts.before, parts.path, parts.reads_before) in (
          get_or (state_nodes ranks states) s 0,
          (
            a.leads start (take n T) s reach,
            (a.numbers (get_or (state_nodes ranks states) s 0)).1
                (Contains-get_or (state_nodes ranks states) s 0
                (omega (arith, inside, length-map states (λ i. get_or ranks i 0), left.ordered.each_state))),
            state_node s (take n T) inside reach,
          ),
        );
    arcs = a.arcs problem.tiers.width has_width;
  }
