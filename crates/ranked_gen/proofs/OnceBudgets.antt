-- Kinds under all constraints, and a budget.
use Rattle.std.proofs.Common.{◌≡◌, ◌≢◌, ℕ, ◌≤◌, List, [], ◌∷◌, ◌++◌, map, take, length, refl, sym, ap, ◌∙◌, subst}
use Rattle.std.proofs.{Common.{arith, AllPairs, Contains}, lemmas.List.{get_or-map, length-map}}
use Rattle.std.proofs.lemmas.List.Elements.{All-contains, All-from_recursion}
use Rattle.std.specs.{List.AllByRecursion, Prelude.◌↔◌}
use Rattle.tier_core.specs.{declared.sym.Sym.Sym, Kinds.PrefixKind}
use Rattle.violation.specs.{Candidates.IsCandidate, Moves.cut_kind, Prefixes.kind_of}
use Rattle.violation.specs.{Rests.{IsWholeKind, AreWholeKindsOver, AreWholeKindsWithin}, Stages.IsPassed}
use Rattle.violation.specs.Problems.{Problem, last_stage}
use Rattle.violation.proofs.{StageLemmas.all_optimal, CutLemmas.cut_kind-kind_of, CutCandidates.prefix_passed}
use Rattle.kind_moves.specs.{declared.frame.Frame.Frame, Frames.problem_in}
use Rattle.stage_tables.specs.Explored.{HasMoreKinds}
use Rattle.ranked_gen.specs.Budgets.{IsOver}
use Rattle.tier_core.proofs.Differing.{differ_from_pairs, pairs_from_differ, no_longer}
use Rattle.tier_core.proofs.{AscendingKinds.ascending_differ, Members.all_from_members}

-- what differs after a cut differs
uncut_differ : (f : PrefixKind → PrefixKind) (ks : List PrefixKind) → AllPairs (λ k l. k ≢ l) (map f ks)
    → AllPairs (λ k l. k ≢ l) ks
uncut_differ f ks differ i j d less inside e =
    differ i j (f d) less (omega (arith, inside, length-map ks f))
    (get_or-map f ks i d (f d) (omega (arith, less, inside)) ∙ ap f e ∙ sym (get_or-map f ks j d (f d) inside))

module _ (problem : Problem) where
  -- kinds where no constraint counts are cut from as many kinds under all constraints
  whole_of : (ks : List PrefixKind) → AllByRecursion (IsPassed problem 0 0) ks
      → (ls : List PrefixKind) × (map (cut_kind problem 0) ls ≡ ks) × AllByRecursion (IsWholeKind problem) ls
  whole_of [] h = ([], refl, tt)
  whole_of (k ∷ ks) h =
      let passed : IsPassed problem 0 0 k = h.0 in
      let p : List (List Sym) = take passed.columns passed.candidate in
      let whole : PrefixKind = kind_of problem (last_stage problem) p in
      let few : 0 ≤ last_stage problem = omega arith in
      let same : cut_kind problem 0 whole ≡ k = cut_kind-kind_of problem 0 (last_stage problem) few p
      ∙ passed.passes.of_kind in
      let is : IsWholeKind problem whole = record {
        candidate = passed.candidate;
        columns = passed.columns;
        passes = record { optimal = passed.passes.optimal; within = passed.passes.within; of_kind = refl };
      } in
      let rest = whole_of ks h.1 in
      (whole ∷ rest.0, ap (λ x. x ∷ map (cut_kind problem 0) rest.0) same ∙ ap (λ xs. k ∷ xs) rest.1, (is, rest.2))

  -- where there are more kinds than the budget before any constraint counts, there are under all
  pub first_over_whole : (budget : ℕ) → IsOver problem budget 0 → AreWholeKindsOver problem budget
  first_over_whole budget over =
      let whole = whole_of over.kinds (all_from_members (IsPassed problem 0 0) over.kinds
      (λ k c. (over.are.members k).0 c)) in
      let differ : AllPairs (λ k l. k ≢ l) (map (cut_kind problem 0) whole.0) =
      subst (AllPairs (λ k l. k ≢ l)) (sym whole.1) (pairs_from_differ over.kinds
      (ascending_differ over.kinds over.are.ascending)) in
      let size : length whole.0 ≡ length over.kinds = sym (length-map whole.0 (cut_kind problem 0))
      ∙ ap (λ (ks : List PrefixKind). length ks) whole.1 in
      record {
        kinds = whole.0;
        distinct = uncut_differ (cut_kind problem 0) whole.0 differ;
        each = All-from_recursion (IsWholeKind problem) whole.0 whole.2;
        more = omega (arith, size, over.more);
      }

  -- no more kinds than there are names
  pub names_within : (budget : ℕ) (names : List PrefixKind)
      → ((k : PrefixKind) → Contains names k ↔ IsWholeKind problem k) → length names ≤ budget
      → AreWholeKindsWithin problem budget
  names_within budget names law few kinds distinct each =
      let most = no_longer names kinds (λ k c. (law k).1 (All-contains (IsWholeKind problem) kinds k each c))
      (differ_from_pairs kinds distinct) in
      omega (arith, most, few)

-- more kinds than the budget are met while all candidates are explored
pub met_over_whole : (frame : Frame) (budget : ℕ)
    → HasMoreKinds frame (last_stage (problem_in frame)) (IsCandidate (problem_in frame)) budget
    → AreWholeKindsOver (problem_in frame) budget
met_over_whole frame budget over = record {
  kinds = over.kinds;
  distinct = over.distinct;
  each = λ i d l.
      (let m = over.met i d l in
      prefix_passed (problem_in frame) 0 (last_stage (problem_in frame)) m.prefix m.rest
      (all_optimal (problem_in frame) (m.prefix ++ m.rest) m.accepted) m.of_kind);
  more = over.more;
}
