-- Shortest ways pass no kind twice, and so they have fewer columns than there are kinds.
use Rattle.std.proofs.Common.{◌≡◌, ◌≢◌, ⊎_elim, ℕ, zero, suc, ◌+◌, ◌-◌, ◌<◌, ◌≤◌, List, [], ◌∷◌, ◌++◌, take, drop}
use Rattle.std.proofs.Common.{length, refl, sym, ap, ◌∙◌, subst, arith, append_assoc, take_at, Contains}
use Rattle.std.proofs.{lemmas.Bool.{false≢true, cases_lt}, lemmas.List.{length-append, length-take-le}}
use Rattle.std.specs.{List.AllByRecursion, Prelude.IsTrue, Ordering.{ordering_then, is_le}, Cmp.nat_cmp_is}
use Rattle.std.specs.{Cmp.Lexicographic.slice_cmp, declared.cmp.Ordering.TheVariants.Greater}
use Rattle.tier_core.specs.{declared.sym.Sym.Sym, Kinds.PrefixKind, Orders.{IsFirst, column_cmp, timeline_cmp}}
use Rattle.tier_core.proofs.{Differing.{Differ, no_longer}, Members.all_at_member}
use Rattle.violation.specs.{Candidates.{IsCandidate, IsOptimalFor}, Moves.next_kind, Prefixes.kind_of}
use Rattle.violation.specs.Problems.{Problem}
use Rattle.violation.specs.Stages.{IsStage, IsPassed, IsLeastRest, IsRemaining, AreKindsOfStage, Passes}
use Rattle.violation.proofs.{StageLemmas.over_stretches, WalkLemmas.{begun_of, candidate_walk, moved_is, walk_on}}
use Rattle.violation.proofs.{FewerStages.{same_fewer, least_rest}, CutCandidates.{prefix_passed, optimal_cut}}
use Rattle.kind_laws.specs.Ways.{kinds_passed, HasEachPassed}
use Rattle.kind_laws.proofs.{ColumnCosts.stage_few, GoingOn.{lower, optimal_exchanged}, Seeking.{ComesTo, seek}}

passed_count : (problem : Problem) (s : ℕ) (way : List (List Sym)) (k : PrefixKind)
    → length (kinds_passed problem s k way) ≡ suc (length way)
passed_count problem s [] k = refl
passed_count problem s (column ∷ way) k = ap suc (passed_count problem s way (next_kind problem s k column))

module _ (problem : Problem) (r s : ℕ) (stage : IsStage problem s) where
  -- the move by the next column leads to the kind of the longer prefix
  leads : (p : List (List Sym)) (column : List Sym) (way : List (List Sym))
      → IsCandidate problem ((p ++ column ∷ []) ++ way)
      → next_kind problem s (kind_of problem s p) column ≡ kind_of problem s (p ++ column ∷ [])
  leads p column way c =
      moved_is problem s stage.split stage.form (over_stretches problem s stage) p column (way, c)

  -- ---- the kinds that are passed are kinds of prefixes

  each_passed : (way p : List (List Sym)) → IsOptimalFor problem r (p ++ way)
      → AllByRecursion (IsPassed problem r s) (kinds_passed problem s (kind_of problem s p) way)
  each_passed [] p o = (prefix_passed problem r s p [] o refl, tt)
  each_passed (column ∷ way) p o =
      let on : IsOptimalFor problem r ((p ++ column ∷ []) ++ way) =
      subst (IsOptimalFor problem r) (sym (append_assoc p (column ∷ []) way)) o in (
        prefix_passed problem r s p (column ∷ way) o refl,
        subst (λ k. AllByRecursion (IsPassed problem r s) (kinds_passed problem s k way))
            (sym (leads p column way on.candidate)) (each_passed way (p ++ column ∷ []) on),
      )

  pub way_short : (p way : List (List Sym)) → IsOptimalFor problem r (p ++ way)
      → Differ (kinds_passed problem s (kind_of problem s p) way) → (ks : List PrefixKind)
      → HasEachPassed problem r s ks → length way < length ks
  way_short p way o once ks has =
      let few : length (kinds_passed problem s (kind_of problem s p) way) ≤ length ks =
      no_longer ks (kinds_passed problem s (kind_of problem s p) way)
      (λ k c. has k (all_at_member (IsPassed problem r s) (kinds_passed problem s (kind_of problem s p) way) k
      (each_passed way p o) c)) once in
      omega (arith, few, passed_count problem s way (kind_of problem s p))

  -- ---- what is passed twice can be left out

  pub record IsWay (p q : List (List Sym)) : Type 0 where
    pub way : List (List Sym)
    pub short : length way ≤ length q
    pub optimal : IsOptimalFor problem r (p ++ way)
    pub once : Differ (kinds_passed problem s (kind_of problem s p) way)

  module _ (fewer : r ≤ s) where
    with_column : (p : List (List Sym)) (column : List Sym) (q : List (List Sym))
        → (w : IsWay (p ++ column ∷ []) q) → AllByRecursion (λ l. kind_of problem s p ≢ l)
        (kinds_passed problem s (kind_of problem s (p ++ column ∷ [])) w.way) → IsWay p (column ∷ q)
    with_column p column q w apart = record {
      way = column ∷ w.way;
      short = omega (arith, w.short);
      optimal = subst (IsOptimalFor problem r) (append_assoc p (column ∷ []) w.way) w.optimal;
      once = subst (λ k. Differ (kind_of problem s p ∷ kinds_passed problem s k w.way))
          (sym (leads p column w.way w.optimal.candidate)) (apart, w.once);
    }

    -- a front that leads back to the kind of p is left out
    without_front : (p : List (List Sym)) (column : List Sym) (q : List (List Sym))
        → (w : IsWay (p ++ column ∷ []) q)
        → ComesTo problem s (kind_of problem s (p ++ column ∷ [])) (kind_of problem s p) w.way → IsWay p (column ∷ q)
    without_front p column q w c = record {
      way = c.back;
      short = omega (arith, w.short, ap length c.is, length-append c.front c.back);
      optimal = optimal_exchanged problem r (lower problem r s fewer stage) p (column ∷ w.way) v c.back
          (subst (IsOptimalFor problem r) (append_assoc p (column ∷ []) w.way) w.optimal)
          (subst (IsOptimalFor problem r) (sym (append_assoc (p ++ column ∷ []) c.front c.back)) whole)
          (same_fewer problem r s fewer p v (sym back_again));
      once = c.once;
    }
      where
        v : List (List Sym)
        v = (p ++ column ∷ []) ++ c.front

        whole : IsOptimalFor problem r ((p ++ column ∷ []) ++ (c.front ++ c.back))
        whole = subst (λ z. IsOptimalFor problem r ((p ++ column ∷ []) ++ z)) c.is w.optimal

        back_again : kind_of problem s v ≡ kind_of problem s p
        back_again =
            let over = over_stretches problem s stage in
            let moves = candidate_walk problem s stage.split stage.form over c.front (p ++ column ∷ []) c.back
            whole.candidate in
            let begun = begun_of problem (p ++ column ∷ []) (c.front ++ c.back) whole.candidate in
            sym (walk_on problem s stage.split stage.form over c.front (p ++ column ∷ []) begun moves).1 ∙ c.at

    pub find : (q p : List (List Sym)) → IsOptimalFor problem r (p ++ q) → IsWay p q
    find [] p o = record { way = []; short = omega arith; optimal = o; once = (tt, tt) }
    find (column ∷ q) p o =
        with_or_without (find q (p ++ column ∷ [])
        (subst (IsOptimalFor problem r) (sym (append_assoc p (column ∷ []) q)) o))
      where
        with_or_without : IsWay (p ++ column ∷ []) q → IsWay p (column ∷ q)
        with_or_without w =
            ⊎_elim (without_front p column q w) (with_column p column q w)
            (seek problem s (kind_of problem s p) w.way (kind_of problem s (p ++ column ∷ [])) w.once)

-- ---- examples

-- the first of some timelines has no more columns than any of them
no_longer_first : (T U : List (List Sym)) → IsTrue (is_le (timeline_cmp T U)) → length T ≤ length U
no_longer_first T U h =
    ⊎_elim (λ l. absurd (false≢true
    (ap (λ o. is_le (ordering_then o (slice_cmp column_cmp T U))) (nat_cmp_is (length T) (length U) Greater l) ∙ h)))
    (λ l. l) (cases_lt (length U) (length T))

pub first_short : (problem : Problem) (r : ℕ) → IsStage problem r → (T : List (List Sym))
    → IsFirst (IsOptimalFor problem r) T → (ks : List PrefixKind) → HasEachPassed problem r r ks
    → length T < length ks
first_short problem r stage T first ks has =
    let few : r ≤ r = omega arith in
    let w = find problem r r stage few T [] first.member in
    omega (
      arith,
      no_longer_first T w.way (first.least w.way w.optimal),
      way_short problem r r stage [] w.way w.optimal w.once ks has,
    )

-- ---- what remains

pub remaining_short : (problem : Problem) (r : ℕ) → IsStage problem r → 1 ≤ r → (k : PrefixKind) (m : ℕ)
    → IsLeastRest problem r k m → (ks : List PrefixKind) → HasEachPassed problem (r - 1) r ks → m < length ks
remaining_short problem r stage ranked k m rest ks has =
    let T : List (List Sym) = rest.some.0 in
    let n : ℕ = rest.some.1.0 in
    let passes : Passes problem (r - 1) r k T n = rest.some.1.1.0 in
    let fewer : r - 1 ≤ r = omega arith in
    let size : length (take n T) ≡ n = length-take-le n T passes.within in
    let w : IsWay problem (r - 1) r stage (take n T) (drop n T) =
    find problem (r - 1) r stage fewer (drop n T) (take n T)
    (optimal_cut problem T n (r - 1) passes.optimal) in
    let long : length (take n T ++ w.way) ≡ length (take n T) + length w.way = length-append (take n T) w.way in
    let goes : Passes problem (r - 1) r k (take n T ++ w.way) n = record {
      optimal = w.optimal;
      within = omega (arith, long, size);
      of_kind = ap (kind_of problem r) (take_at (take n T) w.way n size) ∙ passes.of_kind;
    } in
    omega (
      arith,
      rest.least (take n T ++ w.way) n goes,
      stage_few problem r stage (take n T ++ w.way) w.optimal.candidate (length w.way) n (omega (arith, long, size)),
      way_short problem (r - 1) r stage (take n T) w.way w.optimal w.once ks has,
    )

pub remaining_few : (problem : Problem) (r : ℕ) → IsStage problem r → (ks : List PrefixKind)
    → AreKindsOfStage problem r ks → (k : PrefixKind) → Contains ks k → (m : ℕ) → IsRemaining problem r k m
    → m < length ks
remaining_few problem zero stage ks are k c m h = omega (arith, c.1, h)
remaining_few problem (suc i) stage ks are k c m h =
    let ranked : 1 ≤ suc i = omega arith in
    remaining_short problem (suc i) stage ranked k m (least_rest problem (suc i) k m ranked h) ks
    (λ l passed. (are.members l).1 passed)
