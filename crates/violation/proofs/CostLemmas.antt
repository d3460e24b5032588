-- What the moves of a candidate cost is what it violates.
use Rattle.std.proofs.Common.{◌≡◌, ℕ, suc, ◌+◌, ◌<◌, Bool, true, false, not, ◌&&◌, cond, List, [], ◌∷◌, ◌++◌, map}
use Rattle.std.proofs.Common.{take, drop, length, get_or, filter, refl, sym, ap, ◌∙◌, subst, arith, append-nil}
use Rattle.std.proofs.Common.{append_assoc, take_at}
use Rattle.std.proofs.lemmas.List.{length-append, length_push, length-map, get_or_at, take-map}
use Rattle.std.proofs.lemmas.Bool.{not-false}
use Rattle.std.specs.List.{AllByRecursion}
use Rattle.tier_core.specs.{declared.sym.Sym.Sym, declared.event.Event.Event}
use Rattle.tier_core.specs.{declared.constraint.Constraint.Constraint, declared.constraint.Family.Family}
use Rattle.tier_core.specs.{declared.constraint.Family.TheVariants.{Implication, Clash}, Kinds.{Phase, PrefixKind}}
use Rattle.tier_core.specs.{Tiers.Tiers, Timelines.tier_word}
use Rattle.tier_core.specs.Sides.{is_implication, has_edge_type, is_stretch, edge_among}
use Rattle.tier_core.proofs.CountLemmas.{bit, all_weaker, all_append}
use Rattle.weight_law.specs.{Ranked.add_each, RankedLaws.{length-sum, sum-assoc}}
use Rattle.violation.specs.Candidates.{IsForm, IsCandidate, counts_on}
use Rattle.violation.specs.Conditions.{AreSplit, IsOverTiers, IsCountable}
use Rattle.violation.specs.Counts.{violations_of, violations_so_far, so_far, viol}
use Rattle.violation.specs.Moves.{costs, costs_each, first_phase, is_tier_open, move_costs, next_kind, is_final}
use Rattle.violation.specs.Prefixes.{is_open, phase, stretches, kind_of}
use Rattle.violation.specs.{Walks.{HasMoves, walk_end, walk_costs}, Columns.edge_cost, Problems.Problem}
use Rattle.violation.proofs.{Countable.countable_over, CountSteps.{whole, all_agree}}
use Rattle.violation.proofs.{MoveLemmas.{opened_after, column_costs}, PrefixLemmas.{IsBegun, tier_open_is}}
use Rattle.violation.proofs.{TierLemmas.map_agree, WalkLemmas.{begun_of, moved_is, walk_on, candidate_walk}}
use Rattle.violation.proofs.{WalkLemmas.{candidate_final, final_candidate}, WholeCounts.so_far_none}
use Rattle.violation.proofs.StageLemmas.{stretches_over_tiers}

-- two states agree on the tiers of some types
abbrev pub AgreeOn : List Event → (ℕ → Bool) → (ℕ → Bool) → Type 0
AgreeOn types o p = AllByRecursion (λ e. o e.tier ≡ p e.tier) types

pub costs_agree : (family : Family) (left right : List Event) (o p : ℕ → Bool) (ph : Phase) (column : List Sym)
    → AgreeOn (left ++ right) o p
    → costs family left right o ph column ≡ costs family left right p ph column
costs_agree Clash left right o p ph column h =
    ap (λ b. cond (has_edge_type (left ++ right)) (edge_cost Clash left right column)
    (b && edge_among (left ++ right) column))
    (all_agree (λ e. o e.tier) (λ e. p e.tier) (left ++ right) h)
costs_agree Implication left right o p ph column h = refl

-- only a stretch implication looks at its phase
costs_free : (family : Family) (left right : List Event) (o : ℕ → Bool) (ph other : Phase) (column : List Sym)
    → (is_implication family && not (has_edge_type left)) ≡ false
    → costs family left right o ph column ≡ costs family left right o other column
costs_free Clash left right o ph other column e = refl
costs_free Implication left right o ph other column e = let edge : has_edge_type left
    ≡ true = not-false _ e in rw edge refl

-- the costs under some constraints, each at its own phase
pub costs_each_are : (cs : List Constraint) (o : ℕ → Bool) (p : List (List Sym)) (column : List Sym)
    → costs_each cs o (map (λ c. phase c.left c.right p) (filter is_stretch cs)) column
    ≡ map (λ c. bit (costs c.family c.left c.right o (phase c.left c.right p) column)) cs
costs_each_are [] o p column = refl
costs_each_are (c ∷ cs) o p column = by_stretch (is_stretch c) refl (costs_each_are cs o p column)
  where
    by_stretch : (b : Bool) → is_stretch c ≡ b
        → costs_each cs o (map (λ c. phase c.left c.right p) (filter is_stretch cs)) column
        ≡ map (λ c. bit (costs c.family c.left c.right o (phase c.left c.right p) column)) cs
        → bit (costs c.family c.left c.right o
        (first_phase (map (λ c. phase c.left c.right p)
        (cond b (c ∷ filter is_stretch cs) (filter is_stretch cs)))) column)
        ∷ costs_each cs o (cond b (drop 1
        (map (λ c. phase c.left c.right p) (cond b (c ∷ filter is_stretch cs) (filter is_stretch cs))))
        (map (λ c. phase c.left c.right p) (cond b (c ∷ filter is_stretch cs) (filter is_stretch cs)))) column
        ≡ bit (costs c.family c.left c.right o (phase c.left c.right p) column) ∷ map
        (λ c. bit (costs c.family c.left c.right o (phase c.left c.right p) column)) cs
    by_stretch true e h = ap (λ ns. bit (costs c.family c.left c.right o (phase c.left c.right p) column) ∷ ns) h
    by_stretch false e h =
        ap (λ b. bit b ∷ costs_each cs o (map (λ c. phase c.left c.right p) (filter is_stretch cs)) column)
        (costs_free c.family c.left c.right o (first_phase (map (λ c. phase c.left c.right p) (filter is_stretch cs)))
        (phase c.left c.right p) column e)
        ∙ ap (λ ns. bit (costs c.family c.left c.right o (phase c.left c.right p) column) ∷ ns) h

-- sums of numbers that each constraint gives
add_maps : (f g h : Constraint → ℕ) (cs : List Constraint) → AllByRecursion (λ c. f c ≡ g c + h c) cs
    → map f cs ≡ add_each (map g cs) (map h cs)
add_maps f g h [] e = refl
add_maps f g h (c ∷ cs) e = ap (λ n. n ∷ map f cs) e.0 ∙ ap (λ ns. (g c + h c) ∷ ns) (add_maps f g h cs e.1)

pub add_none : (cs : List Constraint) (ns : List ℕ) → length ns ≡ length cs → add_each (map (λ c. 0) cs) ns ≡ ns
add_none [] [] e = refl
add_none [] (n ∷ ns) e = absurd (omega arith)
add_none (c ∷ cs) [] e = absurd (omega arith)
add_none (c ∷ cs) (n ∷ ns) e = ap (λ m. m ∷ add_each (map (λ c. 0) cs) ns) (none n)
    ∙ ap (λ ms. n ∷ ms) (add_none cs ns (omega arith))
  where
    none : (n : ℕ) → 0 + n ≡ n
    none n = omega arith

pub length_costs : (cs : List Constraint) (o : ℕ → Bool) (phases : List Phase) (column : List Sym)
    → length (costs_each cs o phases column) ≡ length cs
length_costs [] o phases column = refl
length_costs (c ∷ cs) o phases column = ap suc (length_costs cs o (cond (is_stretch c) (drop 1 phases) phases) column)

module _ (problem : Problem) (r : ℕ) (split : AreSplit problem.tiers) (form : IsForm problem.tiers problem.form)
    (over : AllByRecursion (IsOverTiers problem.tiers.width) (take r problem.constraints)) where
  stretches_over : AllByRecursion (IsOverTiers problem.tiers.width) (stretches problem r)
  stretches_over = stretches_over_tiers problem r over

  pub length_walk : (q : List (List Sym)) (k : PrefixKind)
      → length (walk_costs problem r k q) ≡ length (take r problem.constraints)
  length_walk [] k = length-map (take r problem.constraints) (λ c. 0)
  length_walk (column ∷ q) k =
      let size : length (move_costs problem r k column)
      ≡ length (take r problem.constraints) = length_costs (take r problem.constraints)
      (is_tier_open problem k) k.phases column in
      length-sum (move_costs problem r k column) (walk_costs problem r (next_kind problem r k column) q)
      (size ∙ sym (length_walk q (next_kind problem r k column)))
      ∙ size

  -- a move costs what its column adds to the violations so far
  pub move_adds : (T p : List (List Sym)) (column : List Sym) (q : List (List Sym)) → T ≡ p ++ column ∷ q
      → IsCandidate problem T
      → map (λ c. violations_so_far c T (suc (length p))) (take r problem.constraints)
      ≡ add_each (map (λ c. violations_so_far c T (length p)) (take r problem.constraints))
      (move_costs problem r (kind_of problem r p) column)
  move_adds T p column q e c =
      add_maps (λ x. violations_so_far x T (suc (length p))) (λ x. violations_so_far x T (length p))
      (λ x. bit (costs x.family x.left x.right (is_tier_open problem (kind_of problem r p))
      (phase x.left x.right p) column)) (take r problem.constraints)
      (all_weaker (IsOverTiers problem.tiers.width) _ (take r problem.constraints) adds over)
      ∙ ap (add_each (map (λ c. violations_so_far c T (length p)) (take r problem.constraints)))
      (sym (costs_each_are (take r problem.constraints) (is_tier_open problem (kind_of problem r p)) p column))
    where
      within : length p < length T
      within = omega (arith, ap length e, length-append p (column ∷ q))

      before : take (length p) T ≡ p
      before = ap (take (length p)) e ∙ take_at p (column ∷ q) (length p) refl

      at : get_or T (length p) [] ≡ column
      at = ap (λ (v : List (List Sym)). get_or v (length p) []) e ∙ get_or_at p column q [] (length p) refl

      begun : IsBegun problem p
      begun = begun_of problem p (column ∷ q) (subst (IsCandidate problem) e c)

      adds : (x : Constraint) → IsOverTiers problem.tiers.width x
          → violations_so_far x T (suc (length p))
          ≡ violations_so_far x T (length p) + bit
          (costs x.family x.left x.right (is_tier_open problem (kind_of problem r p))
          (phase x.left x.right p) column)
      adds x o =
          let countable : IsCountable x.left x.right T = countable_over o c.well_formed in
          let agree : AgreeOn (x.left ++ x.right) (opened_after T (length p))
          (is_tier_open problem (kind_of problem r p)) =
          all_weaker (λ e. e.tier < problem.tiers.width) _ (x.left ++ x.right)
          (λ e b. ap (λ (v : List (List Sym)). is_open (tier_word v e.tier)) before
          ∙ sym (tier_open_is problem split form r p begun e.tier b))
          (all_append _ x.left x.right o.left_below o.right_below) in
          column_costs x.family x.left x.right T (length p) countable within
          ∙ ap (λ (v : List (List Sym)). violations_so_far x T (length p) + bit
          (costs x.family x.left x.right (opened_after T (length p)) (phase x.left x.right v)
          (get_or T (length p) []))) before
          ∙ ap (λ (v : List Sym). violations_so_far x T (length p) + bit
          (costs x.family x.left x.right (opened_after T (length p)) (phase x.left x.right p) v)) at
          ∙ ap (λ b. violations_so_far x T (length p) + bit b)
          (costs_agree x.family x.left x.right (opened_after T (length p))
          (is_tier_open problem (kind_of problem r p)) (phase x.left x.right p) column agree)

  -- What a candidate violates is what a prefix has violated so far, and what the moves cost from its kind.
  pub costs_on : (q p T : List (List Sym)) → T ≡ p ++ q → IsCandidate problem T
      → map (λ c. violations_of c T) (take r problem.constraints)
      ≡ add_each (map (λ c. violations_so_far c T (length p)) (take r problem.constraints))
      (walk_costs problem r (kind_of problem r p) q)
  costs_on [] p T e c =
      add_maps (λ x. violations_of x T) (λ x. violations_so_far x T (length p)) (λ x. 0) (take r problem.constraints)
      (all_weaker (IsOverTiers problem.tiers.width) _ (take r problem.constraints)
      (λ x o.
      let size : length T ≡ length p = ap length (e ∙ append-nil p) in
      let all : so_far x.family x.left x.right T (length p) ≡ viol x.family x.left x.right T =
      whole x.family x.left x.right T (length p) (countable_over o c.well_formed)
      (omega (arith, size)) (omega (arith, size)) in
      omega (arith, all))
      over)
  costs_on (column ∷ q) p T e c =
      let on : T ≡ (p ++ column ∷ []) ++ q = e ∙ sym (append_assoc p (column ∷ []) q) in
      let next : next_kind problem r (kind_of problem r p) column ≡ kind_of problem r (p ++ column ∷ []) =
      moved_is problem r split form stretches_over p column (q, subst (IsCandidate problem) on c) in
      let size : length (p ++ column ∷ []) ≡ suc (length p) = omega (arith, length_push p column) in
      costs_on q (p ++ column ∷ []) T on c
      ∙ ap (λ n. add_each (map (λ c. violations_so_far c T n) (take r problem.constraints))
      (walk_costs problem r (kind_of problem r (p ++ column ∷ [])) q)) size
      ∙ ap (λ ns. add_each ns (walk_costs problem r (kind_of problem r (p ++ column ∷ [])) q))
      (move_adds T p column q e c)
      ∙ sum-assoc (map (λ c. violations_so_far c T (length p)) (take r problem.constraints))
      (move_costs problem r (kind_of problem r p) column)
      (walk_costs problem r (kind_of problem r (p ++ column ∷ [])) q)
      ∙ ap (λ k. add_each (map (λ c. violations_so_far c T (length p)) (take r problem.constraints))
      (add_each (move_costs problem r (kind_of problem r p) column) (walk_costs problem r k q))) (sym next)

  -- The moves of a candidate cost in all what it violates of the first r constraints.
  pub costs_sum : (T : List (List Sym)) → IsCandidate problem T
      → take r (counts_on problem T) ≡ walk_costs problem r (kind_of problem r []) T
  costs_sum T c =
      take-map (λ c. violations_of c T) r problem.constraints
      ∙ costs_on T [] T refl c
      ∙ ap (λ ns. add_each ns (walk_costs problem r (kind_of problem r []) T))
      (map_agree (λ x. violations_so_far x T 0) (λ x. 0) (take r problem.constraints)
      (all_weaker (IsOverTiers problem.tiers.width) _ (take r problem.constraints)
      (λ x o. so_far_none x.family x.left x.right T) over))
      ∙ add_none (take r problem.constraints) (walk_costs problem r (kind_of problem r []) T)
      (length_walk T (kind_of problem r []))

  -- Prefixes of one kind may exchange what follows them: the result is a candidate.
  pub exchange : (p q v w : List (List Sym)) → IsCandidate problem (p ++ q) → IsCandidate problem (v ++ w)
      → kind_of problem r p ≡ kind_of problem r v → IsCandidate problem (p ++ w)
  exchange p q v w c d e =
      let moves : HasMoves problem r (kind_of problem r v) w =
      candidate_walk problem r split form stretches_over w v []
      (subst (λ z. IsCandidate problem (v ++ z)) (sym (append-nil w)) d) in
      let on : IsBegun problem (p ++ w) × (walk_end problem r (kind_of problem r p) w ≡ kind_of problem r (p ++ w)) =
      walk_on problem r split form stretches_over w p (begun_of problem p q c)
      (subst (λ k. HasMoves problem r k w) (sym e) moves) in
      let other : IsBegun problem (v ++ w) × (walk_end problem r (kind_of problem r v) w ≡ kind_of problem r (v ++ w)) =
      walk_on problem r split form stretches_over w v (begun_of problem v w d) moves in
      final_candidate problem r split form stretches_over (p ++ w) on.0
      (ap (is_final problem) (sym on.1 ∙ ap (λ k. walk_end problem r k w) e ∙ other.1)
      ∙ candidate_final problem r split form stretches_over (v ++ w) d)
