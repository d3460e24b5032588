-- The moves of kinds are those of candidates: what stands on the statements of `Walks`.
use Rattle.std.proofs.Common.{◌≡◌, ◌↔◌, ℕ, suc, ◌+◌, ◌<◌, ◌==◌, Bool, true, false, not, cond, ◌⊎◌, inl, inr, IsTrue}
use Rattle.std.proofs.Common.{List, [], ◌∷◌, ◌++◌, map, take, length, get_or, refl, sym, ap, ◌∙◌, subst, arith}
use Rattle.std.proofs.Common.{eq-eqb, eqb-true, append-nil, append_assoc, take_at}
use Rattle.std.proofs.lemmas.List.{map-append, length-append, length_push, get_or_at}
use Rattle.std.proofs.lemmas.Bool.{and_parts, and_from, not-true, not_from_false}
use Rattle.std.specs.List.{AllByRecursion, list_any}
use Rattle.tier_core.specs.{declared.sym.Sym.Sym, declared.constraint.Constraint.Constraint, Scan.{fits, opens}}
use Rattle.tier_core.specs.Timelines.{tier_word, symbol, column_at, has_edge}
use Rattle.tier_core.proofs.{CountLemmas.{bit, all_weaker, any_none}, WordLemmas.runs, WordForm.runs_from_well_formed}
use Rattle.tier_core.proofs.KindTies.{same_parts}
use Rattle.violation.specs.{Candidates.{IsForm, IsCandidate}, Conditions.{AreSplit, IsOverTiers, IsCountable}}
use Rattle.violation.specs.Moves.{FitsKind, input_of, next_kind, next_phases, next_phase, is_final}
use Rattle.violation.specs.Prefixes.{is_open, kind_of, phase, stretches}
use Rattle.violation.specs.{Walks.{HasMoves, walk_end, BeginsCandidate}, Problems.{Problem, last_place}}
use Rattle.violation.proofs.{Countable.countable_over, ChoiceLemmas.all_map, MoveLemmas.next_phase_is}
use Rattle.violation.proofs.OpenLemmas.{open_read, runs_reads, runs_closed, runs_append}
use Rattle.violation.proofs.PrefixLemmas.{input_part, input_append, IsBegun, nothing_begun, begun_more}
use Rattle.violation.proofs.PrefixLemmas.{tier_open_is}
use Rattle.violation.proofs.{CompletionLemmas.{open_after_more, ended_candidate, completed}, TierLemmas.map_agree}

pub all_split : {X : Type 0} (P : X → Type 0) (xs ys : List X) → AllByRecursion P (xs ++ ys)
    → AllByRecursion P xs × AllByRecursion P ys
all_split P [] ys h = (tt, h)
all_split P (x ∷ xs) ys h = let rest : AllByRecursion P xs × AllByRecursion P ys = all_split P xs ys h.1 in
    ((h.0, rest.0), rest.1)

-- what begins a candidate reads well so far
pub begun_of : (problem : Problem) (p q : List (List Sym)) → IsCandidate problem (p ++ q) → IsBegun problem p
begun_of problem p q c = record {
  one_width = (all_split _ p q c.well_formed.one_width).0;
  read = λ t l.
      (and_parts _ _ (sym (runs_append false (tier_word p t) (tier_word q t))
      ∙ ap (runs false) (sym (map-append (λ column. symbol column t) p q))
      ∙ runs_from_well_formed (tier_word (p ++ q) t) (c.well_formed.each_tier t l))).0;
  reduced = (all_split _ p q c.reduced).0;
  place = sym (ap (take (length (input_part problem.tiers p))) (sym c.input ∙ input_append problem.tiers p q)
      ∙ take_at (input_part problem.tiers p) (input_part problem.tiers q) (length (input_part problem.tiers p)) refl);
}

module _ (problem : Problem) (r : ℕ) (split : AreSplit problem.tiers) (form : IsForm problem.tiers problem.form)
    (over : AllByRecursion (IsOverTiers problem.tiers.width) (stretches problem r)) where
  -- the next column of a candidate fits the kind of what is before it
  pub fits_next : (p : List (List Sym)) (column : List Sym) (q : List (List Sym))
      → IsCandidate problem (p ++ column ∷ q) → FitsKind problem (kind_of problem r p) column
  fits_next p column q c = record {
    width = (all_split _ p (column ∷ q) c.well_formed.one_width).1.0;
    symbols = λ t l.
        ap (λ o. fits o (symbol column t))
        (tier_open_is problem split form r p begun t l ∙ open_read false (tier_word p t) (begun.read t l))
        ∙ (and_parts _ _
        (and_parts _ _ (sym (runs_append false (tier_word p t) (tier_word (column ∷ q) t))
        ∙ ap (runs false) (sym (map-append (λ column. symbol column t) p (column ∷ q)))
        ∙ runs_from_well_formed (tier_word (p ++ column ∷ q) t) (c.well_formed.each_tier t l))).1).0;
    edge = (all_split _ p (column ∷ q) c.reduced).1.0;
    input = by_edge (has_edge (input_of problem.tiers column)) refl;
  }
    where
      begun : IsBegun problem p
      begun = begun_of problem p (column ∷ q) c

      by_edge : (e : Bool) → has_edge (input_of problem.tiers column) ≡ e
          → (has_edge (input_of problem.tiers column) ≡ false) ⊎
          ((length (input_part problem.tiers p) < last_place problem) ×
          (input_of problem.tiers column ≡ column_at problem.form (length (input_part problem.tiers p))))
      by_edge false e = inl e
      by_edge true e =
          let all : problem.form ≡ input_part problem.tiers p
          ++ input_of problem.tiers column ∷ input_part problem.tiers q =
          sym c.input ∙ input_append problem.tiers p (column ∷ q)
          ∙ ap (λ b. input_part problem.tiers p
          ++ cond b (input_of problem.tiers column ∷ input_part problem.tiers q)
          (input_part problem.tiers q)) e in
          inr (
            omega (
              arith,
              ap length all,
              length-append (input_part problem.tiers p)
                  (input_of problem.tiers column ∷ input_part problem.tiers q),
            ),
            sym (ap (λ (v : List (List Sym)). get_or v (length (input_part problem.tiers p)) []) all
                ∙ get_or_at (input_part problem.tiers p) (input_of problem.tiers column)
                (input_part problem.tiers q) [] (length (input_part problem.tiers p)) refl),
          )

  -- a column that fits goes on well
  pub begun_next : (p : List (List Sym)) (column : List Sym) → IsBegun problem p
      → FitsKind problem (kind_of problem r p) column → IsBegun problem (p ++ column ∷ [])
  begun_next p column b f =
      begun_more problem split form p column b f.width
      (λ t l. ap (λ o. fits o (symbol column t)) (sym (tier_open_is problem split form r p b t l)) ∙ f.symbols t l)
      f.edge f.input

  phases_next : (p : List (List Sym)) (column : List Sym) (q : List (List Sym)) → IsCandidate problem (p ++ column ∷ q)
      → (cs : List Constraint) → AllByRecursion (IsOverTiers problem.tiers.width) cs
      → next_phases cs (map (λ c. phase c.left c.right p) cs) column
      ≡ map (λ c. phase c.left c.right (p ++ column ∷ [])) cs
  phases_next p column q c [] o = refl
  phases_next p column q c (x ∷ cs) o =
      let T : List (List Sym) = p ++ column ∷ q in
      let countable : IsCountable x.left x.right T = countable_over o.0 c.well_formed in
      let within : length p < length T = omega (arith, length-append p (column ∷ q)) in
      let before : take (length p) T ≡ p = take_at p (column ∷ q) (length p) refl in
      let after : take (suc (length p)) T ≡ p ++ column ∷ [] =
      ap (take (suc (length p))) (sym (append_assoc p (column ∷ []) q))
      ∙ take_at (p ++ column ∷ []) q (suc (length p)) (omega (arith, length_push p column)) in
      let step : phase x.left x.right (p ++ column ∷ []) ≡ next_phase x.left x.right (phase x.left x.right p) column =
      ap (phase x.left x.right) (sym after) ∙ next_phase_is x.left x.right T (length p) countable within
      ∙ ap (λ v. next_phase x.left x.right (phase x.left x.right v) (get_or T (length p) [])) before
      ∙ ap (next_phase x.left x.right (phase x.left x.right p)) (get_or_at p column q [] (length p) refl) in
      ap (λ y. y ∷ next_phases cs (map (λ c. phase c.left c.right p) cs) column) (sym step)
      ∙ ap (λ ys. phase x.left x.right (p ++ column ∷ []) ∷ ys) (phases_next p column q c cs o.1)

  -- the move leads to the kind of the longer prefix
  pub moved_is : (p : List (List Sym)) (column : List Sym) → BeginsCandidate problem (p ++ column ∷ [])
      → next_kind problem r (kind_of problem r p) column ≡ kind_of problem r (p ++ column ∷ [])
  moved_is p column b =
      let more : IsBegun problem (p ++ column ∷ []) = begun_of problem (p ++ column ∷ []) b.0 b.1 in
      same_parts _ _ _ _ _ _
      (place_more (has_edge (input_of problem.tiers column)) refl)
      (map_agree (λ t. opens (symbol column t)) (λ t. is_open (tier_word (p ++ column ∷ []) t)) problem.tiers.free
      (all_weaker (λ t. t < problem.tiers.width) _ problem.tiers.free
      (λ t l. sym (open_after_more problem p column more t l)) split.free_below))
      (phases_next p column b.0 (subst (IsCandidate problem) (append_assoc p (column ∷ []) b.0) b.1)
      (stretches problem r) over)
    where
      place_more : (e : Bool) → has_edge (input_of problem.tiers column) ≡ e
          → length (input_part problem.tiers p) + cond (has_edge (input_of problem.tiers column)) 1 0
          ≡ length (input_part problem.tiers (p ++ column ∷ []))
      place_more false e =
          let same : input_part problem.tiers (p ++ column ∷ []) ≡ input_part problem.tiers p =
          input_append problem.tiers p (column ∷ [])
          ∙ ap (λ c. input_part problem.tiers p ++ cond c (input_of problem.tiers column ∷ []) []) e
          ∙ append-nil (input_part problem.tiers p) in
          omega (arith, ap length same, ap (λ b. bit b) e)
      place_more true e =
          let more : input_part problem.tiers (p ++ column ∷ []) ≡ input_part problem.tiers p
          ++ input_of problem.tiers column ∷ [] =
          input_append problem.tiers p (column ∷ [])
          ∙ ap (λ c. input_part problem.tiers p ++ cond c (input_of problem.tiers column ∷ []) []) e in
          omega (
            arith,
            ap length more,
            length_push (input_part problem.tiers p) (input_of problem.tiers column),
            ap (λ b. bit b) e,
          )

  -- moves from the kind of a prefix go on well, and lead to the kind of the longer prefix
  pub walk_on : (q p : List (List Sym)) → IsBegun problem p → HasMoves problem r (kind_of problem r p) q
      → IsBegun problem (p ++ q) × (walk_end problem r (kind_of problem r p) q ≡ kind_of problem r (p ++ q))
  walk_on [] p b h = (subst (IsBegun problem) (sym (append-nil p)) b, ap (kind_of problem r) (sym (append-nil p)))
  walk_on (column ∷ q) p b h =
      let more : IsBegun problem (p ++ column ∷ []) = begun_next p column b h.0 in
      let same : next_kind problem r (kind_of problem r p) column ≡ kind_of problem r (p ++ column ∷ []) =
      moved_is p column (completed problem split form (p ++ column ∷ []) more) in
      let rest : IsBegun problem ((p ++ column ∷ []) ++ q) ×
      (walk_end problem r (kind_of problem r (p ++ column ∷ [])) q ≡ kind_of problem r ((p ++ column ∷ []) ++ q)) =
      walk_on q (p ++ column ∷ []) more (subst (λ k. HasMoves problem r k q) same h.1) in (
        subst (IsBegun problem) (append_assoc p (column ∷ []) q) rest.0,
        ap (λ k. walk_end problem r k q) same ∙ rest.1 ∙ ap (kind_of problem r) (append_assoc p (column ∷ []) q),
      )

  -- a candidate goes by moves
  pub candidate_walk : (s p q : List (List Sym)) → IsCandidate problem (p ++ (s ++ q))
      → HasMoves problem r (kind_of problem r p) s
  candidate_walk [] p q c = tt
  candidate_walk (column ∷ s) p q c =
      let next : IsCandidate problem ((p ++ column ∷ []) ++ (s ++ q)) = subst (IsCandidate problem)
      (sym (append_assoc p (column ∷ []) (s ++ q))) c in (
        fits_next p column (s ++ q) c,
        subst (λ k. HasMoves problem r k s) (sym (moved_is p column (s ++ q, next)))
            (candidate_walk s (p ++ column ∷ []) q next),
      )

  pub candidate_final : (T : List (List Sym)) → IsCandidate problem T → IsTrue (is_final problem (kind_of problem r T))
  candidate_final T c =
      and_from _ _ (eq-eqb (length (input_part problem.tiers T)) (last_place problem) (ap length c.input))
      (not_from_false _ (any_none (λ flag. flag) (map (λ t. is_open (tier_word T t)) problem.tiers.free)
      (all_map (λ flag. flag ≡ false) (λ t. is_open (tier_word T t)) problem.tiers.free
      (all_weaker (λ t. t < problem.tiers.width) _ problem.tiers.free
      (λ t l.
      let w : runs false (tier_word T t) ≡ true = runs_from_well_formed (tier_word T t) (c.well_formed.each_tier t l) in
      open_read false (tier_word T t) (runs_reads false (tier_word T t) w) ∙ runs_closed false (tier_word T t) w)
      split.free_below))))

  pub final_candidate : (T : List (List Sym)) → IsBegun problem T → IsTrue (is_final problem (kind_of problem r T))
      → IsCandidate problem T
  final_candidate T b f =
      let parts : ((length (input_part problem.tiers T) == last_place problem) ≡ true) ×
      (not (list_any (λ flag. flag) (map (λ t. is_open (tier_word T t)) problem.tiers.free))
      ≡ true) = and_parts _ _ f in
      ended_candidate problem split form T b (eqb-true _ _ parts.0) (not-true _ parts.1)

  -- From the kind of the empty prefix there is a move at each column exactly where the columns are
  -- a prefix of a candidate.
  pub moves_begin : (p : List (List Sym)) → HasMoves problem r (kind_of problem r []) p ↔ BeginsCandidate problem p
  moves_begin p = (
    λ h. completed problem split form p (walk_on p [] (nothing_begun problem) h).0,
    λ b. candidate_walk p [] b.0 b.1,
  )

  -- The kind that they lead to is the kind of the prefix.
  pub reached_is : (p : List (List Sym)) → HasMoves problem r (kind_of problem r []) p
      → walk_end problem r (kind_of problem r []) p ≡ kind_of problem r p
  reached_is p h = (walk_on p [] (nothing_begun problem) h).1

  -- They end at a final kind exactly where the columns are a candidate.
  pub moves_end : (T : List (List Sym)) →
      (HasMoves problem r (kind_of problem r []) T × IsTrue
      (is_final problem (walk_end problem r (kind_of problem r []) T))) ↔ IsCandidate problem T
  moves_end T = (
    λ h.
        let on : IsBegun problem T × (walk_end problem r (kind_of problem r []) T ≡ kind_of problem r T) = walk_on T []
        (nothing_begun problem) h.0 in
        final_candidate T on.0 (ap (is_final problem) (sym on.1) ∙ h.1),
    λ c.
        let h : HasMoves problem r (kind_of problem r []) T = candidate_walk T [] []
        (subst (IsCandidate problem) (sym (append-nil T)) c) in
        (h, ap (is_final problem) (reached_is T h) ∙ candidate_final T c),
  )
