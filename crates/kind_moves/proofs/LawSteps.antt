-- Moves of a frame are those of candidates.
use Rattle.std.proofs.Common.{◌≡◌, ◌↔◌, ℕ, ◌+◌, ◌^◌, ◌<◌, ◌≤◌, ◌==◌, suc, Bool, true, false, cond, IsTrue, List, []}
use Rattle.std.proofs.{Common.{◌∷◌, map, length, refl, ap, sym, ◌∙◌, subst, arith, ⊎_elim}, lemmas.Bool.false≢true}
use Rattle.std.proofs.{lemmas.List.length-map, lemmas.Nat.pow_pos, lemmas.Nat.Bits.bit_at-zero}
use Rattle.std.specs.List.{range_with_len, AllByRecursion}
use Rattle.tier_core.specs.{declared.kind.Kind.Kind, declared.sym.Sym.Sym, declared.constraint.Constraint.Constraint}
use Rattle.tier_core.specs.Kinds.{Phase, closed, PrefixKind, phase_by_bits, open_tiers, phases, AreStretchesBelow}
use Rattle.tier_core.specs.{Scan.opens, Timelines.{symbol, has_edge}, Tiers.has_tier, PhaseBits.phases_by}
use Rattle.violation.specs.{Candidates.{IsForm, IsCandidate}, Conditions.{AreSplit, IsOverTiers}}
use Rattle.violation.specs.{Moves.{FitsKind, input_of, is_final, next_kind, next_phases}, Prefixes.{kind_of, phase}}
use Rattle.violation.specs.Walks.{HasMoves, walk_end, BeginsCandidate}
use Rattle.violation.proofs.{PrefixLemmas.{nothing_begun, tier_open_is}, SplitLemmas.tiers_split}
use Rattle.violation.proofs.{WalkLemmas.{moves_begin, moves_end, reached_is}, KindBits.{AreBitsOf, kind_for}}
use Rattle.violation.proofs.ClosedPhases.{closed_first}
use Rattle.tier_core.proofs.KindTies.{same_parts}
use Rattle.kind_moves.specs.{declared.frame.Frame.Frame, Frames.{tiers_in, form_in, stretches_in, kind_at_stage}}
use Rattle.kind_moves.specs.Frames.{is_left_open, AreClosedOr, FitsAt, FitsFrame, IsMove, IsStart, problem_in}
use Rattle.kind_moves.specs.Laws.{LeadsTo}
use Rattle.kind_moves.proofs.{GrammarTiers.{over_stretches, form_from}, MoveSteps.{phases_next, phases_first}}

none_open : {X : Type 0} (j : ℕ) (xs : List X) → map (has_tier 0) (range_with_len j (length xs)) ≡ map (λ x. false) xs
none_open j [] = refl
none_open j (x ∷ xs) = ap (λ b. b ∷ map (has_tier 0) (range_with_len (j + 1) (length xs)))
    (ap (λ n. n == 1) (bit_at-zero j)) ∙ ap (λ bs. false ∷ bs) (none_open (j + 1) xs)

none_told : {X : Type 0} (j : ℕ) (xs : List X) → map (λ i. phase_by_bits (has_tier 0 i) (has_tier 0 i))
    (range_with_len j (length xs)) ≡ map (λ x. closed) xs
none_told j [] = refl
none_told j (x ∷ xs) = ap (λ p. p ∷ map (λ i. phase_by_bits (has_tier 0 i) (has_tier 0 i))
    (range_with_len (j + 1) (length xs))) (ap (λ b. phase_by_bits b b) (ap (λ n. n == 1) (bit_at-zero j)))
    ∙ ap (λ ps. closed ∷ ps) (none_told (j + 1) xs)

all_closed : (width : ℕ) (cs : List Constraint) → AllByRecursion (IsOverTiers width) cs
    → map (λ x. closed) cs ≡ map (λ c. phase c.left c.right []) cs
all_closed width [] o = refl
all_closed width (c ∷ cs) o = ap (λ p. p ∷ map (λ x. closed) cs) (sym (closed_first c.left c.right o.0.some_left))
    ∙ ap (λ ps. phase c.left c.right [] ∷ ps) (all_closed width cs o.1)

same_length : (is_open : Constraint → Bool) (cs : List Constraint) (ps : List Phase) (column : List Sym)
    → AreClosedOr is_open cs ps → length (next_phases cs ps column) ≡ length cs
same_length is_open [] [] column h = refl
same_length is_open [] (p ∷ ps) column h = absurd h
same_length is_open (c ∷ cs) [] column h = absurd h
same_length is_open (c ∷ cs) (p ∷ ps) column h = ap (λ n. suc n) (same_length is_open cs ps column h.1)

module _ (frame : Frame) (stage : ℕ) where
  split : AreSplit (tiers_in frame)
  split = tiers_split frame.grammar.now.tiers.kinds.items

  form : IsForm (tiers_in frame) (form_in frame)
  form = form_from (problem_in frame) frame.well_formed

  over : AllByRecursion (IsOverTiers (tiers_in frame).width) (stretches_in frame stage)
  over = over_stretches frame.grammar.now stage

  -- ---- one move

  place_next : (k : PrefixKind) (column : List Sym) → k.place ≤ length (form_in frame)
      → FitsKind (problem_in frame) k column
      → (e : Bool) → has_edge (input_of (tiers_in frame) column) ≡ e → k.place + cond e 1 0 ≤ length (form_in frame)
  place_next k column l f true e = ⊎_elim (λ none. absurd (false≢true (sym none ∙ e)))
      (λ some. omega (arith, some.0)) f.input
  place_next k column l f false e = omega arith

  -- a kind that has the parts of the kind that a column leads to
  pub is_move : (kind next : Kind) (column : List Sym) → FitsFrame frame stage kind → FitsAt frame stage kind column
      → next.place ≡ kind.place + cond (has_edge (input_of (tiers_in frame) column)) 1 0
      → open_tiers (length (tiers_in frame).free) next.opened
      ≡ (next_kind (problem_in frame) stage (kind_at_stage frame stage kind) column).opened
      → phases (length (stretches_in frame stage)) next ≡ next_phases (stretches_in frame stage)
      (kind_at_stage frame stage kind).phases column
      → next.opened < 2 ^ length (tiers_in frame).free → AreStretchesBelow (length (stretches_in frame stage)) next
      → IsMove frame stage kind column next
  is_move kind next column fits column_fits place opened phase_list within below =
      let k = kind_at_stage frame stage kind in
      let leads : kind_at_stage frame stage next ≡ next_kind (problem_in frame) stage k column = same_parts _ _ _ _ _ _
      place opened phase_list in
      let room = place_next k column fits.place column_fits (has_edge (input_of (tiers_in frame) column)) refl in
      let P : PrefixKind → Type 0 = λ x. AreClosedOr (is_left_open (problem_in frame) x)
      (stretches_in frame stage) x.phases in
      record {
        column_fits = column_fits;
        leads = leads;
        next_fits = record {
          place = omega (arith, place, room);
          opened = within;
          stretches = below;
          phases = subst P (sym leads)
              (phases_next (problem_in frame) split form k column column_fits stage (stretches_in frame stage)
              (is_left_open (problem_in frame) k) k.phases over fits.phases);
        };
      }

  -- where a column fits, there is a move
  pub some_move : (kind : Kind) (column : List Sym) → FitsFrame frame stage kind → FitsAt frame stage kind column
      → (next : Kind) × IsMove frame stage kind column next
  some_move kind column fits column_fits =
      let k = kind_at_stage frame stage kind in
      let m = next_kind (problem_in frame) stage k column in
      let next : (kind : Kind) × AreBitsOf (length (tiers_in frame).free) (length (stretches_in frame stage)) m kind =
      kind_for (length (tiers_in frame).free) (length (stretches_in frame stage)) m
      (length-map (tiers_in frame).free (λ t. opens (symbol column t)))
      (same_length (is_left_open (problem_in frame) k) (stretches_in frame stage) k.phases column fits.phases) in (
        next.0,
        is_move kind next.0 column fits column_fits
            (ap (λ (x : PrefixKind). x.place) next.1.tells) (ap (λ (x : PrefixKind). x.opened) next.1.tells)
            (ap (λ (x : PrefixKind). x.phases) next.1.tells) next.1.opened next.1.stretches,
      )

  -- ---- the start

  pub is_start : (kind : Kind) → kind.place ≡ 0 → kind.opened ≡ 0 → kind.unmet ≡ 0 → kind.met ≡ 0
      → IsStart frame stage kind
  is_start kind place opened unmet met =
      let first = kind_of (problem_in frame) stage [] in
      let same : kind_at_stage frame stage kind ≡ first = same_parts _ _ _ _ _ _ place
      (ap (open_tiers (length (tiers_in frame).free)) opened ∙ none_open 0 (tiers_in frame).free)
      (ap (λ n. phases_by (length (stretches_in frame stage)) n kind.met) unmet
      ∙ ap (phases_by (length (stretches_in frame stage)) 0) met
      ∙ none_told 0 (stretches_in frame stage) ∙ all_closed (tiers_in frame).width (stretches_in frame stage) over) in
      let P : PrefixKind → Type 0 = λ x. AreClosedOr (is_left_open (problem_in frame) x)
      (stretches_in frame stage) x.phases in
      record {
        is = same;
        fits = record {
          place = omega (arith, place);
          opened = omega (arith, opened, pow_pos (length (tiers_in frame).free));
          stretches = record {
            unmet = omega (arith, unmet, pow_pos (length (stretches_in frame stage)));
            met = omega
                (arith, met, pow_pos (length (stretches_in frame stage)));
          };
          phases = subst P (sym same)
              (phases_first (problem_in frame) first
              (λ t l. tier_open_is (problem_in frame) split form stage [] (nothing_begun (problem_in frame)) t l)
              (stretches_in frame stage) over);
        };
      }

  -- ---- moves in turn

  -- moves by columns are moves of kinds of prefixes
  walk_of : (p : List (List Sym)) (kind last : Kind) → LeadsTo frame stage kind p last
      → HasMoves (problem_in frame) stage (kind_at_stage frame stage kind) p
      × (walk_end (problem_in frame) stage (kind_at_stage frame stage kind) p ≡ kind_at_stage frame stage last)
  walk_of [] kind last e = (tt, ap (kind_at_stage frame stage) e)
  walk_of (column ∷ p) kind last h =
      let next : Kind = h.0 in
      let move : IsMove frame stage kind column next = h.1.0 in
      let rest = walk_of p next last h.1.1 in (
        (move.column_fits, subst (λ k. HasMoves (problem_in frame) stage k p) move.leads rest.0),
        ap (λ k. walk_end (problem_in frame) stage k p) (sym move.leads) ∙ rest.1,
      )

  -- and these are told by bits
  walk_by_bits : (p : List (List Sym)) (kind : Kind) → FitsFrame frame stage kind
      → HasMoves (problem_in frame) stage (kind_at_stage frame stage kind) p
      → (last : Kind) × LeadsTo frame stage kind p last
  walk_by_bits [] kind fits h = (kind, refl)
  walk_by_bits (column ∷ p) kind fits h =
      let move : (next : Kind) × IsMove frame stage kind column next = some_move kind column fits h.0 in
      let rest : (last : Kind) × LeadsTo frame stage move.0 p last =
      walk_by_bits p move.0 move.1.next_fits (subst (λ k. HasMoves (problem_in frame) stage k p)
      (sym move.1.leads) h.1) in
      (rest.0, (move.0, (move.1, rest.1)))

  module _ (start : Kind) (is_first : IsStart frame stage start) where
    -- from the start
    first_walk : (p : List (List Sym)) (last : Kind) → LeadsTo frame stage start p last
        → HasMoves (problem_in frame) stage (kind_of (problem_in frame) stage []) p
        × (walk_end (problem_in frame) stage (kind_of (problem_in frame) stage []) p ≡ kind_at_stage frame stage last)
    first_walk p last h =
        let w = walk_of p start last h in (
          subst (λ k. HasMoves (problem_in frame) stage k p) is_first.is w.0,
          ap (λ k. walk_end (problem_in frame) stage k p) (sym is_first.is) ∙ w.1,
        )

    first_by_bits : (p : List (List Sym)) → HasMoves (problem_in frame) stage (kind_of (problem_in frame) stage []) p
        → (last : Kind) × LeadsTo frame stage start p last
    first_by_bits p h = walk_by_bits p start is_first.fits (subst (λ k. HasMoves (problem_in frame) stage k p)
        (sym is_first.is) h)

    pub prefixes_law : (p : List (List Sym)) → ((last : Kind) × LeadsTo frame stage start p last)
        ↔ BeginsCandidate (problem_in frame) p
    prefixes_law p = (
      λ h. (moves_begin (problem_in frame) stage split form over p).0 (first_walk p h.0 h.1).0,
      λ b. first_by_bits p ((moves_begin (problem_in frame) stage split form over p).1 b),
    )

    pub candidates_law : (T : List (List Sym)) → ((last : Kind)
        × (LeadsTo frame stage start T last × IsTrue (is_final (problem_in frame) (kind_at_stage frame stage last))))
        ↔ IsCandidate (problem_in frame) T
    candidates_law T = (
      λ h. let w = first_walk T h.0 h.1.0 in
          (moves_end (problem_in frame) stage split form over T).0 (
            w.0,
            ap (is_final (problem_in frame)) w.1
                ∙ h.1.1,
          ),
      λ c.
          let m = (moves_end (problem_in frame) stage split form over T).1 c in
          let on : (last : Kind) × LeadsTo frame stage start T last = first_by_bits T m.0 in
          (on.0, (on.1, sym (ap (is_final (problem_in frame)) (first_walk T on.0 on.1).1) ∙ m.1)),
    )

    pub kinds_law : (p : List (List Sym)) (last : Kind) → LeadsTo frame stage start p last
        → kind_at_stage frame stage last ≡ kind_of (problem_in frame) stage p
    kinds_law p last h =
        let w = first_walk p last h in
        sym w.1 ∙ reached_is (problem_in frame) stage split form over p w.0
