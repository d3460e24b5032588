-- All candidates are explored from the table of one state that accepts every timeline.
use Rattle.std.proofs.Common.{◌≡◌, ℕ, ◌<◌, ◌≤◌, false, cond, ◌+◌, ◌-◌, ◌==◌, ne_eqb, List, [], ◌∷◌, ◌++◌, take}
use Rattle.std.proofs.Common.{length, get_or, refl, ap, sym, ◌∙◌, subst, arith, Contains, zero, suc, replicate}
use Rattle.std.proofs.{lemmas.Grind.same_number_lists, lemmas.List.{length-take-le, length-replicate}}
use Rattle.tier_core.specs.{declared.sym.Sym.TheVariants.Outside, declared.kind.Kind.Kind, declared.sym.Sym.Sym}
use Rattle.tier_core.specs.Kinds.{PrefixKind}
use Rattle.tier_core.proofs.{Filled.filled_from, Members.contains_one}
use Rattle.std.specs.Map.{keys_of, values_of}
use Rattle.weight_law.specs.{declared.Weight.Ghosts, declared.count.Count.Count}
use Rattle.weight_law.specs.declared.unit_weight.UnitWeight.{UnitWeight}
use Rattle.arc_table.specs.{declared.arc.TableArc.TableArc, declared.state.TableState.TableState}
use Rattle.arc_table.specs.{Conditions.{TargetsExist, ClassesFilled}, Moves.moves_at}
use Rattle.symbol_class.specs.Parts.{IsAlike}
use Rattle.violation.specs.{Moves.{is_tier_open, move_costs}, Candidates.IsCandidate, Problems.last_stage}
use Rattle.violation.proofs.CostLemmas.{length_costs}
use Rattle.kind_moves.specs.{declared.frame.Frame.Frame, Frames.{tiers_in, problem_in, kind_at_stage}}
use Rattle.kind_moves.specs.Pieces.{cost_under}
use Rattle.kind_moves.proofs.LawSteps.{prefixes_law}
use Rattle.kind_tables.specs.{StageTables.name_of, FoundTables.{base_of, HaveAllMoves}}
use Rattle.kind_tables.proofs.Complete.{complete_words, complete_on_runs}
use Rattle.stage_tables.specs.{Explored.{names_at, IsComplete}, Whole.{IsWholeState, IsWholeMove}}
use Rattle.stage_tables.specs.Listed.{IsReached, IsOverOne, IsOfWidth, AreFound, AreTaken}
use Rattle.stage_tables.proofs.Named.{frame_stage, kind_of_state, name_is, old_move, base_is, weighs, columns_new}
use Rattle.stage_tables.proofs.{Named.{new_reached, is_named, all_fit}, KeptTables.path_within}

-- ---- the table

-- what is put behind nothing is first
pub put_first : {X : Type 0} (old new : List X) (x : X) → old ≡ [] → new ≡ old ++ x ∷ [] → new ≡ x ∷ []
put_first {X} old new x none put = put ∙ ap (λ (xs : List X). xs ++ x ∷ []) none

-- one state with one move
pub whole_states : {g : Ghosts UnitWeight} (frame : Frame) (old states : List (TableState UnitWeight g))
    (state : TableState UnitWeight g) (arc : TableArc UnitWeight g) → old ≡ [] → states ≡ old ++ state ∷ []
    → state.arcs.items ≡ arc ∷ [] → IsWholeMove frame arc → IsWholeState frame states
whole_states {g} frame old states state arc none put moves is =
    rw (put ∙ ap (λ (xs : List (TableState UnitWeight g)). xs ++ state ∷ []) none) (record {
      one = refl;
      some = (arc, rw moves (0, omega arith, refl));
      each = each;
    })
  where
    each : (s : ℕ) (a : TableArc UnitWeight g)
        → Contains (moves_at (let one : List (TableState UnitWeight g) = state ∷ [] in one) s) a
        → IsWholeMove frame a
    each zero a here = rw (contains_one arc a
        (subst (λ (xs : List (TableArc UnitWeight g)). Contains xs a) moves here)) at is
    each (suc s) a here = absurd (omega (arith, here.1))

-- its move is on some column
pub whole_filled : {g : Ghosts UnitWeight} (frame : Frame) (states : List (TableState UnitWeight g))
    → IsWholeState frame states → ClassesFilled states
whole_filled frame states whole s arc here = filled_from _ _
    ((whole.each s arc here).every (replicate (tiers_in frame).width Outside) (length-replicate (tiers_in frame).width
    Outside))

-- columns cost the same under all of the first constraints where they do under each
one_more : (n k : ℕ) → k < n → (k + 1 == 0) ≡ false
one_more n k l = ne_eqb (k + 1) 0 (λ e. omega (arith, e))

same_costs : (frame : Frame) (stage : ℕ) → stage ≤ last_stage (problem_in frame) → (kind : Kind) (c d : List Sym)
    → ((r : ℕ) → 1 ≤ r → r ≤ stage → cost_under frame stage r kind c ≡ cost_under frame stage r kind d)
    → move_costs (problem_in frame) stage (kind_at_stage frame stage kind) c
    ≡ move_costs (problem_in frame) stage (kind_at_stage frame stage kind) d
same_costs frame stage within kind c d each = same_number_lists _ _ (long c ∙ sym (long d)) (λ k l. at k l)
  where
    costs : List Sym → List ℕ
    costs column = move_costs (problem_in frame) stage (kind_at_stage frame stage kind) column

    long : (column : List Sym) → length (costs column) ≡ length (take stage (problem_in frame).constraints)
    long column = length_costs (take stage (problem_in frame).constraints)
        (is_tier_open (problem_in frame) (kind_at_stage frame stage kind)) (kind_at_stage frame stage kind).phases
        column

    at : (k : ℕ) → k < length (costs c) → get_or (costs c) k 0 ≡ get_or (costs d) k 0
    at k l =
        let few = length-take-le stage (problem_in frame).constraints within in
        let inside : k < stage = omega (arith, l, long c, few) in
        let same = each (k + 1) (omega arith) (omega (arith, inside)) in
        let back : k + 1 - 1 ≡ k = omega arith in
        let none = one_more stage k inside in
        ap (λ i. get_or (costs c) i 0) (sym back)
        ∙ sym (ap (λ b. cond b 0 (get_or (costs c) (k + 1 - 1) 0)) none)
        ∙ same
        ∙ ap (λ b. cond b 0 (get_or (costs d) (k + 1 - 1) 0)) none
        ∙ ap (λ i. get_or (costs d) i 0) back

module _ {g : Ghosts UnitWeight} (frame : Frame) (stage : ℕ) (within : stage ≤ last_stage (problem_in frame))
    (kept : List (TableState UnitWeight g)) (whole : IsWholeState frame kept) where
  whole_targets : TargetsExist kept
  whole_targets s arc here = omega (arith, (whole.each s arc here).target, whole.one)

  pub whole_over_one : IsOverOne frame stage kept
  whole_over_one a b s t ra rb same =
      let some : 0 < length kept = omega (arith, whole.one) in
      omega (
        arith,
        whole.one,
        path_within kept whole_targets ra.arcs 0 s some ra.path,
        path_within kept whole_targets rb.arcs 0 t some rb.path,
      )

  pub whole_wide : IsOfWidth frame kept
  whole_wide s arc here = (whole.each s arc here).wide

  -- each prefix that moves lead by begins a candidate
  pub whole_goes_on : (kind : Kind) (s : ℕ) → s < length kept → (r : IsReached frame stage kept kind s)
      → (rest : List (List Sym)) × IsCandidate (problem_in frame) (r.prefix ++ rest)
  whole_goes_on kind s l r = (prefixes_law _ _ _ r.starts _).0 (kind, r.leads)

  module _ {h : Ghosts Count} (first : ℕ) (entries : List (Kind × ℕ))
      (found : AreFound frame stage kept entries) (states : List (TableState Count h))
      (taken : AreTaken frame first stage kept entries states) (all : length states ≡ length entries) where
    all_moves : HaveAllMoves (problem_in frame) (names_at frame stage (keys_of entries)) states
    all_moves k column l fits =
        let a = kind_of_state _ _ _ _ _ found _ taken all k l in
        let is = base_is _ _ _ _ _ found _ taken all k _ _ a.2 in
        let base : 0
        ≡ base_of (values_of entries) k = omega (arith, is, (found.stands k a.0 a.1 a.2).within, whole.one) in
        let some = whole.some in
        let here = rw base at some.1 in
        columns_new _ _ _ _ _ found _ taken all k _ l
        (some.0, here, (whole.each 0 some.0 some.1).every column fits.width) fits

    -- the columns of each move cost the same under each constraint
    costs_alike : (one : first ≤ 1) (s : ℕ) (arc : TableArc Count h) → Contains (moves_at states s) arc
        → IsAlike (move_costs (problem_in frame) stage (name_of (names_at frame stage (keys_of entries)) s)) arc.class
    costs_alike one s arc here c d has_c has_d =
        let m = old_move frame first stage kept entries found states taken all s arc here in
        let is = name_is frame first stage kept entries found states taken all s m.0 m.1 m.2 in
        subst (λ (k : PrefixKind). move_costs (problem_in frame) stage k c ≡ move_costs (problem_in frame) stage k d)
        (sym is)
        (same_costs frame stage within m.0 c d
        (λ r low high. m.3.2.alike r (omega (arith, one, low)) high c d has_c has_d))

    -- all kinds that are found make the table of all candidates
    pub is_complete : first ≤ 1 → IsComplete frame stage (keys_of entries) states
    is_complete one =
        let here = frame_stage frame stage within in
        let names = names_at frame stage (keys_of entries) in
        let named = is_named frame first stage kept entries found states taken all in
        record {
          named = named;
          weighed = weighs frame first stage kept entries found states taken all;
          fit = all_fit frame first stage kept entries found states taken all;
          accepts = λ T. complete_words (problem_in frame) stage here names states named all_moves T;
          on_runs = λ s l. complete_on_runs (problem_in frame) stage here names states named all_moves
              (new_reached frame first stage kept entries found states taken all) s l;
          alike = costs_alike one;
        }
