-- Columns that lead to one kind at the stage before, and pass the test of the last constraint alike,
-- lead to one kind.
use Rattle.std.proofs.Common.{◌≡◌, ℕ, zero, suc, ◌+◌, ◌<◌, ◌≤◌, ◌&&◌, ◌||◌, not, Bool, true, false, cond, List, []}
use Rattle.std.proofs.Common.{◌∷◌, ◌++◌, take, filter, length, get_or, refl, ap, ap₂, sym, ◌∙◌, subst, arith}
use Rattle.std.proofs.{lemmas.List.{length_push, append-nil}, lemmas.List.Elements.filter_more}
use Rattle.std.proofs.lemmas.List.FromFn.{length-map-range_with_len, get_or-map-range_with_len}
use Rattle.tier_core.specs.{declared.constraint.Constraint.Constraint, declared.kind.Kind.Kind, declared.sym.Sym.Sym}
use Rattle.tier_core.specs.{Kinds.{PrefixKind, Phase, closed, phase_at, phases}, Tiers.has_tier, Scan.opens}
use Rattle.tier_core.specs.{Sides.is_stretch, Timelines.symbol}
use Rattle.violation.specs.{Conditions.IsOverTiers, Moves.{is_tier_open, is_met_phase, next_phase, next_phases}}
use Rattle.violation.proofs.{KindBits.met_at, SplitLemmas.tiers_split}
use Rattle.kind_moves.specs.{declared.frame.Frame.Frame, declared.ask.Ask.TheVariants.{Open, NoInteriorOpen}}
use Rattle.kind_moves.specs.Asks.{answers}
use Rattle.kind_moves.specs.Frames.{problem_in, tiers_in, constraints_in, stretches_in, kind_at_stage, FitsAt}
use Rattle.kind_moves.specs.{LastMoves.{next_at, next_before, PartsLast}, Pieces.opened_by}
use Rattle.kind_moves.proofs.{CostLaws.over_at, GrammarTiers.form_from, MoveSteps.open_next}
use Rattle.kind_moves.proofs.PhaseAlike.{open_more, phase_alike, met_by_tests, goes_on}
use Rattle.kind_moves.proofs.PhaseParts.{phases_after, phases_more}

-- what stands behind the next phases is cut off
take_front : (cs : List Constraint) (ps : List Phase) (column : List Sym) (more : List Phase) → length ps ≡ length cs
    → take (length cs) (next_phases cs ps column ++ more) ≡ next_phases cs ps column
take_front [] ps column more e = refl
take_front (c ∷ cs) [] column more e = absurd (omega arith)
take_front (c ∷ cs) (p ∷ ps) column more e = ap (λ xs. next_phase c.left c.right p column ∷ xs)
    (take_front cs ps column more (omega arith))

pushed_at : (cs : List Constraint) (ps : List Phase) (column : List Sym) (p : Phase) → length ps ≡ length cs
    → get_or (next_phases cs ps column ++ p ∷ []) (length cs) closed ≡ p
pushed_at [] ps column p e = refl
pushed_at (c ∷ cs) [] column p e = absurd (omega arith)
pushed_at (c ∷ cs) (q ∷ ps) column p e = pushed_at cs ps column p (omega arith)

opened_alike : (c d : List Sym) (n : ℕ) → ((t : ℕ) → t < n → opens (symbol c t) ≡ opens (symbol d t))
    → opened_by n c ≡ opened_by n d
opened_alike c d zero h = refl
opened_alike c d (suc n) h =
    let more : n + 1 ≡ suc n = omega arith in
    subst (λ (m : ℕ). opened_by m c ≡ opened_by m d) more
    (open_more n c d (opened_alike c d n (λ t l. h t (omega arith))) (h n (omega arith)))

-- a kind with other phases
abbrev pub with_phases : PrefixKind → List Phase → PrefixKind
with_phases k ps = record { place = k.place; opened = k.opened; phases = ps }

module _ (frame : Frame) (before : ℕ) (kind : Kind) where
  abbrev before_last : List Constraint
  before_last = filter is_stretch (take before (constraints_in frame))

  abbrev phases_next : List Sym → List Phase
  phases_next column = (next_at frame (before + 1) kind column).phases

  -- what both columns leave open
  same_open : (c d : List Sym) → FitsAt frame (before + 1) kind c → FitsAt frame (before + 1) kind d
      → next_before frame before (before + 1) kind c ≡ next_before frame before (before + 1) kind d
      → opened_by (tiers_in frame).width c ≡ opened_by (tiers_in frame).width d
  same_open c d fits_c fits_d same =
      let split = tiers_split frame.grammar.now.tiers.kinds.items in
      let form = form_from (problem_in frame) frame.well_formed in
      opened_alike c d (tiers_in frame).width
      (λ t l. sym (open_next (problem_in frame) split form _ c fits_c (before + 1) t l)
      ∙ ap (λ k. is_tier_open (problem_in frame) k t) same
      ∙ open_next (problem_in frame) split form _ d fits_d (before + 1) t l)

  same_next : (c d : List Sym)
      → next_before frame before (before + 1) kind c ≡ next_before frame before (before + 1) kind d
      → phases_next c ≡ phases_next d → next_at frame (before + 1) kind c ≡ next_at frame (before + 1) kind d
  same_next c d same phased =
      ap (λ k. with_phases k (phases_next c)) same
      ∙ ap (with_phases (next_before frame before (before + 1) kind d)) phased

  module _ (last : Constraint) (inside : before < length (constraints_in frame))
      (is : last ≡ get_or (constraints_in frame) before last) where
    stretches_are : stretches_in frame (before + 1) ≡ before_last ++ cond (is_stretch last) (last ∷ []) []
    stretches_are = filter_more is_stretch (constraints_in frame) before last inside
        ∙ ap (λ x. before_last ++ cond (is_stretch x) (x ∷ []) []) (sym is)

    count_without : is_stretch last ≡ false → length (stretches_in frame (before + 1)) ≡ length before_last
    count_without none = ap length (stretches_are ∙ ap (λ b. before_last ++ cond b (last ∷ []) []) none
        ∙ append-nil before_last)

    pub is_last_stretch : (b : Bool) → is_stretch last ≡ b
        → length (stretches_in frame (before + 1)) ≡ length before_last + 1 → is_stretch last ≡ true
    is_last_stretch true stretch more = stretch
    is_last_stretch false none more = absurd (omega (arith, more, count_without none))

    -- the last constraint has a phase
    module _ (stretch : is_stretch last ≡ true) where
      count : length (stretches_in frame (before + 1)) ≡ length before_last + 1
      count =
          let longer : stretches_in frame (before + 1) ≡ before_last ++ last ∷ []
          = stretches_are ∙ ap (λ b. before_last ++ cond b (last ∷ []) []) stretch in
          omega (arith, ap length longer, length_push before_last last)

      parts : (column : List Sym) → phases_next column
          ≡ phases_after (constraints_in frame) kind before (length before_last) column
          ++ next_phase last.left last.right (phase_at kind (length before_last)) column ∷ []
      parts column =
          ap (λ m. next_phases (stretches_in frame (before + 1)) (phases m kind) column) count
          ∙ phases_more (constraints_in frame) kind before (length before_last) last column refl inside is stretch

      front : (column : List Sym) → (next_before frame before (before + 1) kind column).phases
          ≡ phases_after (constraints_in frame) kind before (length before_last) column
      front column = ap (take (length before_last)) (parts column)
          ∙ take_front before_last (phases (length before_last) kind) column _
          (length-map-range_with_len (phase_at kind) 0 (length before_last))

      with_phase : (was_met : Bool) → was_met ≡ is_met_phase (phase_at kind (length before_last)) → (c d : List Sym)
          → opened_by (tiers_in frame).width c ≡ opened_by (tiers_in frame).width d
          → goes_on last.left last.right was_met c ≡ goes_on last.left last.right was_met d
          → next_before frame before (before + 1) kind c ≡ next_before frame before (before + 1) kind d
          → phases_next c ≡ phases_next d
      with_phase was_met told c d opened alike same =
          parts c ∙ ap₂ (λ xs p. xs ++ p ∷ []) (sym (front c) ∙ ap (λ k. k.phases) same ∙ front d) last_alike
          ∙ sym (parts d)
        where
          over : IsOverTiers (tiers_in frame).width last
          over = over_at frame before last inside is

          last_alike : next_phase last.left last.right (phase_at kind (length before_last)) c
              ≡ next_phase last.left last.right (phase_at kind (length before_last)) d
          last_alike = phase_alike (tiers_in frame).width last.left last.right (phase_at kind (length before_last)) c d
              over.left_below over.right_below opened
              (subst (λ (b : Bool). goes_on last.left last.right b c ≡ goes_on last.left last.right b d) told alike)

      -- the last phase after a column is the one that a next kind has
      last_told : (column : List Sym) (next : Kind)
          → kind_at_stage frame (before + 1) next ≡ next_at frame (before + 1) kind column
          → phase_at next (length before_last)
          ≡ next_phase last.left last.right (phase_at kind (length before_last)) column
      last_told column next leads =
          let n = length before_last in
          let m = length (stretches_in frame (before + 1)) in
          sym (get_or-map-range_with_len (phase_at next) 0 m n n closed (omega (arith, count)) (omega arith))
          ∙ ap (λ k. get_or k.phases n closed) leads
          ∙ ap (λ xs. get_or xs n closed) (parts column)
          ∙ pushed_at before_last (phases n kind) column _ (length-map-range_with_len (phase_at kind) 0 n)

      pub met_after : (was_met : Bool) → was_met ≡ is_met_phase (phase_at kind (length before_last))
          → (column : List Sym) (next : Kind)
          → kind_at_stage frame (before + 1) next ≡ next_at frame (before + 1) kind column
          → has_tier next.met (length before_last)
          ≡ ((answers Open last.left column && not (answers NoInteriorOpen last.right column))
          || goes_on last.left last.right was_met column)
      met_after was_met told column next leads =
          met_at next (length before_last)
          ∙ ap is_met_phase (last_told column next leads)
          ∙ met_by_tests last.left last.right (phase_at kind (length before_last)) column
          ∙ ap (λ b. (answers Open last.left column && not (answers NoInteriorOpen last.right column))
          || goes_on last.left last.right b column) (sym told)

-- the tests of the last constraint, which has a phase
module _ (frame : Frame) (before stage : ℕ) (kind : Kind) (last : Constraint) (was_met : Bool)
    (next : before + 1 ≡ stage) (within : stage ≤ length (constraints_in frame))
    (phase : length (stretches_in frame stage) ≡ length (stretches_in frame before) + 1)
    (is : last ≡ get_or (constraints_in frame) before last)
    (told : was_met ≡ is_met_phase (phase_at kind (length (stretches_in frame before)))) where
  inside : before < length (constraints_in frame)
  inside = omega arith

  stretch : is_stretch last ≡ true
  stretch = is_last_stretch frame before kind last inside is (is_stretch last) refl
      (subst (λ (s : ℕ). length (stretches_in frame s) ≡ length (stretches_in frame before) + 1) (sym next) phase)

  -- the one parts what the stage before does not
  pub parts_last : (test : List Sym → Bool) → ((column : List Sym) → length column ≡ (tiers_in frame).width
      → test column ≡ goes_on last.left last.right was_met column) → PartsLast frame before stage kind test
  parts_last test tests =
      subst (λ (s : ℕ). PartsLast frame before s kind test) next
      (λ c d fits_c fits_d same alike. same_next frame before kind c d same
      (with_phase frame before kind last inside is stretch was_met told c d
      (same_open frame before kind c d fits_c fits_d same)
      (sym (tests c fits_c.width) ∙ alike ∙ tests d fits_d.width) same))

  -- and both tell whether the phase is met
  pub met_last : (column : List Sym) (other : Kind) → kind_at_stage frame stage other ≡ next_at frame stage kind column
      → has_tier other.met (length (stretches_in frame before))
      ≡ ((answers Open last.left column && not (answers NoInteriorOpen last.right column))
      || goes_on last.left last.right was_met column)
  met_last column other leads =
      met_after frame before kind last inside is stretch was_met told column other
      (subst (λ (s : ℕ). kind_at_stage frame s other ≡ next_at frame s kind column) (sym next) leads)
