-- Kinds that are one at the stage before, and whose last phases are met or not alike, are one.
use Rattle.std.proofs.Common.{◌≡◌, ℕ, zero, suc, ◌+◌, ◌≤◌, Bool, List, [], ◌∷◌, take, length, get_or, refl, ap, ap₂}
use Rattle.std.proofs.{Common.{sym, ◌∙◌, subst, arith}, lemmas.List.FromFn.get_or-map-range_with_len}
use Rattle.tier_core.specs.{declared.constraint.Constraint.Constraint, declared.kind.Kind.Kind}
use Rattle.tier_core.specs.{Kinds.{PrefixKind, Phase, closed, unmet, met, phase_at}, Tiers.has_tier}
use Rattle.violation.specs.Moves.{cut_kind, is_met_phase}
use Rattle.violation.proofs.KindBits.{met_at}
use Rattle.kind_moves.specs.{declared.frame.Frame.Frame, Frames.{problem_in, stretches_in, kind_at_stage, is_closed}}
use Rattle.kind_moves.specs.Frames.{is_left_open, AreClosedOr, FitsFrame}
use Rattle.kind_moves.proofs.{KindEquality.same_told, LastPhase.with_phases}

one_phase : (p q : Phase) → is_closed p ≡ is_closed q → is_met_phase p ≡ is_met_phase q → p ≡ q
one_phase closed closed e f = refl
one_phase closed unmet e f = cc
one_phase closed met e f = cc
one_phase unmet closed e f = cc
one_phase unmet unmet e f = refl
one_phase unmet met e f = cc
one_phase met closed e f = cc
one_phase met unmet e f = cc
one_phase met met e f = refl

no_phases : (is_open : Constraint → Bool) (cs : List Constraint) (ps : List Phase) → length cs ≤ 0
    → AreClosedOr is_open cs ps → ps ≡ []
no_phases is_open [] [] l a = refl
no_phases is_open [] (p ∷ ps) l a = absurd a
no_phases is_open (c ∷ cs) ps l a = absurd (omega arith)

-- phases that are the same up to the last one, which is met in both or in neither
same_phases : (is_open : Constraint → Bool) (cs : List Constraint) (ps qs : List Phase) (n : ℕ)
    → AreClosedOr is_open cs ps → AreClosedOr is_open cs qs → length cs ≤ n + 1 → take n ps ≡ take n qs
    → is_met_phase (get_or ps n closed) ≡ is_met_phase (get_or qs n closed) → ps ≡ qs
same_phases is_open [] [] [] n a b l e f = refl
same_phases is_open [] [] (q ∷ qs) n a b l e f = absurd b
same_phases is_open [] (p ∷ ps) qs n a b l e f = absurd a
same_phases is_open (c ∷ cs) [] qs n a b l e f = absurd a
same_phases is_open (c ∷ cs) (p ∷ ps) [] n a b l e f = absurd b
same_phases is_open (c ∷ cs) (p ∷ ps) (q ∷ qs) zero a b l e f =
    ap₂ (λ x xs. x ∷ xs) (one_phase p q (a.0 ∙ sym b.0) f)
    (no_phases is_open cs ps (omega arith) a.1 ∙ sym (no_phases is_open cs qs (omega arith) b.1))
same_phases is_open (c ∷ cs) (p ∷ ps) (q ∷ qs) (suc n) a b l e f =
    let head : p ≡ q = cc in
    let tail : take n ps ≡ take n qs = cc in
    ap₂ (λ x xs. x ∷ xs) head (same_phases is_open cs ps qs n a.1 b.1 (omega arith) tail f)

module _ (frame : Frame) (before stage : ℕ)
    (phase : length (stretches_in frame stage) ≡ length (stretches_in frame before) + 1) where
  last_at : (k : Kind) → get_or (kind_at_stage frame stage k).phases (length (stretches_in frame before)) closed
      ≡ phase_at k (length (stretches_in frame before))
  last_at k =
      let n = length (stretches_in frame before) in
      get_or-map-range_with_len (phase_at k) 0 (length (stretches_in frame stage)) n n closed (omega (arith, phase))
      (omega arith)

  pub same_by_last : (k l : Kind) → FitsFrame frame stage k → FitsFrame frame stage l
      → cut_kind (problem_in frame) before (kind_at_stage frame stage k)
      ≡ cut_kind (problem_in frame) before (kind_at_stage frame stage l)
      → has_tier k.met (length (stretches_in frame before)) ≡ has_tier l.met (length (stretches_in frame before))
      → k ≡ l
  same_by_last k l fits_k fits_l cut bits =
      let n = length (stretches_in frame before) in
      let k_told = kind_at_stage frame stage k in
      let l_told = kind_at_stage frame stage l in
      let closed_k : AreClosedOr (is_left_open (problem_in frame) l_told) (stretches_in frame stage) k_told.phases
      = subst (λ (is_open : Constraint → Bool). AreClosedOr is_open (stretches_in frame stage) k_told.phases)
      (ap (is_left_open (problem_in frame)) cut) fits_k.phases in
      let met_alike = ap is_met_phase (last_at k) ∙ sym (met_at k n) ∙ bits ∙ met_at l n
      ∙ ap is_met_phase (sym (last_at l)) in
      let phased : k_told.phases ≡ l_told.phases = same_phases (is_left_open (problem_in frame) l_told)
      (stretches_in frame stage) k_told.phases l_told.phases n closed_k fits_l.phases (omega (arith, phase))
      (ap (λ (x : PrefixKind). x.phases) cut) met_alike in
      same_told frame stage k l fits_k fits_l
      (ap (λ x. with_phases x k_told.phases) cut
      ∙ ap (with_phases (cut_kind (problem_in frame) before l_told)) phased)
