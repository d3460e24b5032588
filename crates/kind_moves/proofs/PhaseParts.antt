-- Pieces that are parted by the phases of the first stretch implications.
use Rattle.std.proofs.Common.{◌≡◌, ℕ, ◌+◌, ◌<◌, ◌≤◌, true, false, cond, List, [], ◌∷◌, ◌++◌, take, filter, length}
use Rattle.std.proofs.{Common.{get_or, refl, ap, sym, ◌∙◌, subst, arith}, lemmas.List.{length_push, append-nil}}
use Rattle.std.proofs.lemmas.List.FromFn.{length-map-range_with_len, map-range_with_len_more}
use Rattle.tier_core.specs.{declared.class.Class.Class, declared.kind.Kind.Kind, declared.sym.Sym.Sym}
use Rattle.tier_core.specs.{declared.constraint.Constraint.Constraint, Kinds.{Phase, phase_at, phases}}
use Rattle.tier_core.specs.Sides.{is_stretch}
use Rattle.symbol_class.specs.{Held.ArePieces, Parts.ArePartedBy}
use Rattle.symbol_class.proofs.PartSteps.{parted_same, parted_then}
use Rattle.violation.specs.Moves.{next_phase, next_phases}
use Rattle.violation.proofs.NextPhases.{stretches_more, next_append}

-- the phases after a column of the stretch implications among the first n constraints
abbrev pub phases_after : List Constraint → Kind → ℕ → ℕ → List Sym → List Phase
phases_after cs kind n next column = next_phases (filter is_stretch (take n cs)) (phases next kind) column

-- pieces are parted by the phases of the first n constraints
pub record ArePhasedBelow (width : ℕ) (cs : List Constraint) (kind : Kind) (n next : ℕ)
    (wholes parts : List Class) : Type 0 where
  pub count : next ≡ length (filter is_stretch (take n cs))
  pub few : next ≤ n
  pub parted : ArePartedBy width (phases_after cs kind n next) wholes parts

pub phased_none : (width : ℕ) (cs : List Constraint) (kind : Kind) (wholes : List Class) → ArePieces width wholes
    → ArePhasedBelow width cs kind 0 0 wholes wholes
phased_none width cs kind wholes pieces = record {
  count = refl;
  few = omega arith;
  parted = parted_same width (phases_after cs kind 0 0) wholes pieces (λ k d inside x y _ _. refl);
}

-- the phases of one stretch implication more
pub phases_more : (cs : List Constraint) (kind : Kind) (n next : ℕ) (c : Constraint) (column : List Sym)
    → next ≡ length (filter is_stretch (take n cs)) → n < length cs → c ≡ get_or cs n c → is_stretch c ≡ true
    → phases_after cs kind (n + 1) (next + 1) column
    ≡ phases_after cs kind n next column ++ next_phase c.left c.right (phase_at kind next) column ∷ []
phases_more cs kind n next c column count l is h =
    let fs = filter is_stretch (take n cs) in
    let longer : filter is_stretch (take (n + 1) cs) ≡ fs ++ c ∷ [] = stretches_more cs n c true l is h in
    let size : length (phases next kind) ≡ length fs = length-map-range_with_len (phase_at kind) 0 next ∙ count in
    ap (λ x. next_phases x (phases (next + 1) kind) column) longer
    ∙ ap (λ ps. next_phases (fs ++ c ∷ []) ps column) (map-range_with_len_more (phase_at kind) 0 next next
    (omega arith))
    ∙ next_append fs (phases next kind) c (phase_at kind next) column size

pub phased_more : (width : ℕ) (cs : List Constraint) (kind : Kind) (n next : ℕ) (wholes parts more : List Class)
    (c : Constraint) → ArePhasedBelow width cs kind n next wholes parts
    → n < length cs → c ≡ get_or cs n c → is_stretch c ≡ true
    → ArePartedBy width (next_phase c.left c.right (phase_at kind next)) parts more
    → ArePhasedBelow width cs kind (n + 1) (next + 1) wholes more
phased_more width cs kind n next wholes parts more c a l is h p =
    let fs = filter is_stretch (take n cs) in
    let longer : filter is_stretch (take (n + 1) cs) ≡ fs ++ c ∷ [] = stretches_more cs n c true l is h in
    let step : (column : List Sym) → phases_after cs kind (n + 1) (next + 1) column
    ≡ phases_after cs kind n next column ++ next_phase c.left c.right (phase_at kind next) column ∷ [] =
    (λ column. phases_more cs kind n next c column a.count l is h) in
    record {
      count = omega (arith, a.count, ap length longer, length_push fs c);
      few = omega (arith, a.few);
      parted = parted_then width (phases_after cs kind n next) (next_phase c.left c.right (phase_at kind next))
          (phases_after cs kind (n + 1) (next + 1)) wholes parts more
          (λ x y _ _ before here. step x ∙ ap (λ ps. ps ++ next_phase c.left c.right
          (phase_at kind next) x ∷ []) before ∙ ap (λ q. phases_after cs kind n next y ++ q ∷ []) here
          ∙ sym (step y))
          a.parted p;
    }

pub phased_same : (width : ℕ) (cs : List Constraint) (kind : Kind) (n next : ℕ) (wholes parts : List Class)
    (c : Constraint) → ArePhasedBelow width cs kind n next wholes parts
    → n < length cs → c ≡ get_or cs n c → is_stretch c ≡ false
    → ArePhasedBelow width cs kind (n + 1) next wholes parts
phased_same width cs kind n next wholes parts c a l is h =
    let fs = filter is_stretch (take n cs) in
    let same : filter is_stretch (take (n + 1) cs) ≡ fs = stretches_more cs n c false l is h ∙ append-nil fs in
    record {
      count = a.count ∙ sym (ap length same);
      few = omega (arith, a.few);
      parted = subst (λ xs. ArePartedBy width (λ column. next_phases xs (phases next kind) column) wholes parts)
          (sym same) a.parted;
    }
