-- The columns of a kind at a stage: at stage 0 those that fit it, and later what is left of the moves of its
-- cut, parted by the tests of the stage.
use Rattle.std.proofs.Common.{◌≡◌, ◌↔◌, ℕ, zero, suc, ◌+◌, ◌-◌, ◌<◌, ◌≤◌, IsTrue, List, [], ◌∷◌, length, get_or}
use Rattle.std.proofs.Common.{slice_get, Some, refl, sym, ap, ◌∙◌, subst, arith, All, Contains}
use Rattle.std.proofs.{lemmas.List.{get_or-map, length-map, take-take}}
use Rattle.std.proofs.lemmas.Option.{slice_get-get_or, slice_get_within, get_or_from_slice_get}
use Rattle.std.specs.{Global.Vec, List.AllByRecursion}
use Rattle.tier_core.specs.{declared.class.Class.Class, declared.constraint.Constraint.Constraint}
use Rattle.tier_core.specs.declared.kind.Kind.{Kind}
use Rattle.tier_core.specs.{declared.sym.Sym.Sym, Classes.{sets_of, has}, Filled.is_filled, Kinds.{Phase, PrefixKind}}
use Rattle.tier_core.proofs.{ClassLemmas.same_width}
use Rattle.symbol_class.specs.Held.{some_has}
use Rattle.violation.specs.{Moves.{next_kind, cost_of, cut_kind}, Prefixes.kind_of_bits, Problems.Problem}
use Rattle.violation.proofs.CutLemmas.{fits-cut}
use Rattle.answer_text.specs.{declared.automaton.ArcLine.ArcLine, declared.stage.Stage.Stage, ArcClasses.arc_classes}
use Rattle.answer_text.specs.Certified.{IsKeptBelow, IsTightAt, Lists}
use Rattle.cert_check.specs.{Alike.AreAlikeFor, Pieces.IsUniform}
use Rattle.cert_check.specs.{Fitting.{AreFitting, ArePartedByTests, IsReadAlike, OpenAlike}, Tests.{AddsTests, AgreeOn}}
use Rattle.cert_check.specs.Left.{AreFirstParts, AreLeft, AreLeftAt, AreTestsAt, IsLeadingArc, IsMovingAlike}
use Rattle.cert_check.specs.{declared.subject.Subject.Subject, Left.MoveAlike, Subjects.{problem_of, stage_kinds}}
use Rattle.cert_check.proofs.{Faultless.some_same, GoAlike.{first_moves, next_moves}, TightSteps.stretches_rise}
use Rattle.cert_check.proofs.UniformSteps.{of_listed}

-- ---- the tests of a stage

pub tests_first : (problem : Problem) (stage width : ℕ) (tests : List Class) → stage ≡ 0 → width ≡ problem.tiers.width
    → AddsTests width [] tests (OpenAlike width) → AreTestsAt problem stage tests
tests_first problem stage width tests first same t = subst (λ n. AreTestsAt problem n tests) (sym first)
    (subst (λ n. AddsTests n [] tests (OpenAlike n)) same t)

pub tests_next : (problem : Problem) (stage width : ℕ) (x : Constraint) (tests : List Class) → 1 ≤ stage
    → stage ≤ length problem.constraints → x ≡ get_or problem.constraints (stage - 1) x → width ≡ problem.tiers.width
    → AddsTests width [] tests (AreAlikeFor x) → AreTestsAt problem stage tests
tests_next problem zero width x tests some within is same t = absurd (omega (arith, some))
tests_next problem (suc r) width x tests some within is same t =
    let all = subst (λ n. AddsTests n [] tests (AreAlikeFor x)) same t in
    record {
      added = all.added;
      new_is = all.new_is;
      one_width = all.one_width;
      told = λ c d lc ld agree y e. subst (λ z. AreAlikeFor z c d)
          (is ∙ ap (λ n. get_or problem.constraints n x) (omega arith)
          ∙ get_or_from_slice_get problem.constraints r y x e) (all.told c d lc ld agree);
    }

-- ---- stage 0

pub parted_first : (problem : Problem) (k : PrefixKind) (width : ℕ) (tests fitting parts : List Class)
    → AllByRecursion (λ t. t < problem.tiers.width) problem.tiers.free
    → width ≡ problem.tiers.width → AreFitting problem k fitting → AreTestsAt problem 0 tests
    → ArePartedByTests width tests fitting parts → AreFirstParts problem k parts
parted_first problem k width tests fitting parts below same f t p = record {
  pieces = rw same at p.pieces;
  columns = λ column. (
    λ h. (f.columns column).0 (sym (p.columns column) ∙ h),
    λ b. p.columns column ∙ (f.columns column).1 b,
  );
  alike = λ n d inside c e hc he.
      let wide = p.pieces.one_width n d inside ∙ same in
      let whole = p.within n d inside in
      first_moves problem k c e below
      (of_listed (IsReadAlike problem) fitting whole.whole f.read whole.listed c e (whole.within c hc)
      (whole.within e he))
      (t.told c e (same_width _ c hc ∙ wide) (same_width _ e he ∙ wide)
      (rw t.new_is at (p.uniform n d inside c e hc he)));
}

-- ---- a kind and its cut

cut_cut : (problem : Problem) (j r : ℕ) (k : PrefixKind) → j ≤ r
    → cut_kind problem j (cut_kind problem r k) ≡ cut_kind problem j k
cut_cut problem j r k l = ap
    (λ (ps : List Phase). let m : PrefixKind = record { place = k.place; opened = k.opened; phases = ps } in m)
    (take-take _ _ k.phases (stretches_rise problem.constraints j r l))

tight_alike : (problem : Problem) (stages : List Stage) (j : ℕ) (k l : PrefixKind) (column : List Sym)
    → cut_kind problem j k ≡ cut_kind problem j l → IsTightAt problem stages j k column
    → IsTightAt problem stages j l column
tight_alike problem stages j k l column e t = record {
  before = t.before;
  after = t.after;
  leaves = subst (λ m. Lists problem stages j m t.before) e t.leaves;
  arrives = subst (λ m. Lists problem stages j (next_kind problem j m column) t.after) e t.arrives;
  falls = t.falls ∙ ap (λ m. cost_of problem j m column + t.after) e;
}

module _ (problem : Problem) (stages : List Stage) (r : ℕ) (k : PrefixKind) (column : List Sym) where
  -- the move of a kind is kept below the next stage where that of its cut is
  kept_uncut : IsKeptBelow problem stages (r + 1) (cut_kind problem r k) column
      → IsKeptBelow problem stages (suc r) k column
  kept_uncut b = record {
    fits = (fits-cut problem r k column).0 b.fits;
    tight = λ j one less. tight_alike problem stages j _ k column (cut_cut problem j r k (omega (arith, less)))
        (b.tight j one (omega (arith, less)));
  }

  kept_cut : IsKeptBelow problem stages (suc r) k column
      → IsKeptBelow problem stages (r + 1) (cut_kind problem r k) column
  kept_cut b = record {
    fits = (fits-cut problem r k column).1 b.fits;
    tight = λ j one less. tight_alike problem stages j k _ column (sym (cut_cut problem j r k (omega (arith, less))))
        (b.tight j one (omega (arith, less)));
  }

-- ---- a later stage

-- there is an element at each number that is below the length
element_at : {X : Type 0} (xs : List X) (n : ℕ) → n < length xs → (x : X) × (x ≡ get_or xs n x)
element_at [] n l = absurd (omega (arith, l))
element_at (x ∷ xs) zero l = (x, refl)
element_at (x ∷ xs) (suc n) l = element_at xs n (omega (arith, l))

-- a list of one element has no other
only_one : {X : Type 0} (x y : X) → Contains (x ∷ []) y → y ≡ x
only_one x y h = let none : h.0 ≡ 0 = omega (arith, h.1) in sym h.2 ∙ ap (λ n. get_or (x ∷ []) n y) none

-- columns of an arc of the stage before that the tests of a stage do not tell apart move alike
pub arc_alike : (problem : Problem) (stages : List Stage) (stage : ℕ) (k : PrefixKind) (tests : List Class)
    (arc : ArcLine) → 1 ≤ stage → stage ≤ length problem.constraints → AreTestsAt problem stage tests
    → IsLeadingArc problem stages (stage - 1) (cut_kind problem (stage - 1) k) arc → (c d : List Sym)
    → IsTrue (has arc.class c) → IsTrue (has arc.class d) → length c ≡ problem.tiers.width
    → length d ≡ problem.tiers.width → AgreeOn tests c d → MoveAlike problem stage k c d
arc_alike problem stages zero k tests arc some within t leads c d hc hd lc ld agree = absurd (omega (arith, some))
arc_alike problem stages (suc r) k tests arc some within t leads c d hc hd lc ld agree =
    let x = element_at problem.constraints r (omega (arith, within)) in
    let numbered : slice_get problem.constraints r ≡ Some x.0 =
    slice_get-get_or _ r x.0 (omega (arith, within)) ∙ ap (λ (y : Constraint). Some y) (sym x.1) in
    let to : IsLeadingArc problem stages r (cut_kind problem r k) arc =
    subst (λ n. IsLeadingArc problem stages n (cut_kind problem n k) arc) (omega arith) leads in
    next_moves problem k c d r x.0 (omega (arith, within)) x.1 (some_same (sym (to c hc) ∙ to d hd))
    (t.told c d lc ld (rw t.new_is at agree) x.0 numbered)

-- the same of a class that lies in the arc
pub part_alike : (problem : Problem) (stages : List Stage) (stage : ℕ) (k : PrefixKind) (tests : List Class)
    (arc : ArcLine) (part : Class) → 1 ≤ stage → stage ≤ length problem.constraints → AreTestsAt problem stage tests
    → IsLeadingArc problem stages (stage - 1) (cut_kind problem (stage - 1) k) arc
    → ((column : List Sym) → IsTrue (has part column) → IsTrue (has arc.class column))
    → length (sets_of part) ≡ problem.tiers.width → IsUniform tests part → IsMovingAlike problem stage k part
part_alike problem stages stage k tests arc part some within t leads inside wide uniform c d hc hd =
    arc_alike problem stages stage k tests arc some within t leads c d (inside c hc) (inside d hd)
    (same_width _ c hc ∙ wide) (same_width _ d hd ∙ wide) (uniform c d hc hd)

-- what is left of the moves of the cut is what is kept at the next stage
pub left_kept : (problem : Problem) (stages : List Stage) (stage : ℕ) (k : PrefixKind) (arcs : List ArcLine)
    → 1 ≤ stage → AreLeft problem stages (stage - 1) (cut_kind problem (stage - 1) k) arcs → (column : List Sym)
    → IsTrue (some_has (arc_classes arcs) column) ↔ IsKeptBelow problem stages stage k column
left_kept problem stages zero k arcs some left column = absurd (omega (arith, some))
left_kept problem stages (suc r) k arcs some left column =
    let here : AreLeft problem stages r (cut_kind problem r k) arcs =
    subst (λ n. AreLeft problem stages n (cut_kind problem n k) arcs) (omega arith) left in (
      λ h. kept_uncut problem stages r k column ((here.columns column).0 h),
      λ b. (here.columns column).1 (kept_cut problem stages r k column b),
    )

-- the same of each of its parts
pub parts_alike : (problem : Problem) (stages : List Stage) (stage : ℕ) (k : PrefixKind) (tests : List Class)
    (arc : ArcLine) (parts : List Class) (width : ℕ) → 1 ≤ stage → stage ≤ length problem.constraints
    → AreTestsAt problem stage tests → IsLeadingArc problem stages (stage - 1) (cut_kind problem (stage - 1) k) arc
    → width ≡ problem.tiers.width → ArePartedByTests width tests (arc.class ∷ []) parts
    → All (IsMovingAlike problem stage k) parts
parts_alike problem stages stage k tests arc parts width some within t leads same p n d inside =
    let whole = p.within n d inside in
    part_alike problem stages stage k tests arc (get_or parts n d) some within t leads
    (λ column h. subst (λ (w : Class). IsTrue (has w column)) (only_one arc.class whole.whole whole.listed)
    (whole.within column h)) (p.pieces.one_width n d inside ∙ same) (p.uniform n d inside)

-- the tests of a stage have the width of a class of the problem
pub tests_wide : (problem : Problem) (stage : ℕ) (tests : List Class) (class : Class) → AreTestsAt problem stage tests
    → length (sets_of class) ≡ problem.tiers.width
    → All (λ test. length (sets_of test) ≡ length (sets_of class)) tests
tests_wide problem stage tests class t wide = rw wide (rw t.new_is t.one_width)

-- an arc that is left is of the problem's width and not empty, and leads where the moves lead
pub arc_class_at : (problem : Problem) (stages : List Stage) (r : ℕ) (k : PrefixKind) (arcs : List ArcLine)
    → AreLeft problem stages r k arcs → (n : ℕ) (arc : ArcLine) → n < length arcs → arc ≡ get_or arcs n arc
    → (length (sets_of arc.class) ≡ problem.tiers.width)
    × (IsTrue (is_filled arc.class) × IsLeadingArc problem stages r k arc)
arc_class_at problem stages r k arcs left n arc inside is =
    let within : n < length (arc_classes arcs) =
    omega (arith, inside, length-map arcs (λ (x : ArcLine). x.class)) in
    let class =
    ap (λ (x : ArcLine). x.class) is ∙ sym (get_or-map (λ (x : ArcLine). x.class) arcs n arc arc.class inside) in (
      ap (λ c. length (sets_of c)) class ∙ left.pieces.one_width n arc.class within,
      (rw class (left.pieces.filled n arc.class within), rw is (left.leads n arc inside)),
    )

-- the list of a number is what is left of the moves of the kind there
pub left_at : (s : Subject) (stage : ℕ) (kind : Kind) (lists : List (Vec ArcLine)) (n : ℕ) (k : PrefixKind)
    (arcs : Vec ArcLine) (found : List ArcLine) → slice_get (stage_kinds s (stage - 1)) n ≡ Some k
    → k ≡ cut_kind (problem_of s) (stage - 1) (kind_of_bits (problem_of s) stage kind)
    → AreLeftAt s (stage - 1) lists → arcs ≡ get_or lists n arcs → found ≡ arcs.items
    → AreLeft (problem_of s) s.answer.now.stages.items (stage - 1)
    (cut_kind (problem_of s) (stage - 1) (kind_of_bits (problem_of s) stage kind)) found
left_at s stage kind lists n k arcs found e cut left is same = rw same (rw cut at (left.each n k arcs e
    (slice_get-get_or lists n arcs (omega (arith, slice_get_within _ n k e, left.number))
    ∙ ap (λ (x : Vec ArcLine). Some x) (sym is))))
