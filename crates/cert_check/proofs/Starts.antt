-- The kind of the empty prefix, by its bits, and at node 0 of a stage.
use Rattle.std.proofs.Common.{◌≡◌, ◌↔◌, ℕ, zero, suc, ◌<◌, ◌≤◌, IsTrue, Bool, false, List, [], ◌∷◌, map, length}
use Rattle.std.proofs.{Common.{slice_get, Some, refl, sym, ap, ap₂, ◌∙◌, arith}, lemmas.Cmp.tied_itself}
use Rattle.std.proofs.{lemmas.List.FromFn.length-range_with_len, lemmas.Option.slice_get_within}
use Rattle.std.specs.{List.{AllByRecursion}, Ordering.is_eq, declared.cmp.Ordering.Ordering}
use Rattle.tier_core.specs.{declared.constraint.Constraint.Constraint, declared.kind.Kind.Kind, Kinds.{Phase, closed}}
use Rattle.tier_core.specs.Kinds.{PrefixKind, open_tiers, phase_at, phases, phase_by_bits, kind_order}
use Rattle.tier_core.specs.{Tiers.has_tier, KindShapes.kind_in, Sides.is_stretch}
use Rattle.violation.specs.{Conditions.IsOverTiers, Prefixes.{kind_of, kind_of_bits, phase, stretches}}
use Rattle.violation.specs.Problems.{Problem, last_stage}
use Rattle.violation.proofs.ClosedPhases.{closed_first}
use Rattle.cert_check.specs.{declared.fault.Fault.TheVariants.StartMissing, declared.subject.Subject.Subject}
use Rattle.cert_check.specs.{Parts.{InStage, IsFirstInStage}}
use Rattle.cert_check.specs.Subjects.{IsReady, AreFirstNodesInOrder, problem_of, stage_nodes, stage_kinds}
use Rattle.tier_core.proofs.{KindTies.{same_kind, kind_order_total, is_equal}, Members.all_first, MaskBits.no_bit}
use Rattle.cert_check.proofs.{Orders.numbered_is, Parts.none_before, Subjects.{in_stages, tell_same}}
use Rattle.grammar_reader.proofs.OverTiers.{over_tiers}

none_open : (ns is : List ℕ) → length ns ≡ length is → map (has_tier 0) is ≡ map (λ (t : ℕ). false) ns
none_open [] [] e = refl
none_open [] (i ∷ is) e = absurd (omega arith)
none_open (n ∷ ns) [] e = absurd (omega arith)
none_open (n ∷ ns) (i ∷ is) e = ap₂ (λ b bs. b ∷ bs) (no_bit i) (none_open ns is (omega arith))

module _ (kind : Kind) (unmet : kind.unmet ≡ 0) (met : kind.met ≡ 0) where
  closed_at : (i : ℕ) → phase_at kind i ≡ closed
  closed_at i = ap₂ phase_by_bits (ap (λ m. has_tier m i) unmet ∙ no_bit i) (ap (λ m. has_tier m i) met ∙ no_bit i)

  all_closed : (cs : List Constraint) (is : List ℕ) → length cs ≡ length is
      → AllByRecursion (λ c. 0 < length c.left) cs
      → map (phase_at kind) is ≡ map (λ (c : Constraint). phase c.left c.right []) cs
  all_closed [] [] e h = refl
  all_closed [] (i ∷ is) e h = absurd (omega arith)
  all_closed (c ∷ cs) [] e h = absurd (omega arith)
  all_closed (c ∷ cs) (i ∷ is) e h = ap₂ (λ p ps. p ∷ ps) (closed_at i ∙ sym (closed_first _ c.right h.0))
      (all_closed cs is (omega arith) h.1)

-- kinds tie exactly where they are one
pub tie_is : (k l : PrefixKind) → IsTrue (is_eq (kind_order k l)) ↔ (k ≡ l)
tie_is k l = (
  λ h. same_kind k l (is_equal _ h),
  λ e. ap is_eq (ap (λ x. kind_order k x) (sym e) ∙ tied_itself kind_order_total k),
)

each_left : (n : ℕ) (cs : List Constraint) → AllByRecursion (IsOverTiers n) cs
    → AllByRecursion (λ c. 0 < length c.left) cs
each_left n [] h = tt
each_left n (c ∷ cs) h = (h.0.some_left, each_left n cs h.1)

module _ (s : Subject) (stage : ℕ) where
  abbrev problem : Problem
  problem = problem_of s

  lefts : AllByRecursion (λ c. 0 < length c.left) (stretches problem stage)
  lefts = each_left (length s.grammar.now.tiers.kinds.items) (stretches problem stage)
      (all_first (IsOverTiers (length s.grammar.now.tiers.kinds.items)) is_stretch problem.constraints stage
      (over_tiers s.grammar.now))

  -- bits of which none is set tell the kind of the empty prefix
  pub start_told : (kind : Kind) → kind.place ≡ 0 → kind.opened ≡ 0 → kind.unmet ≡ 0 → kind.met ≡ 0
      → kind_of_bits problem stage kind ≡ kind_of problem stage []
  start_told kind place opened unmet met =
      let flags =
      ap (open_tiers (length problem.tiers.free)) opened ∙ none_open _ _
      (sym (length-range_with_len 0 (length problem.tiers.free))) in
      let ps =
      all_closed kind unmet met _ _ (sym (length-range_with_len 0 (length (stretches problem stage)))) lefts in
      ap (λ (n : ℕ). let k : PrefixKind = record {
        place = n;
        opened = open_tiers (length problem.tiers.free) kind.opened;
        phases = phases (length (stretches problem stage)) kind;
      } in k) place
      ∙ ap₂ (λ (bs : List Bool) (qs : List Phase). let k : PrefixKind = record
      { place = 0; opened = bs; phases = qs } in k) flags ps

  module _ (ready : IsReady s) (within : stage ≤ last_stage problem) where
    -- a kind ties with these bits exactly where it is that of the empty prefix
    pub start_by : (kind start : Kind) → start.place ≡ 0 → start.opened ≡ 0 → start.unmet ≡ 0 → start.met ≡ 0
        → (o : Ordering) → o ≡ kind_order (kind_in s.shape.now stage kind) (kind_in s.shape.now stage start)
        → IsTrue (is_eq o) ↔ (kind_of_bits problem stage kind ≡ kind_of problem stage [])
    start_by kind start place opened unmet met o e =
        let same =
        e ∙ ap₂ kind_order (tell_same s ready _ within kind)
        (tell_same s ready _ within start ∙ start_told start place opened unmet met) in
        let t = tie_is _ _ in
        (λ h. t.0 (sym (ap is_eq same) ∙ h), λ h. ap is_eq same ∙ t.1 h)

    -- nodes that stand where they may leave no fault of theirs
    pub order_part : AreFirstNodesInOrder s stage (length (stage_nodes s stage)) → (rest : List ℕ)
        → InStage problem s.answer.now stage 0 rest → ⊥
    order_part order rest w =
        let h = w.1.0 in
        h.wrong (rw ((numbered_is s stage w.0 h.node h.is)) (order w.0 (slice_get_within _ _ _ h.is.numbered)))

    below_one : AreFirstNodesInOrder s stage (length (stage_nodes s stage)) → (m : ℕ) → m < 1 → (rest : List ℕ)
        → InStage problem s.answer.now stage m rest → ⊥
    below_one order zero l = order_part order
    below_one order (suc m) l = absurd (omega arith)

    pub first_missing : AreFirstNodesInOrder s stage (length (stage_nodes s stage))
        → (slice_get (stage_kinds s stage) 0 ≡ Some (kind_of problem stage []) → ⊥)
        → IsFirstInStage problem s.answer.now stage (StartMissing stage)
    first_missing order lacks = record {
      place = 1 ∷ [];
      is = (record { within = in_stages s ready _ within; lacks = lacks }, refl);
      first = none_before _ 1 [] (below_one order) (λ rest w b. b);
    }
