-- In a certified answer no fault is.
use Rattle.std.proofs.Common.{◌≡◌, ℕ, ◌+◌, ◌-◌, ◌<◌, Bool, IsTrue, List, length, get_or, slice_get, Some, None}
use Rattle.std.proofs.Common.{Option, refl, sym, ap, ◌∙◌, subst, arith, inl, inr, Contains, All, AllPairs}
use Rattle.std.proofs.{lemmas.List.length-map, lemmas.List.Elements.All-contains, lemmas.Map.Keys.Less-from_sorted}
use Rattle.std.proofs.lemmas.Option.{slice_get_within, get_or_from_slice_get, slice_get-map}
use Rattle.std.specs.{Prelude.{option_map, unwrap_or}, List.Sorted.IsStrictlySortedBy}
use Rattle.tier_core.specs.{declared.sym.Sym.Sym, declared.kind.Kind.Kind, Kinds.{PrefixKind, kind_order}}
use Rattle.tier_core.specs.Classes.{has, AreDisjoint}
use Rattle.violation.specs.{Counts.violations_of, Moves.{next_kind, cut_kind}, Prefixes.{kind_of_bits}}
use Rattle.violation.specs.Problems.{Problem, last_stage}
use Rattle.answer_text.specs.{declared.stage.Node.Node, declared.automaton.ArcLine.ArcLine}
use Rattle.answer_text.specs.{declared.automaton.StateLine.StateLine, declared.answer.Answer.Answer}
use Rattle.answer_text.specs.{Right.{nodes_at, kinds_at, IsNodeOf}, Certified.{Lists, IsKeptBelow, IsPossibleKind}}
use Rattle.answer_text.specs.Certified.{IsCertified, IsCertifiedStage, IsCertifiedAutomaton, AreStatesInOrder}
use Rattle.tier_core.proofs.Members.{contains_map}
use Rattle.check_laws.proofs.{Listing.{one_potential, one_number}, Leading.one_state}
use Rattle.cert_check.specs.declared.fault.Fault.TheVariants.{FormWrong, StageMissing, ExampleWrong, CountsDiffer}
use Rattle.cert_check.specs.declared.fault.Fault.TheVariants.{NodeWrong, StartMissing, FinalPotential, NotClosed}
use Rattle.cert_check.specs.declared.fault.Fault.TheVariants.{Potential, StartPotential, StateMissing, FinalsDiffer}
use Rattle.cert_check.specs.declared.fault.Fault.TheVariants.{ArcsTwice, ArcsDiffer}
use Rattle.cert_check.specs.Faults.{LacksStage, HasWrongCount, HasNode, IsInOrder, HasWrongNode, LacksStart}
use Rattle.cert_check.specs.Faults.{HasFinalPotential, IsNotClosed, HasHighPotential, HasWrongStart, IsState}
use Rattle.cert_check.specs.Faults.{HasState, LacksTarget, HasWrongMark, HasTwice, IsListedTarget, IsKeptTarget}
use Rattle.cert_check.specs.{Faults.HasWrongArcs, FirstFaults.{LacksState, IsFaultless}}

pub some_same : {X : Type 0} {x y : X} → Some x ≡ Some y → x ≡ y
some_same {x = x} e = ap (λ o. unwrap_or o x) e

-- a member is named by its number
pub contains_numbered : {X : Type 0} (xs : List X) (i : ℕ) (x : X) → slice_get xs i ≡ Some x → Contains xs x
contains_numbered xs i x e = (i, slice_get_within xs i x e, get_or_from_slice_get xs i x x e)

module _ (problem : Problem) (answer : Answer) where
  -- the kind that a node of a stage tells
  abbrev told : ℕ → Node → PrefixKind
  told r node = kind_of_bits problem r node.kind

  -- a node of a stage is listed there
  pub node_lists : (r n : ℕ) (node : Node) → HasNode answer r n node
      → Lists problem answer.stages.items r (kind_of_bits problem r node.kind) node.potential
  node_lists r n node h = record {
    node = node;
    listed = contains_numbered _ n _ h.numbered;
    tells = refl;
    potential = refl;
  }

  pub node_kind : (r n : ℕ) (node : Node) → HasNode answer r n node
      → slice_get (kinds_at problem r (nodes_at answer.stages.items r)) n ≡ Some (kind_of_bits problem r node.kind)
  node_kind r n node h = slice_get-map (told r) (nodes_at answer.stages.items r) n ∙ ap (option_map (told r)) h.numbered

  module _ (r : ℕ) (certified : IsCertifiedStage problem answer.counts.items answer.stages.items r) where
    -- a node of a certified stage stands where it may
    pub node_in_order : (n : ℕ) (node : Node) → HasNode answer r n node
        → IsInOrder problem answer.stages.items r n (kind_of_bits problem r node.kind)
    node_in_order n node h =
        let kinds = kinds_at problem r (nodes_at answer.stages.items r) in
        let k = kind_of_bits problem r node.kind in
        let here = node_kind r n _ h in
        let member = contains_numbered _ n k here in
        record {
          possible = All-contains (IsPossibleKind problem r) kinds k certified.kinds member;
          after = λ l some e. rw (get_or_from_slice_get _ _ l k e) at (rw (get_or_from_slice_get _ n k k here) at
              (Less-from_sorted kind_order kinds (n - 1) n k certified.ascending (omega (arith, some))
              (slice_get_within _ n k here)));
          cut_before = λ some. All-contains
              (λ x. Contains (kinds_at problem (r - 1) (nodes_at answer.stages.items (r - 1)))
              (cut_kind problem (r - 1) x)) kinds k (certified.cuts some) member;
        }

    no_wrong_node : (n : ℕ) → HasWrongNode problem answer r n → ⊥
    no_wrong_node n h = h.wrong (node_in_order n _ h.is)

    no_missing_start : LacksStart problem answer r → ⊥
    no_missing_start h = h.lacks certified.first

    no_final_potential : (n listed : ℕ) → HasFinalPotential problem answer r n listed → ⊥
    no_final_potential n listed h = h.differs (h.listed_is ∙ certified.final (kind_of_bits problem r h.node.kind)
        h.node.potential (node_lists r n _ h.is) h.final)

    no_unlisted : (n : ℕ) (column : List Sym) (missing : Kind) → IsNotClosed problem answer r n column missing → ⊥
    no_unlisted n column missing h =
        let next = certified.goes_on (kind_of_bits problem r h.node.kind) h.node.potential column
        (node_lists r n _ h.is) h.kept in
        h.unlisted next.0 next.1.0

    no_high_potential : (n : ℕ) (column : List Sym) (listed allowed : ℕ)
        → HasHighPotential problem answer r n column listed allowed → ⊥
    no_high_potential n column listed allowed h =
        let next = certified.goes_on (kind_of_bits problem r h.node.kind) h.node.potential column
        (node_lists r n _ h.is) h.kept in
        let same = one_potential _ r _ certified.ascending _ _ _ next.1.0 h.leads in
        omega (arith, next.1.1, same, h.listed_is, h.allowed_is, h.above)

    no_wrong_start : (listed count : ℕ) → HasWrongStart answer r listed count → ⊥
    no_wrong_start listed count h =
        let start = some_same (sym (node_kind r 0 _ h.is) ∙ certified.first) in
        h.differs
        (h.listed_is ∙ certified.start h.node.potential (rw start at (node_lists r 0 _ h.is)) ∙ sym h.count_is)

  module _ (states : AreStatesInOrder problem.tiers.width answer.automaton.states.items)
      (ascending : IsStrictlySortedBy kind_order
      (kinds_at problem (last_stage problem) (nodes_at answer.stages.items (last_stage problem))))
      (certified : IsCertifiedAutomaton problem answer.stages.items answer.automaton.states.items) where
    state_number : (n : ℕ) (line : StateLine) → HasState answer n line → IsState answer n
    state_number n line h = subst (IsState answer) h.numbered (contains_map _ _ _ h.listed)

    no_missing_target : (state arc target : ℕ) → LacksTarget answer state arc target → ⊥
    no_missing_target state arc target h =
        h.lacks (rw h.target_is (All-contains (λ (a : ArcLine). IsState answer a.target) h.line.arcs.items h.arc_line
        (All-contains (λ (line : StateLine). All (λ (a : ArcLine). IsState answer a.target) line.arcs.items)
        answer.automaton.states.items h.line certified.targets h.is.listed) (contains_numbered _ _ _ h.numbered)))

    no_wrong_mark : (state : ℕ) (listed : Bool) → HasWrongMark problem answer state listed → ⊥
    no_wrong_mark state listed h =
        h.differs (h.listed_is ∙ certified.finals h.line h.kind h.is.listed (rw h.is.numbered h.of_kind))

    no_twice : (state : ℕ) (column : List Sym) → HasTwice answer state column → ⊥
    no_twice state column h =
        let arcs = h.line.arcs.items in
        let apart =
        All-contains (λ (line : StateLine). AllPairs
        (λ (a b : ArcLine). AreDisjoint a.class b.class) line.arcs.items) answer.automaton.states.items h.line
        certified.once h.is.listed in
        let later = get_or_from_slice_get arcs h.second h.second_arc h.first_arc h.second_is in
        apart h.first h.second h.first_arc h.ascending (slice_get_within arcs h.second h.second_arc h.second_is) column
        (ap (λ (a : ArcLine). has a.class column)
        (get_or_from_slice_get arcs h.first h.first_arc h.first_arc h.first_is) ∙ h.in_first)
        (ap (λ (a : ArcLine). has a.class column) later ∙ h.in_second)

    abbrev last : ℕ
    last = last_stage problem

    -- an arc of a state and the move that is kept at the end lead to one node
    module _ (state : ℕ) (column : List Sym) (line : StateLine) (is : HasState answer state line) (kind : PrefixKind)
        (of_kind : IsNodeOf problem (nodes_at answer.stages.items last) state kind) where
      kept_by_arc : (arc : ArcLine) → Contains line.arcs.items arc → IsTrue (has arc.class column)
          → IsKeptBelow problem answer.stages.items (last + 1) kind column × IsNodeOf problem
          (nodes_at answer.stages.items last) arc.target (next_kind problem last kind column)
      kept_by_arc arc leaves holds =
          (certified.arcs state arc.target kind column (state_number _ _ is) of_kind).0 (record {
            state = line;
            arc = arc;
            listed = is.listed;
            from = is.numbered;
            leaves = leaves;
            to = refl;
            holds = holds;
          })

      one_target_kept : (listed kept : Option ℕ) → IsListedTarget line.arcs.items column listed
          → IsKeptTarget problem answer kind column kept → listed ≡ kept
      one_target_kept None None h k = refl
      one_target_kept (Some m) None h k = absurd (k (kept_by_arc _ h.1.0 h.1.1).0)
      one_target_kept None (Some m) h k =
          let arc = (certified.arcs state m kind column (state_number _ _ is) of_kind).1 (k.0, k.1) in
          let same = one_state _ states.ascending _ _ arc.listed is.listed (arc.from ∙ sym is.numbered) in
          absurd (h arc.arc (rw same at arc.leaves) arc.holds)
      one_target_kept (Some m) (Some l) h k =
          let by = kept_by_arc _ h.1.0 h.1.1 in
          ap (λ (n : ℕ). Some n) (sym h.1.2 ∙ one_number _ _ ascending _ _ l by.1 k.1)

    no_wrong_arcs : (state : ℕ) (column : List Sym) (listed kept : Option ℕ)
        → HasWrongArcs problem answer state column listed kept → ⊥
    no_wrong_arcs state column listed kept h =
        h.differs (one_target_kept _ _ h.line h.is h.kind h.of_kind _ _ h.listed_is h.kept_is)

  -- in a certified answer no fault is, whatever its place
  module _ (states : AreStatesInOrder problem.tiers.width answer.automaton.states.items)
      (certified : IsCertified problem answer) where
    stage_of : (r : ℕ) → r < length answer.stages.items
        → IsCertifiedStage problem answer.counts.items answer.stages.items r
    stage_of r l = certified.each_stage r (omega (arith, certified.stage_count, l))

    last_ascending : IsStrictlySortedBy kind_order
        (kinds_at problem (last_stage problem) (nodes_at answer.stages.items (last_stage problem)))
    last_ascending = (certified.each_stage (last_stage problem) (omega arith)).ascending

    no_missing_stage : (listed wanted : ℕ) → LacksStage problem answer listed wanted → ⊥
    no_missing_stage listed wanted h =
        let counted = ap length certified.counts ∙ length-map problem.constraints (λ c. violations_of c answer.example)
        in
        elim h.listed_is [
          | inl e ↦ h.differs (e ∙ certified.stage_count ∙ sym h.wanted_is)
          | inr e ↦ h.differs (omega (arith, e.1, counted, h.wanted_is))
        ]

    no_wrong_count : (constraint listed counted : ℕ) → HasWrongCount problem answer constraint listed counted → ⊥
    no_wrong_count constraint listed counted h =
        h.differs (h.listed_is ∙ ap (λ (v : List ℕ). get_or v (constraint - 1) 0) certified.counts ∙ sym h.counted_is)

    no_missing_state : (state target : ℕ) (place : List ℕ) → LacksState answer state target place → ⊥
    no_missing_state state target place (inl h) = h.2 certified.automaton.start
    no_missing_state state target place
        (inr h) = no_missing_target states last_ascending certified.automaton state h.0 target h.1.0

    pub faultless_if_certified : IsFaultless problem answer
    faultless_if_certified FormWrong place h = h.0 certified.well_formed certified.short
    faultless_if_certified (StageMissing listed wanted) place h = no_missing_stage listed wanted h.0
    faultless_if_certified ExampleWrong place h = h.0 certified.example
    faultless_if_certified
        (CountsDiffer constraint listed counted) place h = no_wrong_count constraint listed counted h.0
    faultless_if_certified (NodeWrong stage node) place h = no_wrong_node stage (stage_of stage h.0.is.within) node h.0
    faultless_if_certified (StartMissing stage) place h = no_missing_start stage (stage_of stage h.0.within) h.0
    faultless_if_certified (FinalPotential stage node listed) place h = no_final_potential stage
        (stage_of stage h.0.is.within) node listed h.0
    faultless_if_certified (NotClosed stage node missing) place h = no_unlisted stage
        (stage_of stage h.1.0.is.within) node h.0 missing h.1.0
    faultless_if_certified (Potential stage node listed allowed) place h = no_high_potential stage
        (stage_of stage h.1.0.is.within) node h.0 listed allowed h.1.0
    faultless_if_certified (StartPotential stage listed count) place h = no_wrong_start stage
        (stage_of stage h.0.is.within) listed count h.0
    faultless_if_certified (StateMissing state target) place h = no_missing_state state target place h
    faultless_if_certified
        (FinalsDiffer state listed) place h = no_wrong_mark states last_ascending certified.automaton state listed h.0
    faultless_if_certified
        (ArcsTwice state column) place h = no_twice states last_ascending certified.automaton state column h.0
    faultless_if_certified
        (ArcsDiffer state column listed kept) place h = no_wrong_arcs states last_ascending certified.automaton state
        column listed kept h.0
