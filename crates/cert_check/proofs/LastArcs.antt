-- The arcs that are left of a node's moves after the last stage are those that its state has if nothing is
-- wrong with it.
use Rattle.std.proofs.Common.{◌≡◌, ℕ, ◌+◌, ◌≤◌, IsTrue, List, [], ◌∷◌, length, slice_get}
use Rattle.std.proofs.Common.{Some, None, Option, refl, sym, ap, ◌∙◌}
use Rattle.std.proofs.Common.{arith, get_or, ◌<◌, Contains}
use Rattle.std.proofs.{lemmas.List.Elements.All-contains, lemmas.List.Folds.list_any_at}
use Rattle.std.proofs.lemmas.Option.{slice_get_within, slice_get-map, slice_get-get_or, get_or_from_slice_get}
use Rattle.std.specs.{Global.Vec, List.Sorted.IsStrictlySortedBy, Prelude.option_map}
use Rattle.tier_core.specs.{declared.sym.Sym.Sym, Classes.{has, sets_of}, Kinds.{PrefixKind, kind_order}}
use Rattle.violation.specs.{Prefixes.kind_of_bits, Problems.{Problem, last_stage}}
use Rattle.answer_text.specs.{declared.automaton.ArcLine.ArcLine, declared.automaton.StateLine.StateLine}
use Rattle.answer_text.specs.{declared.stage.Node.Node, Certified.IsKeptBelow}
use Rattle.answer_text.specs.{Right.{kinds_at, IsNodeOf}, ArcClasses.arc_classes}
use Rattle.check_laws.proofs.Listing.{one_number}
use Rattle.tier_core.proofs.Members.{All-from_members, contains_map}
use Rattle.cert_check.specs.{declared.subject.Subject.Subject, Faults.{IsListedTarget, IsKeptTarget}}
use Rattle.cert_check.specs.{Left.{AreLeft, AreLeftAt, IsLeadingArc}}
use Rattle.cert_check.specs.States.{AreKeptArcs, IsRightBeforeStates, IsStateAt, last_kind}
use Rattle.cert_check.specs.Subjects.{AscendsAt, problem_of, stage_kinds}
use Rattle.cert_check.proofs.{ArcLists.{HasOneTarget, arc_there}, Ascending.ascends_unless}
use Rattle.cert_check.proofs.Faultless.{node_kind as kind_of_node, some_same}
use Rattle.cert_check.proofs.Subjects.{in_stages}

-- the kinds of each stage ascend
pub ascends_at : (s : Subject) → IsRightBeforeStates s → (j : ℕ) → j ≤ last_stage (problem_of s) → AscendsAt s j
ascends_at s staged j l = ascends_unless _ _ j (in_stages s staged.ready j l)
    (λ n w. staged.right 4 (omega arith) (j ∷ 0 ∷ n ∷ []) (j, (0, (n ∷ [], ((n, (w, refl)), refl)))))

-- the node that a number of a kind tells
pub node_of_number : (problem : Problem) (nodes : List Node) (n : ℕ) (k : PrefixKind)
    → slice_get (kinds_at problem (last_stage problem) nodes) n ≡ Some k → IsNodeOf problem nodes n k
node_of_number problem nodes n k e = own _ refl
  where
    told : (o : Option Node) → slice_get nodes n ≡ o
        → option_map (λ (node : Node). kind_of_bits problem (last_stage problem) node.kind) o ≡ Some k
    told o f =
        ap (option_map (λ (node : Node). kind_of_bits problem (last_stage problem) node.kind)) (sym f)
        ∙ sym (slice_get-map (λ (node : Node). kind_of_bits problem (last_stage problem) node.kind) nodes n) ∙ e

    own : (o : Option Node) → slice_get nodes n ≡ o → IsNodeOf problem nodes n k
    own None f = let no = told _ f in cc
    own (Some node) f = record { node = node; numbered = f; tells = some_same (told _ f) }

module _ (s : Subject) (k : PrefixKind) (arcs : List ArcLine)
    (left : AreLeft (problem_of s) s.answer.now.stages.items (last_stage (problem_of s)) k arcs) where
  abbrev Kept : List Sym → Type 0
  Kept column = IsKeptBelow (problem_of s) s.answer.now.stages.items (last_stage (problem_of s) + 1) k column

  arc_to : (column : List Sym) (arc : ArcLine) → Contains arcs arc → IsTrue (has arc.class column)
      → IsKeptTarget (problem_of s) s.answer.now k column (Some arc.target)
  arc_to column arc h holds =
      let m = contains_map (λ (x : ArcLine). x.class) arcs arc h in (
        (left.columns column).0 (list_any_at _ _ _ _ m.1 (ap (λ c. has c column) m.2 ∙ holds)),
        node_of_number _ _ _ _ (All-contains
            (IsLeadingArc (problem_of s) s.answer.now.stages.items (last_stage (problem_of s)) k) arcs arc left.leads h
            column holds),
      )

  kept_to : (column : List Sym) → Kept column → (m : ℕ) × IsListedTarget arcs column (Some m)
  kept_to column h =
      let there = arc_there _ _ ((left.columns column).1 h) in
      let arc = there.1.0 in (
        arc.target,
        (
          arc,
          (
            (
              there.0,
              slice_get_within _ _ _ there.1.1.0,
              get_or_from_slice_get arcs there.0 _ arc there.1.1.0,
            ),
            there.1.1.1,
            refl,
          ),
        ),
      )

  module _ (ascending : IsStrictlySortedBy kind_order (stage_kinds s (last_stage (problem_of s)))) where
    listed_to : (column : List Sym) (target : Option ℕ) → IsListedTarget arcs column target
        → IsKeptTarget (problem_of s) s.answer.now k column target
    listed_to column (Some m) h = rw h.1.2 at (arc_to _ _ h.1.0 h.1.1)
    listed_to column None none = λ h. let to = kept_to _ h in none to.1.0 to.1.1.0 to.1.1.1

    listed_from : (column : List Sym) (target : Option ℕ) → IsKeptTarget (problem_of s) s.answer.now k column target
        → IsListedTarget arcs column target
    listed_from column (Some m) h =
        let to = kept_to _ h.0 in
        let there = arc_to _ _ to.1.1.0 to.1.1.1 in
        let same = sym to.1.1.2 ∙ one_number _ _ ascending _ _ m there.1 h.1 in
        rw same at to.1
    listed_from column None none = λ arc h holds. none (arc_to _ _ h holds).0

    pub kept_arcs_are : AreKeptArcs (problem_of s) s.answer.now k arcs
    kept_arcs_are = record {
      one_width = All-from_members (λ (arc : ArcLine). length (sets_of arc.class) ≡ (problem_of s).tiers.width) arcs
          (λ arc h. All-contains (λ c. length (sets_of c) ≡ (problem_of s).tiers.width) (arc_classes arcs) arc.class
          left.pieces.one_width (contains_map (λ (x : ArcLine). x.class) arcs arc h));
      targets = λ column target. (listed_to _ _, listed_from _ _);
    }

-- on each column they have one target
pub one_kept_target : (s : Subject) (k : PrefixKind) (kept : List ArcLine)
    → AreKeptArcs (problem_of s) s.answer.now k kept
    → IsStrictlySortedBy kind_order (stage_kinds s (last_stage (problem_of s)))
    → (column : List Sym) → HasOneTarget kept column
one_kept_target s k kept are ascending column m n a b =
    one_number _ _ ascending _ m n ((are.targets column (Some m)).0 a).1 ((are.targets column (Some n)).0 b).1

-- ---- the list of a state's node

module _ (s : Subject) (staged : IsRightBeforeStates s) (state : StateLine) (node : Node)
    (at : IsStateAt s state node) (lists : List (Vec ArcLine))
    (left : AreLeftAt s (last_stage (problem_of s)) lists) where
  told : slice_get (stage_kinds s (last_stage (problem_of s))) state.node ≡ Some (last_kind s node)
  told = kind_of_node (problem_of s) s.answer.now (last_stage (problem_of s)) state.node node at.is

  pub number_within : state.node < length lists
  number_within = omega (arith, slice_get_within _ state.node _ told, left.number)

  pub kept_at : (arcs : Vec ArcLine) (found : List ArcLine) → arcs ≡ get_or lists state.node arcs → found ≡ arcs.items
      → AreKeptArcs (problem_of s) s.answer.now (last_kind s node) found
  kept_at arcs found is same = rw same (kept_arcs_are s (last_kind s node) arcs.items
      (left.each state.node _ arcs told
      (slice_get-get_or lists state.node arcs number_within ∙ ap (λ (x : Vec ArcLine). Some x) (sym is)))
      (ascends_at s staged _ (omega arith)))
