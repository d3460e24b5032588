-- Where the nodes of a stage stand.
use Rattle.std.proofs.Common.{◌≡◌, ℕ, ◌+◌, ◌-◌, ◌<◌, ◌≤◌, List, [], ◌∷◌, length, slice_get, Some, None, Option}
use Rattle.std.proofs.{Common.{refl, sym, ap, ◌∙◌, subst, arith, inl, inr, Contains}, lemmas.List.length-map}
use Rattle.std.proofs.lemmas.Map.Keys.{sorted_from_all_adjacent}
use Rattle.std.proofs.lemmas.Option.{slice_get-get_or, get_or_from_slice_get}
use Rattle.std.specs.declared.cmp.Ordering.TheVariants.{Less}
use Rattle.tier_core.specs.Kinds.{kind_order}
use Rattle.violation.specs.{Moves.cut_kind, Prefixes.{kind_of, kind_of_bits}, Problems.{Problem, last_stage}}
use Rattle.answer_text.specs.{declared.stage.Node.Node, Certified.IsPossibleKind}
use Rattle.tier_core.proofs.KindTies.{kind_order_total}
use Rattle.cert_check.specs.{declared.subject.Subject.Subject, declared.fault.Fault.TheVariants.NodeWrong}
use Rattle.cert_check.specs.{Faults.{HasNode, IsInOrder, HasWrongNode}, Parts.{IsFirstInStage}}
use Rattle.cert_check.specs.{Places.IsBefore, Subjects.{IsReady, AreFirstNodesInOrder, problem_of, stage_nodes}}
use Rattle.cert_check.specs.Subjects.{stage_kinds, node_kind, AscendsAt}
use Rattle.cert_check.proofs.{Faultless.node_kind as kind_of_node, Parts.none_before, Subjects.in_stages}
use Rattle.cert_check.proofs.Ascending.{none_there}

module _ (s : Subject) (stage : ℕ) where
  abbrev problem : Problem
  problem = problem_of s

  kind_count : length (stage_kinds s stage) ≡ length (stage_nodes s stage)
  kind_count = length-map (stage_nodes s stage) (λ (node : Node). kind_of_bits problem stage node.kind)

  -- a node stands where it may, by its parts
  pub in_order_by : (n : ℕ) → n < length (stage_nodes s stage) → IsPossibleKind problem stage (node_kind s stage n)
      → (1 ≤ n → kind_order (node_kind s stage (n - 1)) (node_kind s stage n) ≡ Less)
      → (1 ≤ stage → Contains (stage_kinds s (stage - 1)) (cut_kind problem (stage - 1) (node_kind s stage n)))
      → IsInOrder problem s.answer.now.stages.items stage n (node_kind s stage n)
  in_order_by n l possible after before = record {
    possible = possible;
    after = λ k some e. ap (λ x. kind_order x (node_kind s stage n))
        (sym (get_or_from_slice_get (stage_kinds s stage) (n - 1) k (kind_of problem stage []) e)) ∙ after some;
    cut_before = before;
  }

  pub after_by : (n : ℕ) → n < length (stage_nodes s stage)
      → IsInOrder problem s.answer.now.stages.items stage n (node_kind s stage n)
      → 1 ≤ n → kind_order (node_kind s stage (n - 1)) (node_kind s stage n) ≡ Less
  after_by n l o some = o.after (node_kind s _ _) some
      (slice_get-get_or _ (n - 1) (kind_of problem stage []) (omega (arith, l, kind_count)))

  -- nodes that all stand where they may ascend
  pub ascends_by : AreFirstNodesInOrder s stage (length (stage_nodes s stage)) → AscendsAt s stage
  ascends_by o = sorted_from_all_adjacent kind_order_total (stage_kinds s stage) (kind_of problem stage [])
      (λ k l. let inside : k + 1 < length (stage_nodes s stage) = omega (arith, l, kind_count) in
      subst (λ m. kind_order (node_kind s stage m) (node_kind s stage (k + 1)) ≡ Less) (omega arith)
      (after_by (k + 1) inside (o (k + 1) inside) (omega arith)))

  -- the kind of a node by its number
  pub numbered_is : (n : ℕ) (node : Node) → HasNode s.answer.now stage n node
      → kind_of_bits problem stage node.kind ≡ node_kind s stage n
  numbered_is n node h = sym (get_or_from_slice_get _ n _ _ (kind_of_node problem s.answer.now stage n node h))

  -- there is a node with each number
  pub node_there : IsReady s → stage ≤ last_stage problem → (n : ℕ) → n < length (stage_nodes s stage)
      → (node : Node) × HasNode s.answer.now stage n node
  node_there ready within n l =
      let some = some_of _ _ n l refl in
      (some.0, record { within = in_stages s ready _ within; numbered = some.1 })
    where
      some_of : (o : Option Node) (nodes : List Node) (m : ℕ) → m < length nodes → slice_get nodes m ≡ o
          → (node : Node) × (slice_get nodes m ≡ Some node)
      some_of (Some node) nodes m h e = (node, e)
      some_of None nodes m h e = absurd (none_there _ m h e)

  -- the first node that does not stand where it may
  pub first_wrong : IsReady s → stage ≤ last_stage problem → (n : ℕ) → n < length (stage_nodes s stage)
      → (IsInOrder problem s.answer.now.stages.items stage n (node_kind s stage n) → ⊥)
      → AreFirstNodesInOrder s stage n → IsFirstInStage problem s.answer.now stage (NodeWrong stage n)
  first_wrong ready within n l wrong before = let there = node_there ready within n l in record {
    place = 0 ∷ n ∷ [];
    is = (
      record {
        node = there.0;
        is = there.1;
        wrong = λ o. wrong (rw (numbered_is n there.0 there.1) at o);
      },
      refl,
    );
    first = none_before _ 0 (n ∷ []) (λ m h. absurd (omega arith))
        (λ rest w b. earlier _ w.1.0 (subst (λ q. IsBefore q (n ∷ [])) w.1.1 b));
  }
    where
      earlier : (m : ℕ) → HasWrongNode problem s.answer.now stage m → IsBefore (m ∷ []) (n ∷ []) → ⊥
      earlier m w (inl less) = w.wrong (rw ((numbered_is m w.node w.is)) (before m less))
      earlier m w (inr same) = same.1
