-- The faults of a stage, node by node, and at last the potential of its start.
use Rattle.std.proofs.Common.{◌≡◌, ◌≢◌, ℕ, zero, suc, ◌<◌, ◌≤◌, List, [], ◌∷◌, length, get_or, slice_get, Some}
use Rattle.std.proofs.Common.{refl, sym, ap, ◌∙◌, subst, arith, inl, inr, ◌-◌, Contains}
use Rattle.std.proofs.lemmas.Option.{slice_get_within, slice_get-get_or, get_or_from_slice_get}
use Rattle.std.proofs.lemmas.List.{length-map}
use Rattle.std.specs.Global.{Vec}
use Rattle.tier_core.specs.declared.sym.Sym.{Sym}
use Rattle.violation.specs.{Moves.cut_kind, Prefixes.{kind_of, kind_of_bits}}
use Rattle.violation.specs.Problems.{Problem, last_place, last_stage}
use Rattle.answer_text.specs.declared.automaton.ArcLine.{ArcLine}
use Rattle.answer_text.specs.{declared.answer.Answer.Answer, declared.stage.Node.Node, Certified.start_potential}
use Rattle.cert_check.specs.{declared.fault.Fault.Fault, declared.fault.Fault.TheVariants.StartPotential}
use Rattle.cert_check.specs.{declared.subject.Subject.Subject, Faults.HasNode, Left.{AreLeftAt, IsAfter}}
use Rattle.cert_check.specs.{Nodes.{IsRightNode, IsFaultlessStage, IsFirstInNode}, FirstFaults.IsFirstFault}
use Rattle.cert_check.specs.Parts.{HasRightHead, InAnswer, InNode, InStage, IsFirstInStage, IsWrongMove}
use Rattle.cert_check.specs.Places.{IsBefore}
use Rattle.cert_check.specs.Subjects.{IsReady, AreFirstNodesInOrder, AscendsAt, problem_of, stage_nodes, stage_kinds}
use Rattle.cert_check.proofs.Orders.{numbered_is}
use Rattle.cert_check.proofs.Heads.{form_part, numbers_part, example_part, counts_part, head_parts}
use Rattle.cert_check.proofs.{Parts.{none_before, first_by_stage}, Starts.order_part, Subjects.in_stages}

module _ (s : Subject) (stage : ℕ) (ready : IsReady s) (within : stage ≤ last_stage (problem_of s)) where
  abbrev problem : Problem
  problem = problem_of s

  abbrev answer : Answer
  answer = s.answer.now

  -- a node by its number
  pub node_here : (ns : List Node) (n : ℕ) (node : Node) → ns ≡ stage_nodes s stage → n < length ns
      → node ≡ get_or ns n node → HasNode s.answer.now stage n node
  node_here ns n node e l f = record {
    within = in_stages s ready _ within;
    numbered = slice_get-get_or _ n _ (omega (arith, l, ap (λ (xs : List Node). length xs) e)) ∙ ap
        (λ (x : Node). Some x) (sym (f ∙ ap (λ (xs : List Node). get_or xs n node) e));
  }

  -- a node that stands where it may has its place in the form
  pub place_in : AreFirstNodesInOrder s stage (length (stage_nodes s stage)) → (n : ℕ) (node : Node)
      → HasNode s.answer.now stage n node → node.kind.place ≤ last_place (problem_of s)
  place_in order n node h =
      let o = order n (slice_get_within _ n _ h.numbered) in
      subst (λ k. k.place ≤ last_place (problem_of s)) (sym (numbered_is s _ n _ h)) o.possible.place

  -- what was found at the stage before serves a node that stands where it may
  pub after_before : AreFirstNodesInOrder s stage (length (stage_nodes s stage)) → (n : ℕ) (node : Node)
      (lists : List (Vec ArcLine)) → HasNode s.answer.now stage n node
      → (1 ≤ stage → AscendsAt s (stage - 1) × AreLeftAt s (stage - 1) lists) → 1 ≤ stage
      → IsAfter s stage node.kind lists
  after_before order n node lists h before one =
      let b = before one in
      let o = order n (slice_get_within _ n _ h.numbered) in
      record {
        ascends = b.0;
        cut = subst (λ k. Contains (stage_kinds s (stage - 1)) (cut_kind (problem_of s) (stage - 1) k))
            (sym (numbered_is s _ n _ h)) (o.cut_before one);
        left = b.1;
      }

  module _ (order : AreFirstNodesInOrder s stage (length (stage_nodes s stage)))
      (start : slice_get (stage_kinds s stage) 0 ≡ Some (kind_of (problem_of s) stage [])) where
    -- nothing is wrong before the nodes
    below_nodes : (m : ℕ) → m < 2 → (rest : List ℕ) → InStage problem answer stage m rest → ⊥
    below_nodes zero l = order_part s _ ready within order
    below_nodes (suc zero) l = λ rest w. w.0.lacks start
    below_nodes (suc (suc m)) l = absurd (omega arith)

    -- the first fault of a node comes first in its stage, where the nodes before it are right
    pub first_in_node : (n : ℕ) (fault : Fault)
        → ((m : ℕ) → m < n → IsRightNode (problem_of s) s.answer.now stage m)
        → IsFirstInNode (problem_of s) s.answer.now stage n fault
        → IsFirstInStage (problem_of s) s.answer.now stage fault
    first_in_node n fault before f = record {
      place = 2 ∷ n ∷ f.place;
      is = f.is;
      first = none_before _ 2 (n ∷ f.place) below_nodes own;
    }
      where
        own : (rest : List ℕ) → InStage problem answer stage 2 rest → IsBefore rest (n ∷ f.place) → ⊥
        own rest w b = at (rw w.1.1.1.1 at b)
          where
            at : IsBefore (w.0 ∷ w.1.0 ∷ w.1.1.0) (n ∷ f.place) → ⊥
            at (inl less) = before w.0 less w.1.0 w.1.1.0 w.1.1.1.0
            at (inr same) = f.first w.1.0 w.1.1.0 (rw same.0 at w.1.1.1.0) same.1

    -- ---- the potential of the start

    module _ (nodes : (n : ℕ) → n < length (stage_nodes s stage) → IsRightNode (problem_of s) s.answer.now stage n)
      where
        of_node : (n part : ℕ) (rest : List ℕ) → InNode problem answer stage n part rest
            → n < length (stage_nodes s stage)
        of_node n zero rest w = slice_get_within _ n _ w.1.0.is.numbered
        of_node n (suc zero) rest w = by _ w.1.0
          where
            by : (column : List Sym) → IsWrongMove problem answer stage n column → n < length (stage_nodes s stage)
            by column (inl v) = slice_get_within _ n _ v.1.is.numbered
            by column (inr v) = slice_get_within _ n _ v.1.1.is.numbered
        of_node n (suc (suc part)) rest w = absurd w

        below_start : (m : ℕ) → m < 3 → (rest : List ℕ) → InStage problem answer stage m rest → ⊥
        below_start zero l = below_nodes 0 (omega arith)
        below_start (suc zero) l = below_nodes 1 (omega arith)
        below_start (suc (suc zero)) l = λ rest w. nodes w.0 (of_node _ _ _ w.1.1.1.0) w.1.0 w.1.1.0 w.1.1.1.0
        below_start (suc (suc (suc m))) l = absurd (omega arith)

        some_nodes : 0 < length (stage_nodes s stage)
        some_nodes = omega (
          arith,
          slice_get_within _ 0 _ start,
          length-map (stage_nodes s stage) (λ (node : Node). kind_of_bits (problem_of s) stage node.kind),
        )

        pub right_stage : (listed : ℕ) → ((node : Node) → listed ≡ (get_or (stage_nodes s stage) 0 node).potential)
            → listed ≡ start_potential s.answer.now.counts.items stage
            → IsFaultlessStage (problem_of s) s.answer.now stage
        right_stage listed is same zero rest w = below_start 0 (omega arith) _ w
        right_stage listed is same (suc zero) rest w = below_start 1 (omega arith) _ w
        right_stage listed is same (suc (suc zero)) rest w = below_start 2 (omega arith) _ w
        right_stage listed is same (suc (suc (suc zero))) rest w =
            let h = w.1.1.0 in
            let here =
            get_or_from_slice_get _ 0 _ _ h.is.numbered in
            h.differs (h.listed_is ∙ ap (λ (x : Node). x.potential) (sym here) ∙ sym (is h.node) ∙ same
            ∙ sym h.count_is)
        right_stage listed is same (suc (suc (suc (suc m)))) rest w = absurd w

        pub first_start : (listed count : ℕ)
            → ((node : Node) → listed ≡ (get_or (stage_nodes s stage) 0 node).potential)
            → count ≡ start_potential s.answer.now.counts.items stage → listed ≢ count
            → IsFirstInStage (problem_of s) s.answer.now stage (StartPotential stage listed count)
        first_start listed count is same differs = by _ refl
          where
            by : (ns : List Node) → stage_nodes s stage ≡ ns
                → IsFirstInStage (problem_of s) s.answer.now stage (StartPotential stage listed count)
            by [] e = absurd (omega (arith, some_nodes, ap (λ (xs : List Node). length xs) e))
            by (node ∷ ns) e = record {
              place = 3 ∷ [];
              is = (
                record {
                  node = get_or (stage_nodes s stage) 0 node;
                  is = record {
                    within = in_stages s ready _ within;
                    numbered = slice_get-get_or _ 0 _ some_nodes;
                  };
                  listed_is = is node;
                  count_is = same;
                  differs = differs;
                },
                refl,
              );
              first = none_before _ 3 [] below_start (λ rest w b. b);
            }

-- ---- all stages

module _ (s : Subject) (ready : IsReady s) (head : HasRightHead (problem_of s) s.answer.now) where
  -- nothing is wrong before the stages
  pub before_stages : (m : ℕ) → m < 4 → (rest : List ℕ) → InAnswer (problem_of s) s.answer.now m rest → ⊥
  before_stages = head_parts (problem_of s) s.answer.now (form_part _ s.answer.now ready.form)
      (numbers_part _ _ ready.numbers) (example_part _ s.answer.now head.example) (counts_part _ _ head.counts)

  pub first_stage : (stage : ℕ) (fault : Fault)
      → ((r : ℕ) → r < stage → IsFaultlessStage (problem_of s) s.answer.now r)
      → IsFirstInStage (problem_of s) s.answer.now stage fault → IsFirstFault (problem_of s) s.answer.now fault
  first_stage stage fault before f = first_by_stage _ _ _ _ before_stages before f
