-- What the loops over the stages keep: reading on from so many nodes to come is reading on after the
-- whole stage.
use Rattle.std.proofs.Common.{◌≡◌, ℕ, suc, ◌&&◌, not, true, false, codes, ◌+◌, ◌≤◌, ◌<◌, List, [], ◌∷◌, ◌++◌}
use Rattle.std.proofs.Common.{length, map, Result, Ok, Err, ap, sym, ◌∙◌, arith}
use Rattle.std.proofs.{lemmas.List.{length_push, map_push}, lemmas.List.Elements.All-push}
use Rattle.std.specs.{List.All, Vec.vec_len}
use Rattle.tier_core.specs.declared.shape.Shape.{Shape}
use Rattle.answer_text.specs.{declared.stage.Node.Node, declared.stage.Stage.Stage}
use Rattle.answer_text.specs.Readable.{IsReadableStage, AreReadableStages, last_nodes}
use Rattle.answer_text.specs.Values.{NodeValue, node_value, stage_values}
use Rattle.answer_reader.specs.{declared.answer_err.AnswerErr.AnswerErr, declared.lines.Lines.Lines, Cuts.begins}
use Rattle.answer_reader.specs.{Left.{lines_left, Takes, Continues}, Lines.{stage_of, automaton_of}}
use Rattle.answer_reader.specs.Stages.{behind_stages, with_nodes, next_node, is_empty, StagesRead, stages_read}
use Rattle.answer_reader.specs.{Stages.stages_from, Steps.{At, line_then, Fails}, Within.IsNodeWithin}
use Rattle.answer_reader.proofs.Going.{fails_from, takes_on, takes_fails}
use Rattle.answer_reader.proofs.StageSteps.{node_next, stage_next, automaton_next}
use Rattle.answer_reader.proofs.StageValues.{length_values, empty_values, last_values, values_push, readable_push}

-- so many nodes are left of a stage that had so many
pub record IsInStage (shape : Shape) (columns : ℕ) (stages : List Stage) (count : ℕ) (old now : Lines) (left : ℕ)
    (nodes : List Node) : Type 0 where
  pub goes_on : stages_from shape columns (with_nodes (stage_values shape 0 stages) count []) old.number
      (lines_left old)
      ≡ stages_from shape columns (with_nodes (stage_values shape 0 stages) left
      (map (node_value shape (length stages)) nodes)) now.number (lines_left now)
  pub within : All (IsNodeWithin shape columns (length stages)) nodes
  pub size : length nodes + left ≡ count
  pub no_longer : length now.rest.now ≤ length old.rest.now

module _ (shape : Shape) (columns : ℕ) (stages : List Stage) (nodes : List Node) (more : ℕ) where
  abbrev values : List (List NodeValue)
  values = stage_values shape 0 stages

  abbrev node_values : List NodeValue
  node_values = map (node_value shape (length stages)) nodes

  -- a node that is to come, by the number of its stage
  node_here : (n : ℕ) (lines : List (List ℕ))
      → stages_from shape columns (with_nodes values (suc more) node_values) n lines
      ≡ line_then (next_node shape columns (length stages) node_values)
      (λ node. stages_from shape columns (with_nodes values more (node_values ++ node ∷ []))) n lines
  node_here n lines =
      node_next shape columns values more node_values n lines
      ∙ ap (λ k. line_then (next_node shape columns k node_values)
      (λ node. stages_from shape columns (with_nodes values more (node_values ++ node ∷ []))) n lines)
      (length_values shape 0 stages)

  pub node_read : (count left : ℕ) (old now new : Lines) (node : Node) → left ≡ suc more
      → IsInStage shape columns stages count old now left nodes
      → Takes (next_node shape columns (length stages) node_values) (node_value shape (length stages)) now new (Ok node)
      → IsNodeWithin shape columns (length stages) node → length new.rest.now < length now.rest.now
      → IsInStage shape columns stages count old new more (nodes ++ node ∷ [])
  node_read count left old now new node one is t within shorter = record {
    goes_on = is.goes_on ∙ ap (λ k. stages_from shape columns (with_nodes values k node_values) now.number
        (lines_left now)) one
        ∙ node_here now.number (lines_left now)
        ∙ takes_on (next_node shape columns (length stages) node_values) (node_value shape (length stages))
        (λ x. stages_from shape columns (with_nodes values more (node_values ++ x ∷ []))) now new node t
        ∙ ap (λ xs. stages_from shape columns (with_nodes values more xs) new.number (lines_left new))
        (sym (map_push (node_value shape (length stages)) nodes node));
    within = All-push (IsNodeWithin shape columns (length stages)) nodes node is.within within;
    size = let n = length_push nodes node in omega (arith, is.size);
    no_longer = omega (arith, is.no_longer);
  }

  pub node_refused : (count left : ℕ) (old now new : Lines) (e : AnswerErr) → left ≡ suc more
      → IsInStage shape columns stages count old now left nodes
      → Takes (next_node shape columns (length stages) node_values) (node_value shape (length stages)) now new (Err e)
      → Fails e (stages_from shape columns (with_nodes values count []) old.number (lines_left old))
  node_refused count left old now new e one is t = fails_from e _ _
      (is.goes_on ∙ ap (λ k. stages_from shape columns (with_nodes values k node_values) now.number (lines_left now))
      one ∙ node_here now.number (lines_left now)) (takes_fails (next_node shape columns (length stages) node_values)
      (node_value shape (length stages))
      (λ x. stages_from shape columns (with_nodes values more (node_values ++ x ∷ []))) now new e t)

module _ (shape : Shape) (columns : ℕ) (stages : List Stage) (old : Lines) where
  abbrev stages_before : List (List NodeValue)
  stages_before = stage_values shape 0 stages

  -- what is read from here on
  abbrev pub FromHere : Result StagesRead At
  FromHere = stages_from shape columns (behind_stages stages_before) old.number (lines_left old)

  stage_here : (not (is_empty stages) && begins (codes "automaton ") old.rest.now) ≡ false
      → FromHere ≡ line_then (stage_of (length shape.phases.items) (length stages))
      (λ nodes. stages_from shape columns (with_nodes stages_before nodes [])) old.number (lines_left old)
  stage_here h =
      stage_next shape columns stages_before old.number old.rest.now
      (ap (λ b. not b && begins (codes "automaton ") old.rest.now) (empty_values shape 0 stages) ∙ h)
      ∙ ap (λ k. line_then (stage_of (length shape.phases.items) k)
      (λ nodes. stages_from shape columns (with_nodes stages_before nodes [])) old.number (lines_left old))
      (length_values shape 0 stages)

  pub stage_read : (new : Lines) (count : ℕ) → (not (is_empty stages) && begins (codes "automaton ") old.rest.now)
      ≡ false
      → Takes (stage_of (length shape.phases.items) (length stages)) (λ (n : ℕ). n) old new (Ok count)
      → FromHere ≡ stages_from shape columns (with_nodes stages_before count []) new.number (lines_left new)
  stage_read new count h t =
      stage_here h ∙ takes_on (stage_of (length shape.phases.items) (length stages)) (λ (n : ℕ). n)
      (λ nodes. stages_from shape columns (with_nodes stages_before nodes [])) old new count t

  pub stage_refused : (new : Lines) (e : AnswerErr)
      → (not (is_empty stages) && begins (codes "automaton ") old.rest.now) ≡ false
      → Takes (stage_of (length shape.phases.items) (length stages)) (λ (n : ℕ). n) old new (Err e) → Fails e FromHere
  stage_refused new e h t =
      fails_from e FromHere (line_then (stage_of (length shape.phases.items) (length stages))
      (λ nodes. stages_from shape columns (with_nodes stages_before nodes [])) old.number (lines_left old))
      (stage_here h)
      (takes_fails (stage_of (length shape.phases.items) (length stages)) (λ (n : ℕ). n)
      (λ nodes. stages_from shape columns (with_nodes stages_before nodes [])) old new e t)

  automaton_here : (not (is_empty stages) && begins (codes "automaton ") old.rest.now) ≡ true
      → FromHere ≡ line_then (automaton_of (length (last_nodes stages)))
      (λ states n left. stages_read stages_before n left states) old.number (lines_left old)
  automaton_here h =
      automaton_next shape columns stages_before old.number old.rest.now
      (ap (λ b. not b && begins (codes "automaton ") old.rest.now) (empty_values shape 0 stages) ∙ h)
      ∙ ap (λ k. line_then (automaton_of k) (λ states n left. stages_read stages_before n left states) old.number
      (lines_left old)) (last_values shape 0 stages)

  -- the line of the automaton
  pub automaton_read : (new : Lines) (result : Result ℕ AnswerErr)
      → (not (is_empty stages) && begins (codes "automaton ") old.rest.now) ≡ true
      → Takes (automaton_of (length (last_nodes stages))) (λ (n : ℕ). n) old new result
      → Continues (stages_from shape columns (behind_stages stages_before))
      (λ states n left. stages_read stages_before n left states) old new result
  automaton_read new (Ok states) h t =
      automaton_here h ∙ takes_on (automaton_of (length (last_nodes stages))) (λ (n : ℕ). n)
      (λ states n left. stages_read stages_before n left states) old new states t
  automaton_read new (Err e) h t =
      fails_from e FromHere (line_then (automaton_of (length (last_nodes stages)))
      (λ states n left. stages_read stages_before n left states) old.number (lines_left old)) (automaton_here h)
      (takes_fails (automaton_of (length (last_nodes stages))) (λ (n : ℕ). n)
      (λ states n left. stages_read stages_before n left states) old new e t)

-- how many stages there may be, as the code counts them
pub stage_limit : (shape : Shape) (n : ℕ) → n ≡ vec_len shape.phases → n ≡ length shape.phases.items
stage_limit shape n e = omega (arith, shape.phases.ok.0)

-- the stages so far
pub record AreBehind (shape : Shape) (columns : ℕ) (old now : Lines) (stages : List Stage) : Type 0 where
  pub goes_on : stages_from shape columns (behind_stages []) old.number (lines_left old)
      ≡ stages_from shape columns (behind_stages (stage_values shape 0 stages)) now.number (lines_left now)
  pub readable : AreReadableStages shape stages
  pub few : length stages ≤ length shape.phases.items

pub one_behind : (shape : Shape) (columns : ℕ) (old now new : Lines) (stages : List Stage) (stage : Stage)
    → AreBehind shape columns old now stages
    → stages_from shape columns (behind_stages (stage_values shape 0 stages)) now.number (lines_left now)
    ≡ stages_from shape columns (behind_stages
    (stage_values shape 0 stages ++ map (node_value shape (length stages)) stage.nodes.items ∷ [])) new.number
    (lines_left new)
    → IsReadableStage shape (length stages) stage.nodes.items → length stages < length shape.phases.items
    → AreBehind shape columns old new (stages ++ stage ∷ [])
one_behind shape columns old now new stages stage are on is l = record {
  goes_on = are.goes_on ∙ on ∙ ap (λ xs. stages_from shape columns (behind_stages xs) new.number (lines_left new))
      (sym (values_push shape stages stage));
  readable = readable_push shape stages stage are.readable is;
  few = let n = length_push stages stage in omega arith;
}
