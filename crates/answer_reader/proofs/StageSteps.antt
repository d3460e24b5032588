-- The lines of the stages, one by one.
use Rattle.std.proofs.Common.{◌≡◌, ℕ, ◌+◌, ◌&&◌, not, Bool, true, false, cond, List, [], ◌∷◌, ◌++◌, length, codes}
use Rattle.std.proofs.Common.{refl, ap, sym, ◌∙◌}
use Rattle.tier_core.specs.declared.shape.Shape.{Shape}
use Rattle.timeline_text.specs.Bytes.{lines_of}
use Rattle.answer_reader.specs.{Cuts.begins, Lines.{stage_of, automaton_of}, Stages.{behind_stages, in_stage}}
use Rattle.answer_reader.specs.Stages.{with_nodes, last_count, is_empty, is_automaton, next_node, stages_read}
use Rattle.answer_reader.specs.{Stages.stages_from, Steps.{go_on, line_then}}
use Rattle.answer_text.specs.Values.{NodeValue}
use Rattle.answer_reader.proofs.{Cutting.begins_line, Going.go_on_then}

-- a node that is to come
pub node_next : (shape : Shape) (columns : ℕ) (stages : List (List NodeValue)) (more : ℕ) (nodes : List NodeValue)
    (n : ℕ) (lines : List (List ℕ))
    → stages_from shape columns (in_stage stages more nodes) n lines
    ≡ line_then (next_node shape columns (length stages) nodes)
    (λ node. stages_from shape columns (with_nodes stages more (nodes ++ node ∷ []))) n lines
node_next shape columns stages more nodes n [] = refl
node_next shape columns stages more nodes n (left ∷ []) = refl
node_next shape columns stages more nodes n (line ∷ next ∷ lines) =
    go_on_then (next_node shape columns (length stages) nodes line) n (next ∷ lines)
    (λ node ls. stages_from shape columns (with_nodes stages more (nodes ++ node ∷ [])) (n + 1) ls)

module _ (shape : Shape) (columns : ℕ) (stages : List (List NodeValue)) (n : ℕ) (bytes : List ℕ) where
  -- the test of what is left is that of the next line
  tested : (line next : List ℕ) (lines : List (List ℕ)) (b : Bool) → lines_of bytes ≡ line ∷ next ∷ lines
      → (not (is_empty stages) && begins (codes "automaton ") bytes) ≡ b → is_automaton stages line ≡ b
  tested line next lines b e h = sym
      (ap (λ t. not (is_empty stages) && t) (begins_line (codes "automaton ") bytes line next lines refl e)) ∙ h

  stage_at : (lines : List (List ℕ)) → lines_of bytes ≡ lines
      → (not (is_empty stages) && begins (codes "automaton ") bytes) ≡ false
      → stages_from shape columns (behind_stages stages) n lines
      ≡ line_then (stage_of (length shape.phases.items) (length stages))
      (λ nodes. stages_from shape columns (with_nodes stages nodes [])) n lines
  stage_at [] e h = refl
  stage_at (left ∷ []) e h = refl
  stage_at (line ∷ next ∷ lines) e h = ap
      (λ t. cond t (go_on (automaton_of (last_count stages) line) n (stages_read stages (n + 1) (next ∷ lines)))
      (go_on (stage_of (length shape.phases.items) (length stages) line) n (λ nodes. stages_from shape columns
      (with_nodes stages nodes []) (n + 1) (next ∷ lines)))) (tested _ _ _ _ e h) ∙ go_on_then
      (stage_of (length shape.phases.items) (length stages) line) n (next ∷ lines)
      (λ nodes ls. stages_from shape columns (with_nodes stages nodes []) (n + 1) ls)

  -- a stage that is to come
  pub stage_next : (not (is_empty stages) && begins (codes "automaton ") bytes) ≡ false
      → stages_from shape columns (behind_stages stages) n (lines_of bytes)
      ≡ line_then (stage_of (length shape.phases.items) (length stages))
      (λ nodes. stages_from shape columns (with_nodes stages nodes [])) n (lines_of bytes)
  stage_next h = stage_at _ refl h

  automaton_at : (lines : List (List ℕ)) → lines_of bytes ≡ lines
      → (not (is_empty stages) && begins (codes "automaton ") bytes) ≡ true
      → stages_from shape columns (behind_stages stages) n lines
      ≡ line_then (automaton_of (last_count stages)) (λ states m ls. stages_read stages m ls states) n lines
  automaton_at [] e h = refl
  automaton_at (left ∷ []) e h = refl
  automaton_at (line ∷ next ∷ lines) e h = ap
      (λ t. cond t (go_on (automaton_of (last_count stages) line) n (stages_read stages (n + 1) (next ∷ lines)))
      (go_on (stage_of (length shape.phases.items) (length stages) line) n (λ nodes. stages_from shape columns
      (with_nodes stages nodes []) (n + 1) (next ∷ lines)))) (tested _ _ _ _ e h) ∙ go_on_then
      (automaton_of (last_count stages) line) n (next ∷ lines) (λ states ls. stages_read stages (n + 1) ls states)

  -- the automaton behind the stages
  pub automaton_next : (not (is_empty stages) && begins (codes "automaton ") bytes) ≡ true
      → stages_from shape columns (behind_stages stages) n (lines_of bytes)
      ≡ line_then (automaton_of (last_count stages)) (λ states m ls. stages_read stages m ls states) n (lines_of bytes)
  automaton_next h = automaton_at _ refl h
