-- The text of an orderly answer is read as its value.
use Rattle.std.proofs.Common.{◌≡◌, ℕ, suc, ◌+◌, ◌-◌, ◌<◌, ◌≤◌, List, [], ◌∷◌, ◌++◌, length, map, codes, Some}
use Rattle.std.proofs.Common.{Result, Ok, refl, ap, sym, ◌∙◌, subst, arith, append_assoc, append-nil}
use Rattle.std.proofs.{lemmas.List.{length-map, length_push}, lemmas.List.FromFn.length-map-range_with_len}
use Rattle.std.proofs.lemmas.Simd.{map-map}
use Rattle.std.specs.{Fmt.decimal, List.{All, AllByRecursion, flat_map}, List.Sorted.IsStrictlySortedBy}
use Rattle.tier_core.specs.{declared.shape.Shape.Shape, declared.sym.Sym.Sym, Classes.sets_of}
use Rattle.tier_core.specs.{Kinds.{kind_order, phase_at}, KindShapes.{free_count, stretch_count, kind_in}}
use Rattle.tier_core.specs.{Shapes.masked_count, Tiers.has_tier}
use Rattle.tier_core.proofs.Members.{all_both}
use Rattle.timeline_text.specs.Texts.{text_of}
use Rattle.answer_text.specs.{declared.answer.Answer.Answer, declared.automaton.ArcLine.ArcLine}
use Rattle.answer_text.specs.{declared.automaton.StateLine.StateLine, declared.stage.Node.Node}
use Rattle.answer_text.specs.{declared.stage.Stage.Stage, Orderly.{AreOrderedArcs, IsOrderly}}
use Rattle.answer_text.specs.{Readable.{IsReadableArc, IsReadableState, last_nodes}, Right.{nodes_at, numbers_of}}
use Rattle.answer_text.specs.{Shape.widths_of, Text.{node_line, stage_lines, stages_lines, arc_line, state_lines}}
use Rattle.answer_text.specs.Text.{automaton_lines, counts_line, answer_lines, answer_text}
use Rattle.answer_text.specs.Values.{NodeValue, node_value, stage_values, answer_value}
use Rattle.answer_reader.specs.{Lines.{header_of, counts_of, automaton_of}, Nodes.node_of, Orders.node_less}
use Rattle.answer_reader.specs.Reading.{form_of, example_of, constraint_count, HeadValue, answer_with}
use Rattle.answer_reader.specs.Reading.{states_behind, stages_behind, behind_form, answer_from, answer_of, IsTextOf}
use Rattle.answer_reader.specs.{Stages.{behind_stages, StagesRead, stages_from}, States.{behind_states, states_from}}
use Rattle.answer_reader.specs.{Steps.{and_then, line_then}, Timelines.timeline_said}
use Rattle.answer_reader.proofs.{StageValues.{length_values, last_values}, Timelines.{timeline_for, said_of}}
use Rattle.answer_reader.proofs.WrittenFree.{node_free, stage_free, state_free, arc_free, counts_free}
use Rattle.answer_reader.proofs.WrittenFree.{timeline_free, decimal_free}
use Rattle.answer_reader.proofs.WrittenLines.{AreCounts, node_back, automaton_back, stage_back, counts_back}
use Rattle.answer_reader.proofs.WrittenStages.{after, after_both, some_behind, line_on, AreSaid, Ascends, ascends}
use Rattle.answer_reader.proofs.{WrittenStages.{whole_stage, automaton_on}, WrittenStates.{IsArcBack, IsStateBack}}
use Rattle.answer_reader.proofs.WrittenStates.{the_end, lines_from, states_back, arcs_ascend, states_ascend}
use Rattle.answer_reader.proofs.WrittenStates.{few_below}
use Rattle.answer_reader.proofs.WrittenWords.{behind_front, AreLines, lines_back, both_lines}
use Rattle.timeline_text.specs.Texts as timeline

pub by_recursion : {X : Type 0} (P : X → Type 0) (xs : List X) → All P xs → AllByRecursion P xs
by_recursion P [] h = tt
by_recursion P (x ∷ xs) h = (h 0 x (omega arith), by_recursion P xs (λ k d l. h (suc k) d (omega arith)))

-- ---- stages

record IsStageBack (shape : Shape) (columns r : ℕ) (nodes : List Node) : Type 0 where
  there : r < length shape.phases.items
  few : length nodes ≤ 65536
  numbers : AllByRecursion (λ node. (node.kind.place ≤ columns) × (node.potential ≤ 1000000000)) nodes
  ascending : IsStrictlySortedBy kind_order (map (λ node. kind_in shape r node.kind) nodes)

abbrev AreStagesBack : Shape → ℕ → ℕ → List Stage → Type 0
AreStagesBack shape columns r [] = Unit {0}
AreStagesBack shape columns r (stage ∷ stages) = IsStageBack shape columns r stage.nodes.items × AreStagesBack shape
    columns (r + 1) stages

module _ (shape : Shape) (columns : ℕ) (narrow : columns ≤ 64) where
  node_said : (r : ℕ) (node : Node) → node.kind.place ≤ columns → node.potential ≤ 1000000000
      → node_of (free_count shape) (stretch_count shape r) columns
      (node_line (free_count shape) (stretch_count shape r) node) ≡ Ok (node_value shape r node)
  node_said r node l m = node_back _ _ (omega arith) (omega arith) _ _ _ (length-map-range_with_len _ 0 _)
      (length-map-range_with_len _ 0 _) l m

  nodes_said : (r : ℕ) (nodes : List Node)
      → AllByRecursion (λ node. (node.kind.place ≤ columns) × (node.potential ≤ 1000000000)) nodes
      → AreSaid (node_of (free_count shape) (stretch_count shape r) columns) (map (node_value shape r) nodes)
      (map (node_line (free_count shape) (stretch_count shape r)) nodes)
  nodes_said r [] are = tt
  nodes_said r (node ∷ nodes) are = (node_said r node are.0.0 are.0.1, nodes_said r nodes are.1)

  nodes_free : (r : ℕ) (nodes : List Node)
      → AllByRecursion (λ node. (node.kind.place ≤ columns) × (node.potential ≤ 1000000000)) nodes
      → AreLines (map (node_line (free_count shape) (stretch_count shape r)) nodes)
  nodes_free r [] are = tt
  nodes_free r (node ∷ nodes) are = (
    node_free (kind_in shape r node.kind) node.potential (let l = are.0.0 in omega arith)
        (let m = are.0.1 in omega arith),
    nodes_free r nodes are.1,
  )

  nodes_ascend : (r : ℕ) (nodes : List Node)
      → IsStrictlySortedBy kind_order (map (λ node. kind_in shape r node.kind) nodes)
      → Ascends node_less [] (map (node_value shape r) nodes)
  nodes_ascend r nodes s = ascends _ _ _ (subst (IsStrictlySortedBy kind_order)
      (sym (map-map (λ (v : NodeValue). v.kind) (node_value shape r) nodes)) s)

  stages_free : (r : ℕ) (stages : List Stage) → AreStagesBack shape columns r stages
      → AreLines (stages_lines (widths_of shape) r stages)
  stages_free r [] are = tt
  stages_free r (stage ∷ stages) are =
      both_lines (stage_lines (free_count shape) (stretch_count shape r) r stage.nodes.items)
      (stages_lines (widths_of shape) (r + 1) stages) (
        stage_free r (length stage.nodes.items) (let l = are.0.there in let m = shape.few_stages in omega arith)
            (let l = are.0.few in omega arith),
        nodes_free r stage.nodes.items are.0.numbers,
      )
      (stages_free (r + 1) stages are.1)

  -- stages from number r on
  abbrev GoesOn : List (List NodeValue) → List Stage → List (List ℕ) → ℕ → ℕ → Type 0
  GoesOn before stages rest n r = stages_from shape columns (behind_stages before) n
      (stages_lines (widths_of shape) r stages ++ rest)
      ≡ stages_from shape columns (behind_stages (before ++ stage_values shape r stages))
      (after n (stages_lines (widths_of shape) r stages)) rest

  stages_back : (stages : List Stage) (before : List (List NodeValue))
      → AreStagesBack shape columns (length before) stages → (rest : List (List ℕ)) → 0 < length rest → (n : ℕ)
      → GoesOn before stages rest n (length before)
  stages_back [] before are rest l n = ap (λ xs. stages_from shape columns (behind_stages xs) n rest)
      (sym (append-nil before))
  stages_back (stage ∷ stages) before are rest l n =
      let r = length before in
      let values = map (node_value shape (length before)) stage.nodes.items in
      let here = stage_lines (free_count shape) (stretch_count shape (length before)) (length before)
      stage.nodes.items in
      let later = stages_lines (widths_of shape) (length before + 1) stages in
      let size : length (before ++ values ∷ []) ≡ length before + 1 = length_push before values in
      let count : length stage.nodes.items
      ≡ length values = sym (length-map stage.nodes.items (node_value shape (length before))) in
      ap (stages_from shape columns (behind_stages before) n) (append_assoc here later rest)
      ∙ whole_stage shape columns before values (decimal (length before) ++ 32 ∷ decimal (length stage.nodes.items))
      (map (node_line (free_count shape) (stretch_count shape (length before))) stage.nodes.items)
      (stage_back (length shape.phases.items) (length before) (length stage.nodes.items) are.0.there shape.few_stages
      are.0.few ∙ ap (λ k. let q : Result ℕ _ = Ok k in q) count)
      (nodes_said (length before) stage.nodes.items are.0.numbers)
      (nodes_ascend (length before) stage.nodes.items are.0.ascending) (later ++ rest) (some_behind later rest l) n
      ∙ subst (GoesOn (before ++ values ∷ []) stages rest (after n here)) size
      (stages_back stages (before ++ values ∷ []) (subst (λ k. AreStagesBack shape columns k stages) (sym size) are.1)
      rest l (after n here))
      ∙ ap (λ xs. stages_from shape columns (behind_stages xs) (after (after n here) later) rest)
      (append_assoc before (values ∷ []) (stage_values shape (length before + 1) stages))
      ∙ ap (λ m. stages_from shape columns
      (behind_stages (before ++ (values ∷ stage_values shape (length before + 1) stages))) m rest)
      (sym (after_both n here later))

  stages_are : (r : ℕ) (stages : List Stage)
      → ((i : ℕ) → i < length stages → IsStageBack shape columns (r + i) (nodes_at stages i))
      → AreStagesBack shape columns r stages
  stages_are r [] h = tt
  stages_are r (stage ∷ stages) h = (
    rw (let e : r + 0 ≡ r = omega arith in e) at (h 0 (omega arith)),
    stages_are (r + 1) stages (λ i l. subst (λ k. IsStageBack shape columns k (nodes_at stages i))
        (let e : r + suc i ≡ r + 1 + i = omega arith in e) (h (suc i) (omega arith))),
  )

-- ---- states

module _ (width nodes : ℕ) (few : nodes ≤ 65536) where
  arcs_are : (arcs : List ArcLine) → AllByRecursion (IsReadableArc width nodes) arcs
      → AllByRecursion (λ arc. AllByRecursion (λ set. (1 ≤ set) × (set < 32)) (sets_of arc.class)) arcs
      → AllByRecursion (IsArcBack width nodes) arcs
  arcs_are [] a b = tt
  arcs_are (arc ∷ arcs) a b = (record { there = a.0.target; wide = a.0.wide; full = b.0 }, arcs_are arcs a.1 b.1)

  states_are : (states : List StateLine) → AllByRecursion (IsReadableState width nodes) states
      → AllByRecursion AreOrderedArcs states → AllByRecursion (IsStateBack width nodes few) states
  states_are [] a b = tt
  states_are (state ∷ states) a b = (
    record {
      there = a.0.node;
      arcs = arcs_are _ (by_recursion _ _ a.0.arcs) (by_recursion _ _ b.0.filled);
      ascending = arcs_ascend _ b.0.ascending;
    },
    states_are states a.1 b.1,
  )

  arcs_free : (arcs : List ArcLine) → AllByRecursion (IsReadableArc width nodes) arcs → AreLines (map arc_line arcs)
  arcs_free [] a = tt
  arcs_free (arc ∷ arcs) a = (
    arc_free arc.target (sets_of arc.class) (let l = a.0.target in omega arith),
    arcs_free
        arcs a.1,
  )

  states_free : (states : List StateLine) → AllByRecursion (IsReadableState width nodes) states
      → AreLines (flat_map state_lines states)
  states_free [] a = tt
  states_free (state ∷ states) a =
      both_lines (state_lines state) (flat_map state_lines states) (
        state_free state.node state.accepting (let l = a.0.node in omega arith),
        arcs_free state.arcs.items
            (by_recursion (IsReadableArc width nodes) state.arcs.items a.0.arcs),
      ) (states_free states a.1)

  nodes_below : (states : List StateLine) → AllByRecursion (IsReadableState width nodes) states
      → AllByRecursion (λ n. n < nodes) (numbers_of states)
  nodes_below [] a = tt
  nodes_below (state ∷ states) a = (a.0.node, nodes_below states a.1)

  from_zero : (ns : List ℕ) → AllByRecursion (λ n. 0 ≤ n) ns
  from_zero [] = tt
  from_zero (n ∷ ns) = (omega arith, from_zero ns)

-- ---- the whole

regroup : {X : Type 0} (A B : List X) (a e z : X) → A ++ a ∷ B ++ e ∷ [] ++ z ∷ [] ≡ A ++ a ∷ (B ++ e ∷ z ∷ [])
regroup A B a e z = append_assoc (A ++ a ∷ B) (e ∷ []) (z ∷ []) ∙ append_assoc A (a ∷ B) (e ∷ z ∷ [])

timeline_back : (word : List ℕ) (width limit : ℕ) (T : List (List Sym)) → timeline.IsTextOf width limit (text_of T) T
    → timeline_said word width limit (word ++ text_of T) ≡ Ok T
timeline_back word width limit T t = said_of word width limit (word ++ text_of T) (text_of T) (Some T)
    (behind_front word (text_of T)) (sym (timeline_for _ _ _ T t))

module _ (shape : Shape) (answer : Answer) (is : IsOrderly shape answer) where
  abbrev stages : List Stage
  stages = answer.stages.items

  abbrev states : List StateLine
  states = answer.automaton.states.items

  abbrev node_count : ℕ
  node_count = length (last_nodes stages)

  counts : AreCounts answer.counts.items
  counts = by_recursion _ _ is.counts

  one_each : length answer.counts.items ≡ constraint_count shape
  one_each = omega (arith, is.one_each)

  few_nodes : node_count ≤ 65536
  few_nodes = let some = is.some_stage in (is.nodes (length stages - 1) (omega arith)).few

  each_stage : AreStagesBack shape (length answer.form) 0 stages
  each_stage = stages_are shape (length answer.form) is.form.within 0 stages (λ i l.
      let o = is.nodes i l in
      let m = is.few_stages in
      subst (λ k. IsStageBack shape (length answer.form) k (nodes_at stages i)) (let e : i ≡ 0 + i = omega arith in e)
      (record {
        there = omega arith;
        few = o.few;
        numbers = all_both (λ node. node.kind.place ≤ length answer.form) (λ node. node.potential ≤ 1000000000)
            (nodes_at stages i)
            (by_recursion (λ node. node.kind.place ≤ length answer.form) (nodes_at stages i) o.places)
            (by_recursion (λ node. node.potential ≤ 1000000000) (nodes_at stages i) o.potentials);
        ascending = o.ascending;
      }))

  readable_states : AllByRecursion (IsReadableState shape.width node_count) states
  readable_states = by_recursion _ _ is.states.each

  few_states : length states ≤ node_count
  few_states =
      let below = few_below 0 _ _ is.states.ascending (omega arith) (from_zero shape.width _ few_nodes _)
      (nodes_below _ _ few_nodes _ readable_states) in
      let n = length-map states (λ (state : StateLine). state.node) in
      omega arith

  abbrev automaton_line : List ℕ
  automaton_line = codes "automaton " ++ decimal (length states)

  -- the lines behind the example
  abbrev behind_example : List (List ℕ)
  behind_example = stages_lines (widths_of shape) 0 stages ++ automaton_line ∷ lines_from states

  free : AreLines (answer_lines (widths_of shape) answer)
  free = (
    refl,
    (
      timeline_free answer.form,
      (
        counts_free answer.counts.items counts,
        (
          timeline_free answer.example,
          both_lines (stages_lines (widths_of shape) 0 stages ++ automaton_lines states) (codes "end" ∷ [])
              (both_lines (stages_lines (widths_of shape) 0 stages) (automaton_lines states)
              (stages_free shape (length answer.form) is.form.within 0 stages each_stage) (
                decimal_free (length states) (let a = few_states in let b = few_nodes in omega arith),
                states_free
                    shape.width node_count few_nodes states readable_states,
              ))
              (refl, tt),
        ),
      ),
    ),
  )

  abbrev head_said : HeadValue
  head_said = record { form = answer.form; counts = answer.counts.items; example = answer.example }

  some_left : 0 < length behind_example
  some_left = some_behind (stages_lines (widths_of shape) 0 stages) (automaton_line ∷ lines_from states) (omega arith)

  head_back : answer_of shape (answer_text (widths_of shape) answer) ≡ stages_behind shape head_said 5 behind_example
  head_back =
      ap (answer_from shape 1) (lines_back (answer_lines (widths_of shape) answer) free
      ∙ ap (λ ls. codes "answer 1" ∷ (codes "form " ++ text_of answer.form) ∷ counts_line
      answer.counts.items ∷ (codes "example " ++ text_of answer.example) ∷ ls)
      (regroup (stages_lines (widths_of shape) 0 stages) (flat_map state_lines states) automaton_line (codes "end") []))
      ∙ line_on header_of (λ header. line_then (form_of shape) (behind_form shape)) 1 (codes "answer 1")
      ((codes "form " ++ text_of answer.form) ∷ counts_line
      answer.counts.items ∷ (codes "example " ++ text_of answer.example) ∷ behind_example) tt refl (omega arith)
      ∙ line_on (form_of shape) (behind_form shape) 2 (codes "form " ++ text_of answer.form)
      (counts_line answer.counts.items ∷ (codes "example " ++ text_of answer.example) ∷ behind_example) answer.form
      (timeline_back (codes "form ") (masked_count shape.inputs) 64 answer.form is.form) (omega arith)
      ∙ line_on (counts_of (constraint_count shape))
      (λ ns. line_then (example_of shape)
      (λ example. stages_behind shape (record { form = answer.form; counts = ns; example = example }))) 3
      (counts_line answer.counts.items) ((codes "example " ++ text_of answer.example) ∷ behind_example)
      answer.counts.items (counts_back (constraint_count shape) answer.counts.items one_each counts)
      (omega arith)
      ∙ line_on (example_of shape) (λ example. stages_behind shape
      (record { form = answer.form; counts = answer.counts.items; example = example })) 4
      (codes "example " ++ text_of answer.example) behind_example answer.example
      (timeline_back (codes "example ") shape.width 65536 answer.example is.example) some_left

  abbrev the_number : ℕ
  the_number = after 5 (stages_lines (widths_of shape) 0 stages)

  abbrev the_stages : StagesRead
  the_stages = record {
    stages = stage_values shape 0 stages;
    states = length states;
    number = the_number + 1;
    lines =
        lines_from states;
  }

  stages_read_back : stages_from shape (length answer.form) (behind_stages []) 5 behind_example ≡ Ok the_stages
  stages_read_back =
      stages_back shape (length answer.form) is.form.within stages [] each_stage (automaton_line ∷ lines_from states)
      (omega arith) 5
      ∙ automaton_on shape (length answer.form) (stage_values shape 0 stages) (decimal (length states))
      (length states) the_number (lines_from states)
      (let n = length_values shape 0 stages in let some = is.some_stage in omega arith)
      (ap (λ k. automaton_of k automaton_line) (last_values shape 0 stages)
      ∙ automaton_back node_count (length states) few_states
      (let a = few_states in let b = few_nodes in omega arith))
      (some_behind (flat_map state_lines states) the_end (omega arith))

  pub read_back : IsTextOf shape (answer_text (widths_of shape) answer) (answer_value shape answer)
  read_back =
      head_back ∙ ap (and_then (states_behind shape head_said)) stages_read_back
      ∙ ap (λ k. and_then (answer_with head_said the_stages)
      (states_from shape.width k (behind_states (length states) []) (the_number + 1) (lines_from states)))
      (last_values shape 0 stages)
      ∙ ap (and_then (answer_with head_said the_stages)) (states_back shape.width node_count few_nodes states []
      (states_are shape.width node_count few_nodes states readable_states
      (by_recursion AreOrderedArcs states is.arcs)) (states_ascend states is.states.ascending)
      (the_number + 1))
