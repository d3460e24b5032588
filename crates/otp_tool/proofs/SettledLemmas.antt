-- The bytes of an answer settle the verdict: whatever answer they are read as is seen alike.
use Rattle.std.proofs.Common.{◌≡◌, ℕ, zero, suc, ◌+◌, ◌-◌, ◌<◌, ◌≤◌, inl, inr, List, [], ◌∷◌, length, map, filter}
use Rattle.std.proofs.Common.{take, get_or, Result, Ok, Err, refl, ap, ap₂, sym, ◌∙◌, arith}
use Rattle.std.proofs.{lemmas.Bool.cases_order, lemmas.List.{get_or_past, length-map}}
use Rattle.std.proofs.lemmas.List.FromFn.{get_or-map-range_with_len}
use Rattle.tier_core.specs.{declared.shape.Shape.Shape, Kinds.prefix_kind, KindShapes.{free_count, stretch_count}}
use Rattle.tier_core.specs.{Sides.is_stretch, Tiers.Tiers}
use Rattle.grammar_reader.specs.{declared.grammar.Grammar.Grammar, Grammars.value_of, ShapeOf.IsShapeOf}
use Rattle.grammar_reader.proofs.Shaping.{length-stretch_counts}
use Rattle.violation.specs.{Prefixes.stretches, Problems.Problem}
use Rattle.answer_text.specs.{declared.stage.Node.Node, declared.stage.Stage.Stage, declared.answer.Answer.Answer}
use Rattle.answer_text.specs.{Readable.IsReadable, Right.nodes_at, Text.Widths, Seen.node_seen}
use Rattle.answer_text.specs.Values.{AnswerValue, NodeValue, answer_value, node_value, stage_values}
use Rattle.answer_reader.specs.{Reading.IsTextOf, Steps.At}
use Rattle.cert_check.specs.{FirstFaults.asked_by, Seen.{AreAskedAlike, AreSeenAlike}, Verdicts.IsVerdict}
use Rattle.cert_check.specs.declared.fault.Verdict.{Verdict}
use Rattle.cert_check.proofs.FaultsSeen.{same_verdict}
use Rattle.otp_tool.specs.Answers.{IsAskedBy, IsSettled, IsShapeFor}
use Rattle.otp_tool.proofs.GrammarLemmas.{same_requirements, same_tiers}
use Rattle.otp_tool.proofs.ShapesAlike.{AreAlike, same_reading, shapes_alike}
use Rattle.otp_tool.proofs.StepLemmas.{same_shape_widths, same_width}

pub shape_for : (g : Grammar) (shape : Shape) → IsShapeOf g shape → IsShapeFor (value_of g) shape
shape_for g shape s = record {
  constraints = g.constraints.items;
  seen = sym (same_requirements g);
  width = s.width ∙ sym (same_width g);
  inputs = s.inputs ∙ ap (λ (tiers : Tiers). tiers.input) (sym (same_tiers g));
  phases = s.phases;
}

-- ---- the values of stages

values_length : (shape : Shape) (n : ℕ) (stages : List Stage) → length (stage_values shape n stages) ≡ length stages
values_length shape n [] = refl
values_length shape n (stage ∷ stages) = ap suc (values_length shape (n + 1) stages)

-- a stage behind the last has no nodes
no_nodes : (stages : List Stage) (r : ℕ) → length stages ≤ r → nodes_at stages r ≡ []
no_nodes stages r past = get_or_past _ r []
    (omega (arith, length-map stages (λ (stage : Stage). stage.nodes.items), past))

-- the value of stage m, which has number r among the stages from number n on
value_at : (shape : Shape) (n : ℕ) (stages : List Stage) (r m : ℕ) → n + r ≡ m
    → get_or (stage_values shape n stages) r [] ≡ map (node_value shape m) (nodes_at stages r)
value_at shape n [] r m e =
    get_or_past [] r [] (omega arith) ∙ ap (map (node_value shape m)) (sym (no_nodes [] r (omega arith)))
value_at shape n (stage ∷ stages) zero m e =
    let same : n ≡ m = omega (arith, e) in
    ap (λ k. map (node_value shape k) stage.nodes.items) same
value_at shape n (stage ∷ stages) (suc r) m e = value_at shape (n + 1) stages r m (omega (arith, e))

-- ---- nodes and states by what is seen of them

abbrev by_numbers : ℕ → ℕ → Node → NodeValue
by_numbers free stretches node = record { kind = prefix_kind free stretches node.kind; potential = node.potential }

-- ---- two readings

abbrev value_in : Result AnswerValue At → AnswerValue → AnswerValue
value_in (Ok value) other = value
value_in (Err at) other = other

module _ (g : Grammar) (bytes : List ℕ) (shape : Shape) (of_grammar : IsShapeOf g shape) (answer : Answer)
    (read : IsTextOf shape bytes (answer_value shape answer)) (readable : IsReadable shape answer) where
  abbrev problem : Problem
  problem = asked_by g answer

  -- a stage that may be listed has as many stretch implications in the shape as in the problem
  stretch_told : (r : ℕ) → r < length answer.stages.items → stretch_count shape r ≡ length (stretches problem r)
  stretch_told r within =
      let few : r < length g.constraints.items + 1 = omega (
        arith,
        within,
        readable.few_stages,
        ap length of_grammar.phases,
        length-stretch_counts g.constraints.items,
      ) in
      ap (λ ns. get_or ns r 0) of_grammar.phases ∙ get_or-map-range_with_len _ 0 _ r r 0 few (omega arith)

  free_told : free_count shape ≡ length problem.tiers.free
  free_told = ap (λ (w : Widths). w.free) (same_shape_widths g _ of_grammar answer.form)

  module _ (other : Answer) (form_shape : Shape) (for : IsShapeFor (value_of g) form_shape)
      (also : IsTextOf form_shape bytes (answer_value form_shape other)) where
    alike : AreAlike shape form_shape
    alike = shapes_alike _ _ _ (shape_for g _ of_grammar) for

    same_value : answer_value shape answer ≡ answer_value form_shape other
    same_value = ap (λ r. value_in r (answer_value shape answer))
        (sym read ∙ same_reading shape form_shape alike bytes ∙ also)

    same_stages : stage_values shape 0 answer.stages.items ≡ stage_values form_shape 0 other.stages.items
    same_stages = ap (λ (v : AnswerValue). v.stages) same_value

    stages_long : length answer.stages.items ≡ length other.stages.items
    stages_long = sym (values_length shape 0 answer.stages.items) ∙ ap length same_stages
        ∙ values_length form_shape 0 other.stages.items

    stage_seen : (r : ℕ) → r < length answer.stages.items
        → map (node_seen problem r) (nodes_at answer.stages.items r)
        ≡ map (node_seen problem r) (nodes_at other.stages.items r)
    stage_seen r within =
        let values = sym (value_at shape 0 answer.stages.items r r (omega arith))
        ∙ ap (λ vs. get_or vs r []) same_stages
        ∙ value_at form_shape 0 other.stages.items r r (omega arith) in
        let free : free_count form_shape ≡ length problem.tiers.free =
        sym (ap₂ (λ (w i : ℕ). w - i) alike.width alike.inputs) ∙ free_told in
        let count : stretch_count form_shape r ≡ length (stretches problem r) =
        sym (ap (λ ns. get_or ns r 0) alike.phases) ∙ stretch_told r within in
        ap₂ (λ m n. map (by_numbers m n) (nodes_at answer.stages.items r)) (sym free_told) (sym (stretch_told r within))
        ∙ values
        ∙ ap₂ (λ m n. map (by_numbers m n) (nodes_at other.stages.items r)) free count

    nodes_seen : (r : ℕ) → map (node_seen problem r) (nodes_at answer.stages.items r)
        ≡ map (node_seen problem r) (nodes_at other.stages.items r)
    nodes_seen r = elim (cases_order r (length answer.stages.items)) [
      | inl e ↦ beyond (omega (arith, e))
      | inr more ↦ elim more [
        | inl less ↦ stage_seen r less
        | inr past ↦ beyond (omega (arith, past))
      ]
    ]
      where
        beyond : length answer.stages.items ≤ r → map (node_seen problem r) (nodes_at answer.stages.items r)
            ≡ map (node_seen problem r) (nodes_at other.stages.items r)
        beyond past = ap (map (node_seen problem r)) (no_nodes answer.stages.items r past
            ∙ sym (no_nodes other.stages.items r (omega (arith, past, stages_long))))

    seen_alike : AreSeenAlike problem answer other
    seen_alike = record {
      form = ap (λ (v : AnswerValue). v.form) same_value;
      counts = ap (λ (v : AnswerValue). v.counts) same_value;
      example = ap (λ (v : AnswerValue). v.example) same_value;
      stages = stages_long;
      nodes = nodes_seen;
      states = ap (λ (v : AnswerValue). v.states) same_value;
    }

    asked_alike : (asks : Problem) → IsAskedBy (value_of g) other asks → AreAskedAlike problem asks
    asked_alike asks is = record {
      tiers = sym (same_tiers g) ∙ sym is.tiers;
      constraints = sym (same_requirements g) ∙ sym is.constraints;
      form = seen_alike.form ∙ sym is.form;
    }

  -- the verdict on what is read is the one on whatever the bytes are read as
  pub settled_by : (verdict : Verdict) → IsVerdict problem answer verdict → IsSettled (value_of g) bytes verdict
  settled_by verdict v = λ other asks reading.
      (same_verdict problem asks answer other
      (asked_alike other reading.shape reading.of_grammar reading.read asks reading.is_asked)
      (seen_alike other reading.shape reading.of_grammar reading.read) verdict).0 v
