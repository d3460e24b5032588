-- What `generate` writes is read again, and gets Yes.
use Rattle.std.proofs.Common.{ℕ, ◌+◌, ◌≤◌, List, filter, take, get_or, length, ap, sym, ◌∙◌, arith}
use Rattle.std.proofs.{lemmas.List.length-map, lemmas.List.FromFn.get_or-map-range_with_len}
use Rattle.std.specs.List.{AllByRecursion}
use Rattle.tier_core.specs.{declared.shape.Shape.Shape, Sides.is_stretch}
use Rattle.violation.specs.{Conditions.{AreSplit, IsOverTiers}, Prefixes.kind_of_bits}
use Rattle.violation.specs.Problems.{Problem, problem_from, last_stage}
use Rattle.violation.proofs.SplitLemmas.{tiers_split}
use Rattle.grammar_reader.specs.{declared.grammar.Grammar.Grammar, Grammars.value_of, ShapeOf.IsShapeOf}
use Rattle.grammar_reader.proofs.{Shaping.length-stretch_counts, OverTiers.over_tiers}
use Rattle.answer_text.specs.{declared.answer.Answer.Answer, declared.stage.Node.Node, Certified.AreStatesInOrder}
use Rattle.answer_text.specs.{Orderly.IsOrderly, Right.{kinds_at, nodes_at}, Shape.widths_of}
use Rattle.answer_text.specs.{Text.{Widths, answer_text}, Values.answer_value}
use Rattle.answer_reader.specs.Reading.{IsTextOf}
use Rattle.answer_reader.proofs.WrittenAnswer.{read_back}
use Rattle.check_laws.proofs.RightStates.{certified_from_right}
use Rattle.right_laws.specs.Shapes.{IsShapeOfProblem}
use Rattle.right_laws.proofs.Orders.{orderly_from_right}
use Rattle.cert_check.specs.{FirstFaults.IsFaultless, declared.fault.Verdict.TheVariants.Yes}
use Rattle.cert_check.proofs.Faultless.{faultless_if_certified}
use Rattle.otp_tool.specs.{Answers.IsJudged, Results.{IsGeneratedText, whole_text}, Steps.IsAnswerFor}
use Rattle.otp_tool.proofs.{GrammarLemmas.{same_requirements, same_tiers}, SettledLemmas.shape_for}
use Rattle.otp_tool.proofs.StepLemmas.{made_right, same_shape_widths, whole_written}

module _ (g : Grammar) (form : List ℕ) (budget : ℕ) (few : budget ≤ 65536) (answer : Answer)
    (made : IsAnswerFor g.tiers g.constraints.items (value_of g) form budget answer)
    (shape : Shape) (of_grammar : IsShapeOf g shape) where
  abbrev problem : Problem
  problem = problem_from g.tiers g.constraints.items made.u

  split : AreSplit problem.tiers
  split = tiers_split _

  over : AllByRecursion (IsOverTiers problem.tiers.width) problem.constraints
  over = over_tiers g

  -- ---- reading

  shaped : IsShapeOfProblem problem shape
  shaped = record {
    width = of_grammar.width;
    inputs = ap length of_grammar.inputs;
    free = ap (λ (w : Widths). w.free) (same_shape_widths g _ of_grammar made.u);
    stages = ap length of_grammar.phases ∙ length-stretch_counts _;
    phases = λ r w. ap (λ (ns : List ℕ). get_or ns r 0) of_grammar.phases ∙ get_or-map-range_with_len _ 0 _ r r 0
        (omega (arith, w)) (omega arith);
  }

  few_nodes : (r : ℕ) → r ≤ last_stage problem → length (nodes_at answer.stages.items r) ≤ 65536
  few_nodes r w =
      let nodes = nodes_at answer.stages.items r in
      omega (
        arith,
        few,
        made.within r w (kinds_at problem r (nodes_at answer.stages.items r)) (made.right.each_stage r w).kinds,
        length-map nodes (λ (node : Node). kind_of_bits problem r node.kind),
      )

  orderly : IsOrderly shape answer
  orderly = orderly_from_right _ _ _ split over made.is_form made.short shaped few_nodes made.right

  abbrev text : List ℕ
  text = answer_text (widths_of shape) answer

  read : IsTextOf shape text (answer_value shape answer)
  read = read_back _ _ orderly

  -- ---- checking

  in_order : AreStatesInOrder problem.tiers.width answer.automaton.states.items
  in_order = record {
    ascending = made.right.automaton.ascending;
    one_width = λ k d l. (made.right.automaton.arcs k d l).one_width;
  }

  faultless : IsFaultless problem answer
  faultless = faultless_if_certified _ _ in_order (certified_from_right _ _
      (record { split = split; over = over; form = made.is_form; right = made.right }) made.short)

  judged : length text ≤ 268435456 → IsJudged (value_of g) text Yes
  judged within = record {
    within = within;
    answer = answer;
    problem = problem;
    reading = record {
      shape = shape;
      of_grammar = shape_for g _ of_grammar;
      read = read;
      is_asked = record {
        tiers = sym (same_tiers g);
        constraints = sym (same_requirements g);
        form = sym made.right.form;
      };
    };
    is_verdict = faultless;
  }

  pub generated : IsGeneratedText (value_of g) form (answer_text (widths_of shape) answer)
  generated = record {
    right = made_right g _ _ _ made _ _ (whole_written g _ of_grammar answer);
    judged = judged;
  }
