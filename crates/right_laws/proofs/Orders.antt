-- Right answers are orderly.
use Rattle.std.proofs.Common.{◌≡◌, ℕ, zero, suc, ◌+◌, ◌<◌, ◌≤◌, true, List, [], ◌∷◌, map, length, get_or, refl, ap}
use Rattle.std.proofs.{Common.{sym, ◌∙◌, subst, arith, All, Contains}, lemmas.Bool.{and_parts, false≢true}}
use Rattle.std.proofs.{lemmas.List.length-map, lemmas.List.Elements.{All-weaker, Contains-get_or, recursion_from_All}}
use Rattle.std.specs.{List.{AllByRecursion, list_all, list_any}, List.Sorted.IsStrictlySortedBy}
use Rattle.tier_core.specs.{declared.sym.Sym.Sym, declared.class.Class.Class, declared.shape.Shape.Shape}
use Rattle.tier_core.specs.{Classes.{has, sets_of}, Kinds.{kind_order, prefix_kind}, KindShapes.free_count}
use Rattle.tier_core.specs.{Sets.is_in, Shapes.masked_count, Symbols.symbols, Timelines.IsWellFormed}
use Rattle.tier_core.proofs.{ClassSets.sets_few, Filled.filled_from, Members.contains_map}
use Rattle.timeline_text.specs.Texts.{IsTextOf, text_of}
use Rattle.violation.specs.{Candidates.IsForm, Conditions.{AreSplit, IsOverTiers}, Counts.violations_of}
use Rattle.violation.specs.{Prefixes.stretches, Problems.{Problem, last_stage, last_place}}
use Rattle.answer_text.specs.{declared.answer.Answer.Answer, declared.automaton.StateLine.StateLine}
use Rattle.answer_text.specs.{declared.stage.Node.Node, Orderly.{AreOrderedArcs, AreOrderedNodes, IsOrderly}}
use Rattle.answer_text.specs.Readable.{AreReadableStates, IsReadableState, last_nodes}
use Rattle.answer_text.specs.Right.{AreRightArcs, IsRight, nodes_at, numbers_of}
use Rattle.right_laws.specs.{Shapes.IsShapeOfProblem, Small.IsSmall}
use Rattle.right_laws.proofs.Bounds.{number_below, small_from_right}

-- ---- the sets of a class that holds a column

some_set : (x : ℕ) → list_any (is_in x) symbols ≡ true → 1 ≤ x
some_set zero h = absurd (false≢true h)
some_set (suc x) h = omega arith

each_set : (sets : List ℕ) → AllByRecursion (λ set. set < 32) sets
    → list_all (λ set. list_any (is_in set) symbols) sets ≡ true
    → AllByRecursion (λ set. (1 ≤ set) × (set < 32)) sets
each_set [] few h = tt
each_set (x ∷ xs) few h =
    let parts = and_parts (list_any (is_in x) symbols) (list_all (λ set. list_any (is_in set) symbols) xs) h in
    ((some_set x parts.0, few.0), each_set xs few.1 parts.1)

sets_filled : (class : Class) (column : List Sym) → has class column ≡ true
    → AllByRecursion (λ set. (1 ≤ set) × (set < 32)) (sets_of class)
sets_filled class column h =
    each_set (sets_of class) (recursion_from_All (λ set. set < 32) (sets_of class) (sets_few class))
    (filled_from class column h)

module _ (problem : Problem) (shape : Shape) (answer : Answer) (split : AreSplit problem.tiers)
    (over : AllByRecursion (IsOverTiers problem.tiers.width) problem.constraints)
    (form : IsForm problem.tiers problem.form) (short : last_place problem ≤ 64)
    (shaped : IsShapeOfProblem problem shape)
    (few : (r : ℕ) → r ≤ last_stage problem → length (nodes_at answer.stages.items r) ≤ 65536)
    (right : IsRight problem answer) where
  small : IsSmall problem answer
  small = small_from_right problem answer split over form right

  abbrev last_count : ℕ
  last_count = length (nodes_at answer.stages.items (last_stage problem))

  few_last : length (nodes_at answer.stages.items (last_stage problem)) ≤ 65536
  few_last = few (last_stage problem) (omega arith)

  -- ---- the lines before the stages

  form_text : IsTextOf (masked_count shape.inputs) 64 (text_of answer.form) answer.form
  form_text =
      subst (λ (u : List (List Sym)). IsTextOf (masked_count shape.inputs) 64 (text_of u) u) (sym right.form) (record {
        text = refl;
        form = subst (λ n. IsWellFormed n problem.form) (sym shaped.inputs) form.well_formed;
        reduced = form.reduced;
        within = short;
      })

  example_text : IsTextOf shape.width 65536 (text_of answer.example) answer.example
  example_text = record {
    text = refl;
    form = subst (λ n. IsWellFormed n answer.example) (sym shaped.width) right.example.member.candidate.well_formed;
    reduced = right.example.member.candidate.reduced;
    within = omega (arith, small.example, small.states, few_last);
  }

  one_each : length answer.counts.items + 1 ≡ length shape.phases.items
  one_each =
      omega (
        arith,
        ap length (right.counts.shared answer.example right.example.member),
        length-map problem.constraints (λ c. violations_of c answer.example),
        shaped.stages,
      )

  few_counts : All (λ n. n ≤ 1000000000) answer.counts.items
  few_counts =
      All-weaker (λ n. n ≤ length answer.example) (λ n. n ≤ 1000000000)
      (λ n l. omega (arith, l, small.example, small.states, few_last)) answer.counts.items small.counts

  -- ---- stages

  ordered_nodes : (r : ℕ) → r ≤ last_stage problem
      → AreOrderedNodes shape (length answer.form) r (nodes_at answer.stages.items r)
  ordered_nodes r within = record {
    few = few r within;
    places = subst (λ (u : List (List Sym)). All (λ node. node.kind.place ≤ length u) nodes) (sym right.form)
        (small.places r within);
    potentials = All-weaker (λ node. node.potential < length nodes) (λ node. node.potential ≤ 1000000000)
        (λ node l. omega (arith, l, few r within)) nodes (small.potentials r within);
    ascending = subst (λ n. IsStrictlySortedBy kind_order
        (map (λ node. prefix_kind (free_count shape) n node.kind) nodes)) (sym (shaped.phases r within))
        (subst (λ n. IsStrictlySortedBy kind_order
        (map (λ node. prefix_kind n (length (stretches problem r)) node.kind) nodes)) (sym shaped.free)
        (right.each_stage r within).kinds.ascending);
  }
    where
      nodes : List Node
      nodes = nodes_at answer.stages.items r

  -- ---- states

  abbrev states : List StateLine
  states = answer.automaton.states.items

  last_is : length (last_nodes answer.stages.items) ≡ last_count
  last_is = ap (λ n. length (nodes_at answer.stages.items n)) (omega (arith, right.stage_count))

  below_last : (n : ℕ) → Contains (numbers_of states) n → n < length (last_nodes answer.stages.items)
  below_last n c = omega (arith, number_below problem answer split over form right n c, last_is)

  readable_state : (state : StateLine) → Contains states state → AreRightArcs problem.tiers.width (numbers_of states)
      state.arcs.items → IsReadableState shape.width (length (last_nodes answer.stages.items)) state
  readable_state state c arcs = record {
    node = below_last state.node (contains_map (λ (s : StateLine). s.node) states state c);
    arcs = λ k d l. record {
      wide = arcs.one_width k d l ∙ sym shaped.width;
      target = below_last (get_or state.arcs.items k d).target (arcs.targets k d l);
    };
  }

  readable_states : AreReadableStates shape.width (length (last_nodes answer.stages.items)) states
  readable_states = record {
    ascending = right.automaton.ascending;
    each = λ k d l. readable_state (get_or states k d) (Contains-get_or states k d l) (right.automaton.arcs k d l);
  }

  ordered_arcs : (state : StateLine) → AreRightArcs problem.tiers.width (numbers_of states) state.arcs.items
      → AreOrderedArcs state
  ordered_arcs state arcs = record {
    filled = λ k d l. let held = arcs.filled k d l in
        sets_filled (get_or state.arcs.items k d).class held.0 held.1;
    ascending = arcs.in_order;
  }

  pub orderly_from_right : IsOrderly shape answer
  orderly_from_right = record {
    form = form_text;
    example = example_text;
    one_each = one_each;
    counts = few_counts;
    some_stage = omega (arith, right.stage_count);
    few_stages = omega (arith, right.stage_count, shaped.stages);
    nodes = λ r l. ordered_nodes r (omega (arith, l, right.stage_count));
    states = readable_states;
    arcs = λ k d l. ordered_arcs (get_or states k d) (right.automaton.arcs k d l);
  }
