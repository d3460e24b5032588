-- The whole check: what is known after the stages, and when nothing is wrong.
use Rattle.std.proofs.Common.{◌≡◌, ℕ, zero, suc, ◌+◌, ◌-◌, ◌<◌, ◌≤◌, List, length, get_or, sym, ap, ap₂, ◌∙◌}
use Rattle.std.proofs.{Common.{subst, arith, ⊎_elim, inl, inr}, lemmas.Bool.cases_lt, lemmas.List.length-map}
use Rattle.tier_core.specs.{declared.shape.Shape.Shape, declared.sym.Sym.Sym}
use Rattle.tier_core.specs.{KindShapes.FitsShape, Shapes.masked_count, declared.constraint.Constraint.Constraint}
use Rattle.violation.specs.{Problems.{Problem, last_stage}, Counts.violations_of}
use Rattle.grammar_reader.specs.{declared.grammar.Grammar.Grammar, ShapeOf.IsShapeOf}
use Rattle.answer_text.specs.{declared.answer.Answer.Answer, declared.stage.Node.Node}
use Rattle.answer_text.specs.Readable.{IsReadable, IsReadableStage}
use Rattle.answer_text.specs.{Certified.AreStatesInOrder}
use Rattle.cert_check.specs.{FirstFaults.{IsFaultless, IsReadableFor}, Nodes.IsFaultlessStage}
use Rattle.cert_check.specs.Parts.{InAnswer, InNode, InStage, IsWrongMove, HasRightHead}
use Rattle.cert_check.specs.{declared.subject.Subject.Subject, Subjects.{IsReady, problem_of}}
use Rattle.cert_check.proofs.{Parts.parted, Heads.{form_part, numbers_part, example_part, counts_part, head_parts}}

-- ---- two shapes of one grammar

module _ (grammar : Grammar) (one two : Shape) (a : IsShapeOf grammar one) (b : IsShapeOf grammar two) where
  same_width : one.width ≡ two.width
  same_width = a.width ∙ sym b.width

  same_inputs : masked_count one.inputs ≡ masked_count two.inputs
  same_inputs = ap (λ (ts : List ℕ). length ts) (a.inputs ∙ sym b.inputs)

  same_phases : one.phases.items ≡ two.phases.items
  same_phases = a.phases ∙ sym b.phases

  fits_both : (stage : ℕ) (node : Node) → FitsShape one stage node.kind → FitsShape two stage node.kind
  fits_both stage node f = record {
    within = rw same_phases at f.within;
    opened = rw (ap₂ (λ m n. m - n) same_width same_inputs) at f.opened;
    stretches = rw same_phases at f.stretches;
  }

  stage_both : (stage : ℕ) (nodes : List Node) → IsReadableStage one stage nodes → IsReadableStage two stage nodes
  stage_both stage nodes r = record {
    few = r.few;
    fits = λ k d l. fits_both _ (get_or nodes k d) (r.fits k d l);
    potentials = r.potentials;
  }

  pub readable_both : (answer : Answer) → IsReadable one answer → IsReadable two answer
  readable_both answer r = record {
    form_width = rw same_inputs at r.form_width;
    example_width = rw same_width at r.example_width;
    example_size = r.example_size;
    few_counts = r.few_counts;
    counts = r.counts;
    few_stages = rw same_phases at r.few_stages;
    stages = λ stage l. stage_both _ _ (r.stages stage l);
    states = rw same_width at r.states;
  }

-- an answer that is within the limits for a grammar is readable for its shape
pub readable_for : (grammar : Grammar) (answer : Answer) (shape : Shape) → IsReadableFor grammar answer
    → IsShapeOf grammar shape → IsReadable shape answer
readable_for grammar answer shape r is = readable_both _ _ _ r.of_grammar is _ r.readable

-- ---- nothing is wrong

module _ (problem : Problem) (answer : Answer) where
  -- what is wrong in a stage is in one of the stages
  in_node : (stage node part : ℕ) (rest : List ℕ) → InNode problem answer stage node part rest
      → stage < length answer.stages.items
  in_node stage node zero rest w = w.1.0.is.within
  in_node stage node (suc zero) rest w = by _ w.1.0
    where
      by : (column : List Sym) → IsWrongMove problem answer stage node column → stage < length answer.stages.items
      by column (inl v) = v.1.is.within
      by column (inr v) = v.1.1.is.within
  in_node stage node (suc (suc part)) rest w = absurd w

  in_stage_within : (stage part : ℕ) (rest : List ℕ) → InStage problem answer stage part rest
      → stage < length answer.stages.items
  in_stage_within stage zero rest w = w.1.0.is.within
  in_stage_within stage (suc zero) rest w = w.0.within
  in_stage_within stage (suc (suc zero)) rest w = in_node _ _ _ _ w.1.1.1.0
  in_stage_within stage (suc (suc (suc zero))) rest w = w.1.1.0.is.within
  in_stage_within stage (suc (suc (suc (suc part)))) rest w = absurd w

  -- no stage is wrong
  pub stages_part : length answer.stages.items ≡ last_stage problem + 1
      → ((r : ℕ) → r ≤ last_stage problem → IsFaultlessStage problem answer r)
      → (rest : List ℕ) → InAnswer problem answer 4 rest → ⊥
  stages_part size right rest w =
      let inside = in_stage_within _ _ _ w.1.1.1.0 in
      right w.0 (omega (arith, size, inside)) w.1.0 w.1.1.0 w.1.1.1.0

  -- nothing is wrong where nothing is before the automaton, and nothing in it
  pub faultless_whole : ((part : ℕ) → part < 5 → (rest : List ℕ) → InAnswer problem answer part rest → ⊥)
      → ((part : ℕ) → 5 ≤ part → (rest : List ℕ) → InAnswer problem answer part rest → ⊥) → IsFaultless problem answer
  faultless_whole before from fault place h =
      let p = parted _ _ _ _ h in
      ⊎_elim (λ below. before p.0 below p.1.0 p.1.1.0) (λ above. from p.0 above p.1.0 p.1.1.0) (cases_lt p.0 5)

-- what is known of an answer of which the head is right
pub ready_by : (s : Subject) → IsReadableFor s.grammar.now s.answer.now → IsShapeOf s.grammar.now s.shape.now
    → HasRightHead (problem_of s) s.answer.now → IsReady s
ready_by s readable is head = record {
  of_grammar = is;
  readable = readable_for _ _ _ readable is;
  form = record { form = head.form; short = head.short };
  numbers = record {
    stages = head.stage_count;
    counts = ap (λ (ns : List ℕ). length ns) head.counts
        ∙ length-map (problem_of s).constraints (λ (x : Constraint). violations_of x s.answer.now.example);
  };
}

-- nothing is wrong before the automaton where the head and the stages are right
pub right_before : (problem : Problem) (answer : Answer) → HasRightHead problem answer
    → ((r : ℕ) → r ≤ last_stage problem → IsFaultlessStage problem answer r)
    → (part : ℕ) → part < 5 → (rest : List ℕ) → InAnswer problem answer part rest → ⊥
right_before problem answer head stages part l = ⊎_elim (λ below. head_parts problem answer
    (form_part problem answer (record { form = head.form; short = head.short })) (numbers_part _ _ (record {
      stages = head.stage_count;
      counts = ap (λ (ns : List ℕ). length ns) head.counts
          ∙ length-map problem.constraints (λ (x : Constraint). violations_of x answer.example);
    })) (example_part _ answer head.example) (counts_part _ _ head.counts) _ below)
    (λ above. let is : 4 ≡ part = omega arith in
    subst (λ m. (rest : List ℕ) → InAnswer problem answer m rest → ⊥) is
    (stages_part _ _ head.stage_count stages)) (cases_lt part 4)

-- the states of an answer that is within the limits are in order
pub states_in_order : (grammar : Grammar) (answer : Answer) → IsReadableFor grammar answer
    → AreStatesInOrder (length grammar.tiers.kinds.items) answer.automaton.states.items
states_in_order grammar answer r = record {
  ascending = r.readable.states.ascending;
  one_width = λ k d l.
      let state = r.readable.states.each k d l in
      λ m e inside. (state.arcs m e inside).wide ∙ r.of_grammar.width;
}
