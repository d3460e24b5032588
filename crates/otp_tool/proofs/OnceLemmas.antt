-- What `once` does with a grammar and a form.
use Rattle.std.proofs.Common.{◌≡◌, ℕ, ◌+◌, ◌-◌, List, length, filter, take, get_or, Result, ap, ◌∙◌, arith}
use Rattle.std.proofs.{lemmas.List.take_all, lemmas.List.FromFn.get_or-map-range_with_len}
use Rattle.outside.specs.{Writers.Puts, declared.sink.Sink.Ghosts, declared.sink.WriteErr.WriteErr}
use Rattle.tier_core.specs.{declared.sym.Sym.Sym, declared.constraint.Constraint.Constraint}
use Rattle.tier_core.specs.{declared.shape.Shape.Shape, Shapes.masked_count, Sides.is_stretch}
use Rattle.tier_core.proofs.TableMasks.{free_tiers}
use Rattle.grammar_reader.specs.{declared.grammar.Grammar.Grammar, Grammars.value_of}
use Rattle.grammar_reader.specs.ShapeOf.{IsShapeOf, stretch_counts}
use Rattle.grammar_reader.proofs.Shaping.{length-stretch_counts}
use Rattle.violation.specs.{Problems.{Problem, problem_from}, Rests.AreWholeKindsWithin}
use Rattle.answer_text.specs.declared.once_answer.OnceAnswer.{OnceAnswer}
use Rattle.answer_text.specs.{OnceText.{OnceWidths, once_text, once_widths_of}, RightOnce.IsRightOnce}
use Rattle.command_line.specs.declared.status.Status.{Status}
use Rattle.otp_tool.specs.{Grammars.IsAsked, Findings.{FindsForOnce, ready}, Results.{IsOnceText, once_widths}}
use Rattle.otp_tool.specs.Steps.{IsRefusal, IsStep, RefusesForm, RefusesOnce, write_status, taking_of}
use Rattle.kind_orders.specs.JoinedArcs.{HaveJoinedArcs}
use Rattle.otp_tool.proofs.{RefusalLemmas.{budget_for_once, form_for_once, refusal_weaker}, StepLemmas.written}

-- ---- the widths of the text

last_stretches : (cs : List Constraint) → get_or (stretch_counts cs) (length (stretch_counts cs) - 1) 0
    ≡ length (filter is_stretch cs)
last_stretches cs =
    let long = length-stretch_counts cs in
    let last : length (stretch_counts cs) - 1 ≡ length cs = omega (arith, long) in
    ap (λ n. get_or (stretch_counts cs) n 0) last
    ∙ get_or-map-range_with_len (λ r. length (filter is_stretch (take r cs))) 0 (length cs + 1) (length cs)
    (length cs) 0 (omega arith) (omega arith)
    ∙ ap (λ ds. length (filter is_stretch ds)) (take_all (length cs) cs (omega arith))

same_once_widths : (a b : OnceWidths) → a.free ≡ b.free → a.stretches ≡ b.stretches → a.constraints ≡ b.constraints
    → a ≡ b
same_once_widths a b e f h =
    let make : ℕ → ℕ → ℕ → OnceWidths = λ n m k. record { free = n; stretches = m; constraints = k } in
    ap (λ n. make n a.stretches a.constraints) e ∙ ap (λ m. make b.free m a.constraints) f
    ∙ ap (make b.free b.stretches) h

module _ (g : Grammar) where
  widths_are : (shape : Shape) → IsShapeOf g shape → (u : List (List Sym))
      → once_widths_of shape ≡ once_widths (problem_from g.tiers g.constraints.items u)
  widths_are shape s u =
      let long = length-stretch_counts g.constraints.items in
      let last : length (stretch_counts g.constraints.items) - 1 ≡ length g.constraints.items = omega (arith, long) in
      same_once_widths (once_widths_of shape) (once_widths (problem_from g.tiers g.constraints.items u))
      (ap (λ n. n - masked_count shape.inputs) s.width ∙ free_tiers g.tiers.kinds.items shape.inputs s.inputs)
      (ap (λ (ps : List ℕ). get_or ps (length ps - 1) 0) s.phases ∙ last_stretches g.constraints.items)
      (ap (λ (ps : List ℕ). length ps - 1) s.phases ∙ last)

  -- ---- the command

  module _ (form : List ℕ) (budget : ℕ) where
    pub no_form_once : (s : Status) → IsRefusal (RefusesForm (value_of g) form) s
        → IsRefusal (FindsForOnce (value_of g) form budget) s
    no_form_once = refusal_weaker _ _ (form_for_once (value_of g) form budget)

    module _ (u : List (List Sym)) (a : IsAsked (value_of g) form (problem_from g.tiers g.constraints.items u)) where
      abbrev problem : Problem
      problem = problem_from g.tiers g.constraints.items u

      pub no_pass : (s : Status) → IsRefusal (RefusesOnce problem budget) s
          → IsRefusal (FindsForOnce (value_of g) form budget) s
      no_pass = refusal_weaker _ _ (budget_for_once _ _ _ _ a)

      module _ (answer : OnceAnswer) (right : IsRightOnce problem answer)
          (joined : HaveJoinedArcs answer.automaton.states.items) (within : AreWholeKindsWithin problem budget) where
        is_ready : FindsForOnce (value_of g) form budget ready
        is_ready = record { problem = problem; is_asked = a; fact = within }

        is_text : (shape : Shape) → IsShapeOf g shape
            → IsOnceText (value_of g) form (once_text (once_widths_of shape) answer)
        is_text shape s = record {
          problem = problem;
          is_asked = a;
          answer = answer;
          right = right;
          joined = joined;
          written = ap (λ (w : OnceWidths). once_text w answer) (widths_are _ s u);
        }

        pub pass_written : {O A : Type 0} {sink : Ghosts O} {old new : O} (shape : Shape) → IsShapeOf g shape
            → (r : Result A WriteErr) → Puts sink old new (once_text (once_widths_of shape) answer) r
            → (s : Status) → s ≡ write_status r
            → IsStep (FindsForOnce (value_of g) form budget) (IsOnceText (value_of g) form) (taking_of sink old new) s
        pass_written shape s r p status e =
            written (IsOnceText (value_of g) form) (once_text (once_widths_of shape) answer) (is_text shape s)
            (FindsForOnce (value_of g) form budget) is_ready r p status e
