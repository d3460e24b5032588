-- What the commands do with a grammar.
use Rattle.std.proofs.Common.{◌≡◌, inr, ℕ, ◌+◌, ◌-◌, ◌≤◌, List, length, Result, Ok, Err, All, refl, ap, sym, ◌∙◌}
use Rattle.std.proofs.{Common.{subst, arith}, lemmas.List.length-map, lemmas.List.Elements.All-from_recursion}
use Rattle.std.specs.Prelude.{IfOk}
use Rattle.outside.specs.{Writers.Puts, declared.sink.Sink.Ghosts, declared.sink.WriteErr.WriteErr}
use Rattle.outside.specs.declared.sink.WriteErr.TheVariants.{Failed, NoMemory as NoRoom}
use Rattle.tier_core.specs.{declared.sym.Sym.Sym, declared.shape.Shape.Shape, Shapes.masked_count}
use Rattle.tier_core.specs.{Tables.tiers_of_table, Tiers.Tiers, Timelines.IsWellFormed}
use Rattle.tier_core.proofs.{TableMasks.free_tiers, CountLemmas.all_weaker}
use Rattle.timeline_text.specs.declared.form_err.FormErr.{FormErr}
use Rattle.grammar_reader.specs.{declared.grammar.Grammar.Grammar, Grammars.value_of, ShapeOf.IsShapeOf}
use Rattle.grammar_reader.proofs.{Shaping.length-stretch_counts, OverTiers.over_tiers}
use Rattle.violation.specs.{Candidates.{IsForm, vec}, Conditions.{IsCountable, IsOverTiers}}
use Rattle.violation.specs.Problems.{Problem, problem_from}
use Rattle.answer_text.specs.{declared.answer.Answer.Answer, Right.IsRight, Shape.widths_of}
use Rattle.answer_text.specs.Text.{Widths, answer_text, counts_text}
use Rattle.kind_orders.specs.JoinedArcs.{HaveJoinedArcs}
use Rattle.ranked_gen.specs.Budgets.{AreAllWithin, HaveFewKinds}
use Rattle.command_line.specs.declared.status.Status.{Status}
use Rattle.form_reader.specs.Forms.{IsReadAs, IsRefusedFor}
use Rattle.otp_tool.specs.Scored.{IsNotScored, IsScored}
use Rattle.otp_tool.specs.Findings.{Finding, FindsForAnswer, FindsForScore, no_form, ready}
use Rattle.otp_tool.specs.Results.{IsOfRightAnswer, IsScoreText, text_widths, whole_text}
use Rattle.otp_tool.specs.Steps.{IsWriteStatus, IsAnswerFor, IsStep, RefusesForm, write_status, taking_of}
use Rattle.otp_tool.specs.Grammars.{IsAsked}
use Rattle.otp_tool.proofs.GrammarLemmas.{same_kinds, same_requirements, same_tiers, same_vector}

-- ---- writing

module _ {O A : Type 0} {sink : Ghosts O} {old new : O} (writes : List ℕ
    → Type 0) (text : List ℕ) (w : writes text) where
  ends : (r : Result A WriteErr) → Puts sink old new text r
      → IsWriteStatus writes (taking_of sink old new) (write_status r)
  ends (Ok done) p = record { text = text; is = w; taken = p.ok }
  ends (Err Failed) p = (record { text = text; is = w; part = p.part }, p.failed refl)
  ends (Err NoRoom) p = inr (record { text = text; is = w; part = p.part })

  -- a command is ready, and writes a text
  pub written : (finds : Finding → Type 0) → finds ready → (r : Result A WriteErr) → Puts sink old new text r
      → (status : Status) → status ≡ write_status r
      → IsStep finds writes (taking_of sink old new) status
  written finds f r p status s = inr (f, rw s (ends r p))

both_ok : {X E : Type 0} (r : Result X E) (P Q R : X → Type 0) → ((x : X) → P x → Q x → R x) → IfOk r P → IfOk r Q
    → IfOk r R
both_ok (Ok x) P Q R f p q = f x p q
both_ok (Err e) P Q R f p q = tt

-- ---- counting

module _ (g : Grammar) where
  pub same_width : length (value_of g).tiers ≡ length g.tiers.kinds.items
  same_width = sym (length-map (value_of g).tiers (λ t. t.kind)) ∙ ap length (same_kinds g)

  -- the constraints may be counted on a timeline of the grammar
  pub all_countable : (T : List (List Sym)) → IsWellFormed (length g.tiers.kinds.items) T
      → All (λ c. IsCountable c.left c.right T) g.constraints.items
  all_countable T w =
      All-from_recursion (λ c. IsCountable c.left c.right T) g.constraints.items
      (all_weaker (IsOverTiers (length g.tiers.kinds.items)) (λ c. IsCountable c.left c.right T) g.constraints.items
      (λ c o. record {
        width = length g.tiers.kinds.items;
        well_formed = w;
        left_below = o.left_below;
        right_below =
            o.right_below;
        some_left = o.some_left;
      })
      (over_tiers g))

  pub not_scored : (word : List ℕ) (cause : FormErr) → IsNotScored (length g.tiers.kinds.items) word cause
      → FindsForScore (value_of g) word (no_form 2 cause)
  not_scored word cause n = (refl, rw same_width n)

  pub is_scored : (word : List ℕ) (T : List (List Sym)) → IsScored (length g.tiers.kinds.items) word T
      → FindsForScore (value_of g) word ready
  is_scored word T s = (T, rw same_width s)

  pub scored : (word : List ℕ) (T : List (List Sym)) (counts : List ℕ) → IsScored (length g.tiers.kinds.items) word T
      → counts ≡ vec g.constraints.items T → IsScoreText (value_of g) word (counts_text counts)
  scored word T counts s e = record {
    timeline = T;
    read = rw same_width s;
    written = ap counts_text (e ∙ sym (same_vector g T));
  }

  -- ---- answers

  module _ (form : List ℕ) where
    pub refused_for : (cause : FormErr)
        → IsRefusedFor (length (tiers_of_table g.tiers).input) g.letters.items form cause
        → RefusesForm (value_of g) form (no_form 2 cause)
    refused_for cause r = record {
      value = cause;
      is = refl;
      fact = subst (λ (tiers : Tiers). IsRefusedFor (length tiers.input) g.letters.items form cause)
          (sym (same_tiers g)) r;
    }

    -- the grammar asks what is read of its word
    pub asks : (u : List (List Sym)) → IsReadAs (length (tiers_of_table g.tiers).input) g.letters.items form u
        → IsAsked (value_of g) form (problem_from g.tiers g.constraints.items u)
    asks u r = record {
      tiers = sym (same_tiers g);
      constraints = sym (same_requirements g);
      form = subst (λ (tiers : Tiers). IsReadAs (length tiers.input) g.letters.items form u) (sym (same_tiers g)) r;
    }

    pub made_for : (budget : ℕ) (u : List (List Sym))
        → IsAsked (value_of g) form (problem_from g.tiers g.constraints.items u)
        → IsForm (tiers_of_table g.tiers) u → length u ≤ 64 → (r : Result Answer Status)
        → IfOk r (IsRight (problem_from g.tiers g.constraints.items u))
        → IfOk r (λ answer. HaveJoinedArcs answer.automaton.states.items)
        → IfOk r (λ answer. AreAllWithin (problem_from g.tiers g.constraints.items u) budget)
        → IfOk r (λ answer. HaveFewKinds (problem_from g.tiers g.constraints.items u) budget)
        → IfOk r (IsAnswerFor g.tiers g.constraints.items (value_of g) form budget)
    made_for budget u a f s r right joined within listed =
        let problem = problem_from g.tiers g.constraints.items u in
        let Is : Answer → Type 0 = λ answer. IsRight problem answer × HaveJoinedArcs answer.automaton.states.items in
        let Few : Answer → Type 0 = λ answer. AreAllWithin problem budget × HaveFewKinds problem budget in
        both_ok r Is Few (IsAnswerFor g.tiers g.constraints.items (value_of g) form budget)
        (λ answer p q. record {
          u = u;
          is_asked = a;
          is_form = f;
          short = s;
          right = p.0;
          joined = p.1;
          within = q.0;
          listed = q.1;
        })
        (both_ok r (IsRight problem) (λ answer. HaveJoinedArcs answer.automaton.states.items) Is
        (λ answer p q. (p, q)) right joined)
        (both_ok r (λ answer. AreAllWithin problem budget) (λ answer. HaveFewKinds problem budget) Few
        (λ answer p q. (p, q)) within listed)

    module _ (budget : ℕ) (answer : Answer)
        (made : IsAnswerFor g.tiers g.constraints.items (value_of g) form budget answer) where
      pub made_ready : FindsForAnswer (value_of g) form budget ready
      made_ready = record {
        problem = problem_from g.tiers g.constraints.items made.u;
        is_asked = made.is_asked;
        within = made.within;
        listed = made.listed;
      }

      pub made_right : (write : Problem → Answer → List ℕ) (text : List ℕ)
          → ((u : List (List Sym)) → text ≡ write (problem_from g.tiers g.constraints.items u) answer)
          → IsOfRightAnswer write (value_of g) form text
      made_right write text e = record {
        problem = problem_from g.tiers g.constraints.items made.u;
        is_asked = made.is_asked;
        answer = answer;
        right = made.right;
        joined = made.joined;
        written = e made.u;
      }

      pub stages_fit : (shape : Shape) → IsShapeOf g shape → length answer.stages.items ≤ length shape.phases.items
      stages_fit shape s =
          let phases = ap length s.phases ∙ length-stretch_counts _ in
          omega (arith, phases, made.right.stage_count)

  -- ---- the text

  same_widths : (a b : Widths) → a.free ≡ b.free → a.stretches ≡ b.stretches → a ≡ b
  same_widths a b e f =
      let first : Widths → ℕ → Widths = λ w n. record { free = n; stretches = w.stretches } in
      let second : Widths → List ℕ → Widths = λ w xs. record { free = w.free; stretches = xs } in
      ap (first a) e ∙ ap (second (first a b.free)) f

  -- the widths that the shape of a grammar gives are those of each problem that is asked
  pub same_shape_widths : (shape : Shape) → IsShapeOf g shape → (u : List (List Sym))
      → widths_of shape ≡ text_widths (problem_from g.tiers g.constraints.items u)
  same_shape_widths shape s u = same_widths _ _ (ap (λ n. n - masked_count shape.inputs) s.width ∙ free_tiers _ _
      s.inputs) s.phases

  pub whole_written : (shape : Shape) → IsShapeOf g shape → (answer : Answer) (u : List (List Sym))
      → answer_text (widths_of shape) answer ≡ whole_text (problem_from g.tiers g.constraints.items u) answer
  whole_written shape s answer u = ap (λ (w : Widths). answer_text w answer) (same_shape_widths _ s u)
