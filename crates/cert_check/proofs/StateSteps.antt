-- The faults of the states, one after the other.
use Rattle.std.proofs.Common.{◌≡◌, ℕ, zero, suc, ◌+◌, ◌-◌, ◌<◌, List, [], ◌∷◌, length, get_or, slice_get, Some}
use Rattle.std.proofs.{Common.{refl, sym, ap, ◌∙◌, subst, arith, inl, inr, ⊎_elim, Contains}, lemmas.Bool.cases_lt}
use Rattle.std.proofs.{lemmas.List.{length-map, get_or-map}, lemmas.Map.Keys.below_from_sorted}
use Rattle.std.proofs.lemmas.Option.{slice_get-get_or, slice_get_within, get_or_from_slice_get}
use Rattle.std.proofs.lemmas.List.Elements.{All-contains}
use Rattle.std.specs.{List.Sorted.IsStrictlySortedBy, Ordering.nat_cmp}
use Rattle.violation.specs.Problems.{Problem, last_stage}
use Rattle.answer_text.specs.{declared.answer.Answer.Answer, declared.automaton.StateLine.StateLine}
use Rattle.answer_text.specs.{declared.stage.Node.Node, declared.stage.Stage.Stage}
use Rattle.answer_text.specs.{Readable.{IsReadableState, last_nodes}, Right.{numbers_of}}
use Rattle.cert_check.specs.{declared.fault.Fault.Fault, declared.fault.Fault.TheVariants.StateMissing}
use Rattle.cert_check.specs.{declared.subject.Subject.Subject, Faults.{IsState, HasState}, FirstFaults.IsFirstFault}
use Rattle.cert_check.specs.{Parts.{InState, InAnswer, IsFirstInState}, Places.{IsBefore}}
use Rattle.cert_check.specs.States.{AreRightBefore, IsRightFrom, IsRightState, IsRightBeforeStates, IsStateAt}
use Rattle.cert_check.specs.Subjects.{problem_of, stage_nodes}
use Rattle.cert_check.proofs.{Faultless.some_same, Parts.{none_before, none_first, first_fault}}
use Rattle.cert_check.proofs.Subjects.{in_stages, nodes_read}

module _ (problem : Problem) (answer : Answer)
    (ascending : IsStrictlySortedBy nat_cmp (numbers_of answer.automaton.states.items))
    (right : AreRightBefore problem answer) where
  abbrev states : List StateLine
  states = answer.automaton.states.items

  -- what is wrong in a state is wrong in one that is listed
  line_of : (state part : ℕ) (rest : List ℕ) → InState problem answer state part rest
      → (line : StateLine) × HasState answer state line
  line_of state zero rest w = (w.1.1.0.line, w.1.1.0.is)
  line_of state (suc zero) rest w = (w.1.0.line, w.1.0.is)
  line_of state (suc (suc zero)) rest w = (w.1.0.line, w.1.0.is)
  line_of state (suc (suc (suc zero))) rest w = (w.1.1.1.0.line, w.1.1.1.0.is)
  line_of state (suc (suc (suc (suc part)))) rest w = absurd w

  numbered : (line : StateLine) (h : Contains states line) → slice_get states h.0 ≡ Some line
  numbered line h = slice_get-get_or _ _ _ h.1 ∙ ap (λ (x : StateLine). Some x) h.2

  -- and one more
  pub right_more : (count : ℕ) (line : StateLine) → slice_get answer.automaton.states.items count ≡ Some line
      → IsRightState problem answer line.node
      → ((n : ℕ) (other : StateLine) → n < count → slice_get answer.automaton.states.items n ≡ Some other
      → IsRightState problem answer other.node)
      → (n : ℕ) (other : StateLine) → n < count + 1 → slice_get answer.automaton.states.items n ≡ Some other
      → IsRightState problem answer other.node
  right_more count line is own before n other l e = ⊎_elim
      (λ below. before n other below e)
      (λ above.
      let here : n ≡ count = omega (arith, l, above) in
      rw (some_same (sym is ∙ ap (slice_get states) (sym here) ∙ e)) at own) (cases_lt n count)

  -- the start of the automaton
  start_right : IsState answer 0 → (rest : List ℕ) → InAnswer problem answer 5 rest → ⊥
  start_right start rest w = w.0 start

  pub first_start : (IsState answer 0 → ⊥) → IsFirstFault problem answer (StateMissing 0 0)
  first_start lacks = first_fault _ _ _ _ (inl (refl, refl, lacks, refl))
      (none_before _ 5 [] (λ m l rest w. right m l rest w) (λ rest w b. none_first rest b))

  below_states : IsState answer 0 → (m : ℕ) → m < 6 → (rest : List ℕ) → InAnswer problem answer m rest → ⊥
  below_states start m l = ⊎_elim
      (λ below. right m below)
      (λ above. let is : 5 ≡ m = omega (arith, l, above) in
      subst (λ x. (rest : List ℕ) → InAnswer problem answer x rest → ⊥) is (start_right start))
      (cases_lt m 5)

  -- a state with a lower number stands before
  stands_before : (count : ℕ) (line : StateLine) → slice_get states count ≡ Some line → (other : StateLine)
      → (h : Contains states other) → other.node < line.node → h.0 < count
  stands_before count line is other h less = ⊎_elim
      (λ below. below)
      (λ above. ⊎_elim
      (λ over.
      let rises = below_from_sorted _ _ _ 0 ascending over
      (omega (arith, h.1, length-map states (λ (x : StateLine). x.node))) in
      absurd (omega (
        arith,
        less,
        rises,
        get_or-map (λ (x : StateLine). x.node) states count line 0 within,
        ap (λ (x : StateLine). x.node) at,
        get_or-map (λ (x : StateLine). x.node) states h.0 other 0 h.1,
        ap (λ (x : StateLine). x.node) h.2,
      )))
      (λ same.
      let here : h.0 ≡ count = omega (arith, above, same) in
      let one = some_same (sym (numbered other h) ∙ ap (slice_get states) here ∙ is) in
      absurd (omega (arith, less, ap (λ (x : StateLine). x.node) one)))
      (cases_lt count h.0))
      (cases_lt h.0 count)
    where
      within : count < length states
      within = slice_get_within _ _ _ is

      at : get_or states count line ≡ line
      at = get_or_from_slice_get states _ _ _ is

  -- the first fault of a state comes first, where the states before it are right
  pub first_state : IsState answer 0 → (count : ℕ) (line : StateLine)
      → slice_get answer.automaton.states.items count ≡ Some line
      → ((n : ℕ) (other : StateLine) → n < count → slice_get answer.automaton.states.items n ≡ Some other
      → IsRightState problem answer other.node)
      → (fault : Fault) → IsFirstInState problem answer line.node fault → IsFirstFault problem answer fault
  first_state start count line is before fault f =
      first_fault _ _ _ _ f.is (none_before _ 6 (line.node ∷ f.place) (below_states start)
      (λ rest w b. own _ w (subst (λ q. IsBefore q (line.node ∷ f.place)) w.1.1.1.1 b)))
    where
      lower : (state part : ℕ) (rest : List ℕ) → InState problem answer state part rest → state < line.node → ⊥
      lower state part rest w less =
          let other = line_of _ _ _ w in
          let h = other.1 in
          before h.listed.0 other.0 (stands_before count line is other.0 h.listed (omega (arith, less, h.numbered)))
          (numbered other.0 h.listed) part rest (rw h.numbered w)

      own : (rest : List ℕ) → (w : (state : ℕ) ×
          ((part : ℕ) × ((place : List ℕ) × (InState problem answer state part place × (rest ≡ state ∷ part ∷ place)))))
          → IsBefore (w.0 ∷ w.1.0 ∷ w.1.1.0) (line.node ∷ f.place) → ⊥
      own rest w (inl less) = lower _ _ _ w.1.1.1.0 less
      own rest w (inr same) = f.first w.1.0 w.1.1.0 (rw same.0 at w.1.1.1.0) same.1

  -- nothing is wrong in the automaton
  pub states_right : IsState answer 0
      → ((n : ℕ) (other : StateLine) → slice_get answer.automaton.states.items n ≡ Some other
      → IsRightState problem answer other.node) → IsRightFrom problem answer
  states_right start all zero l rest w = absurd (omega (arith, l))
  states_right start all (suc zero) l rest w = absurd (omega (arith, l))
  states_right start all (suc (suc zero)) l rest w = absurd (omega (arith, l))
  states_right start all (suc (suc (suc zero))) l rest w = absurd (omega (arith, l))
  states_right start all (suc (suc (suc (suc zero)))) l rest w = absurd (omega (arith, l))
  states_right start all (suc (suc (suc (suc (suc zero))))) l rest w = w.0 start
  states_right start all (suc (suc (suc (suc (suc (suc zero)))))) l rest w =
      let other = line_of _ _ _ w.1.1.1.0 in
      let h = other.1 in
      all h.listed.0 other.0 (numbered _ h.listed) w.1.0 w.1.1.0 (rw h.numbered w.1.1.1.0)
  states_right start all (suc (suc (suc (suc (suc (suc (suc n))))))) l rest w = w

-- the node of a state is one of the last stage
pub state_node_within : (s : Subject) → IsRightBeforeStates s → (line : StateLine)
    → Contains s.answer.now.automaton.states.items line
    → line.node < length (stage_nodes s (last_stage (problem_of s)))
state_node_within s staged line h =
    let size : length s.answer.now.stages.items - 1
    ≡ last_stage (problem_of s) = omega (arith, staged.ready.numbers.stages) in
    rw size at (All-contains
    (λ (x : StateLine). IsReadableState s.shape.now.width (length (last_nodes s.answer.now.stages.items)) x)
    s.answer.now.automaton.states.items line staged.ready.readable.states.each h).node

-- the state that code reads, and the node that it reads for it
module _ (states : List StateLine) (s : Subject) (staged : IsRightBeforeStates s)
    (is : states ≡ s.answer.now.automaton.states.items) (i : ℕ) (line : StateLine) (within : i < length states)
    (item : line ≡ get_or states i line) where
  pub state_read : slice_get s.answer.now.automaton.states.items i ≡ Some line
  state_read = ap (λ (xs : List StateLine). slice_get xs i) (sym is) ∙ slice_get-get_or _ i _ within ∙ ap
      (λ (x : StateLine). Some x) (sym item)

  pub state_here : (nodes : List Node) (stage : Stage) (count : ℕ) (node : Node) → nodes ≡ stage.nodes.items
      → count ≡ last_stage (problem_of s) → stage ≡ get_or s.answer.now.stages.items count stage
      → node ≡ get_or nodes line.node node → IsStateAt s line node
  state_here nodes stage count node here counted e f =
      let lines = s.answer.now.automaton.states.items in
      let listed : Contains lines line = (
        i,
        slice_get_within _ i _ state_read,
        get_or_from_slice_get _ i _ _ state_read,
      ) in
      let own =
      nodes_read s staged.ready _ (omega arith) _ _ here (rw counted at e) in
      let inside : line.node < length nodes = rw own (state_node_within s staged _ listed) in
      record {
        listed = listed;
        is = record {
          within = in_stages s staged.ready _ (omega arith);
          numbered = ap (λ (xs : List Node). slice_get xs line.node) (sym own) ∙ slice_get-get_or _ _ _ inside ∙ ap
              (λ (x : Node). Some x) (sym f);
        };
      }
