-- What the loops over states and arcs keep.
use Rattle.std.proofs.Common.{◌≡◌, ℕ, suc, ◌<◌, Bool, true, false, nat_lt, List, [], ◌∷◌, ◌++◌, map, Result, Ok}
use Rattle.std.proofs.{Common.{Err, refl, ap, sym, ◌∙◌, subst, arith}, lemmas.Bool.Decides.nat_tests}
use Rattle.std.proofs.{lemmas.List.map_push, lemmas.List.Elements.All-push}
use Rattle.std.specs.{List.{All, AllByRecursion}, List.Sorted.IsStrictlySortedBy, Ordering.nat_cmp, Prelude.codes}
use Rattle.std.specs.{Result.MatchResult, declared.cmp.Ordering.TheVariants.Less}
use Rattle.answer_text.specs.{declared.automaton.ArcLine.ArcLine, declared.automaton.StateLine.StateLine}
use Rattle.answer_text.specs.{Readable.{AreReadableStates, IsReadableArc, IsReadableState}, Right.numbers_of}
use Rattle.answer_text.specs.Values.{StateValue, arc_value, state_value}
use Rattle.answer_reader.specs.{declared.answer_err.AnswerErr.AnswerErr, declared.lines.Lines.Lines, Cuts.begins}
use Rattle.answer_reader.specs.{Left.{lines_left, Takes, Continues}, LineWords.{bare_state, with_arcs}}
use Rattle.answer_reader.specs.{Lines.end_line, Orders.{follows, state_less}}
use Rattle.answer_reader.specs.States.{at_end, behind_states, in_state, with_arc, next_arc, next_state, states_from}
use Rattle.answer_reader.specs.Steps.{Fails, line_then}
use Rattle.answer_reader.proofs.Going.{fails_from, takes_on, takes_fails}
use Rattle.answer_reader.proofs.StateSteps.{state_next, end_next, arc_next, arcs_end}

-- reading on behind these arcs of a state, whatever the state and the states before it
pub record AreArcs (width nodes : ℕ) (old now : Lines) (arcs : List ArcLine) : Type 0 where
  pub goes_on : (more : ℕ) (states : List StateValue) (state : ℕ × Bool)
      → states_from width nodes (in_state more states (bare_state state)) old.number (lines_left old)
      ≡ states_from width nodes (in_state more states (with_arcs state (map arc_value arcs))) now.number
      (lines_left now)
  pub readable : All (IsReadableArc width nodes) arcs

pub arcs_start : (width nodes : ℕ) (old : Lines) (arcs : List ArcLine) → arcs ≡ [] → AreArcs width nodes old old arcs
arcs_start width nodes old arcs none = rw none
    (record { goes_on = λ more states state. refl; readable = λ k d l. absurd (omega arith) })

module _ (width nodes : ℕ) (old now : Lines) (arcs : List ArcLine) (are : AreArcs width nodes old now arcs) where
  -- an arc comes next
  here : begins (codes "arc ") now.rest.now ≡ true → (more : ℕ) (states : List StateValue) (state : ℕ × Bool)
      → states_from width nodes (in_state more states (bare_state state)) old.number (lines_left old)
      ≡ line_then (next_arc width nodes (map arc_value arcs)) (λ arc. states_from width nodes
      (in_state more states (with_arc (with_arcs state (map arc_value arcs)) arc))) now.number (lines_left now)
  here h more states state = are.goes_on more states state
      ∙ arc_next width nodes more states (with_arcs state (map arc_value arcs)) now.number now.rest.now h

  pub arc_read : (new : Lines) (arc : ArcLine) (arcs' : List ArcLine) → begins (codes "arc ") now.rest.now ≡ true
      → Takes (next_arc width nodes (map arc_value arcs)) arc_value now new (Ok arc) → IsReadableArc width nodes arc
      → arcs' ≡ arcs ++ arc ∷ [] → AreArcs width nodes old new arcs'
  arc_read new arc arcs' h t is e = subst (AreArcs width nodes old new) (sym e) (record {
    goes_on = λ more states state. here h more states state
        ∙ takes_on (next_arc width nodes (map arc_value arcs)) arc_value (λ arc. states_from width nodes
        (in_state more states (with_arc (with_arcs state (map arc_value arcs)) arc))) now new arc t
        ∙ ap (λ xs. states_from width nodes (in_state more states (with_arcs state xs)) new.number (lines_left new))
        (sym (map_push arc_value arcs arc));
    readable = All-push (IsReadableArc width nodes) arcs arc are.readable is;
  })

  pub arc_refused : (new : Lines) (e : AnswerErr) → begins (codes "arc ") now.rest.now ≡ true
      → Takes (next_arc width nodes (map arc_value arcs)) arc_value now new (Err e)
      → (more : ℕ) (states : List StateValue) (state : ℕ × Bool)
      → Fails e (states_from width nodes (in_state more states (bare_state state)) old.number (lines_left old))
  arc_refused new e h t more states state =
      fails_from e (states_from width nodes (in_state more states (bare_state state)) old.number (lines_left old))
      (line_then (next_arc width nodes (map arc_value arcs)) (λ arc. states_from width nodes
      (in_state more states (with_arc (with_arcs state (map arc_value arcs)) arc))) now.number (lines_left now))
      (here h more states state)
      (takes_fails (next_arc width nodes (map arc_value arcs)) arc_value (λ arc. states_from width nodes
      (in_state more states (with_arc (with_arcs state (map arc_value arcs)) arc))) now new e t)

  pub arcs_read : begins (codes "arc ") now.rest.now ≡ false
      → (more : ℕ) (states : List StateValue) (state : ℕ × Bool)
      → states_from width nodes (in_state more states (bare_state state)) old.number (lines_left old)
      ≡ states_from width nodes (behind_states more (states ++ with_arcs state (map arc_value arcs) ∷ [])) now.number
      (lines_left now)
  arcs_read h more states state = are.goes_on more states state
      ∙ arcs_end width nodes more states (with_arcs state (map arc_value arcs)) now.number now.rest.now h

-- a state and its arcs
module _ (width nodes : ℕ) (states : List StateValue) (more : ℕ) (old mid : Lines) where
  pub state_read : (state : ℕ × Bool) → Takes (next_state nodes states) bare_state old mid (Ok state)
      → states_from width nodes (behind_states (suc more) states) old.number (lines_left old)
      ≡ states_from width nodes (in_state more states (bare_state state)) mid.number (lines_left mid)
  state_read state t =
      state_next width nodes more states old.number (lines_left old)
      ∙ takes_on (next_state nodes states) bare_state (λ x. states_from width nodes (in_state more states x)) old mid
      state t

  pub state_refused : (e : AnswerErr) → Takes (next_state nodes states) bare_state old mid (Err e)
      → Fails e (states_from width nodes (behind_states (suc more) states) old.number (lines_left old))
  state_refused e t = fails_from e _ _ (state_next width nodes more states old.number (lines_left old))
      (takes_fails (next_state nodes states) bare_state (λ x. states_from width nodes (in_state more states x)) old mid
      e t)

-- the end
module _ (width nodes : ℕ) (states : List StateValue) (old mid : Lines) where
  pub end_read : (u : Unit {0}) → Takes end_line (λ (x : Unit {0}). tt) old mid (Ok u)
      → states_from width nodes (behind_states 0 states) old.number (lines_left old)
      ≡ at_end states mid.number (lines_left mid)
  end_read u t = end_next width nodes states old.number (lines_left old)
      ∙ takes_on end_line (λ (x : Unit {0}). tt) (λ done. at_end states) old mid u t

  pub end_whole : (u : Unit {0}) (result : Result (Unit {0}) AnswerErr)
      → Takes end_line (λ (x : Unit {0}). tt) old mid (Ok u)
      → MatchResult result (λ done. lines_left mid ≡ [] ∷ [])
      (λ e. (states : List StateValue) → Fails e (at_end states mid.number (lines_left mid)))
      → Continues (states_from width nodes (behind_states 0 states)) (λ done n left. Ok states) old mid result
  end_whole u (Ok done) t h = end_read u t ∙ ap (at_end states mid.number) h
  end_whole u (Err e) t h = fails_from e _ _ (end_read u t) (h states)

-- the place of a state hangs on its node alone
pub follows_node : (states : List StateValue) (a b : StateValue) → a.node ≡ b.node → follows state_less states a
    ≡ follows state_less states b
follows_node [] a b e = refl
follows_node (x ∷ []) a b e = ap (nat_lt x.node) e
follows_node (x ∷ y ∷ states) a b e = follows_node (y ∷ states) a b e

-- ---- states that ascend

less_told : (m n : ℕ) → nat_lt m n ≡ true → nat_cmp m n ≡ Less
less_told m n h = grind (arith, nat_tests)

pub told_less : (m n : ℕ) → nat_cmp m n ≡ Less → m < n
told_less m n h = grind (arith, nat_tests)

less_is : (m n : ℕ) → m < n → nat_cmp m n ≡ Less
less_is m n h = grind (arith, nat_tests)

-- each of them is below the next
all_less : (states : List StateLine) (next : StateValue) → IsStrictlySortedBy nat_cmp (numbers_of states)
    → follows state_less (map state_value states) next ≡ true
    → AllByRecursion (λ m. nat_cmp m next.node ≡ Less) (numbers_of states)
unfolding IsStrictlySortedBy
all_less [] next s f = tt
all_less (y ∷ []) next s f = (less_told y.node next.node f, tt)
all_less (y ∷ z ∷ states) next s f =
    let rest = all_less (z ∷ states) next s.1 f in
    let a = told_less y.node z.node s.0.0 in
    let b = told_less z.node next.node rest.0 in
    (less_is y.node next.node (omega arith), rest)

sorted_push : (ns : List ℕ) (n : ℕ) → IsStrictlySortedBy nat_cmp ns → AllByRecursion (λ m. nat_cmp m n ≡ Less) ns
    → IsStrictlySortedBy nat_cmp (ns ++ n ∷ [])
unfolding IsStrictlySortedBy
sorted_push [] n s l = (tt, tt)
sorted_push (m ∷ ns) n s l = (all_push ns s.0 l.0, sorted_push ns n s.1 l.1)
  where
    all_push : (ks : List ℕ) → AllByRecursion (λ k. nat_cmp m k ≡ Less) ks → nat_cmp m n ≡ Less
        → AllByRecursion (λ k. nat_cmp m k ≡ Less) (ks ++ n ∷ [])
    all_push [] a h = (h, tt)
    all_push (k ∷ ks) a h = (a.0, all_push ks a.1 h)

pub one_state_more : (width nodes : ℕ) (states : List StateLine) (state : StateLine)
    → AreReadableStates width nodes states → follows state_less (map state_value states) (state_value state) ≡ true
    → IsReadableState width nodes state → AreReadableStates width nodes (states ++ state ∷ [])
one_state_more width nodes states state are f is = record {
  ascending = rw (map_push (λ (s : StateLine). s.node) states state)
      (sorted_push _ _ are.ascending (all_less _ _ are.ascending f));
  each = All-push (IsReadableState width nodes) states state are.each is;
}

pub no_states : (width nodes : ℕ) → AreReadableStates width nodes []
unfolding IsStrictlySortedBy
no_states width nodes = record { ascending = tt; each = λ k d l. absurd (omega arith) }

-- so many states are left
pub record AreStates (width nodes count : ℕ) (old now : Lines) (left : ℕ) (states : List StateLine) : Type 0 where
  pub goes_on : states_from width nodes (behind_states count []) old.number (lines_left old)
      ≡ states_from width nodes (behind_states left (map state_value states)) now.number (lines_left now)
  pub readable : AreReadableStates width nodes states

pub states_start : (width nodes count left : ℕ) (old : Lines) (states : List StateLine) → left ≡ count → states ≡ []
    → AreStates width nodes count old old left states
states_start width nodes count left old states e none = rw none (record {
  goes_on = ap (λ k. states_from width nodes (behind_states k []) old.number (lines_left old)) (sym e);
  readable = no_states _ _;
})

pub one_read : (width nodes count left more : ℕ) (old now new : Lines) (states : List StateLine) (state : StateLine)
    → left ≡ suc more → AreStates width nodes count old now left states
    → states_from width nodes (behind_states (suc more) (map state_value states)) now.number (lines_left now)
    ≡ states_from width nodes (behind_states more (map state_value states ++ state_value state ∷ [])) new.number
    (lines_left new)
    → follows state_less (map state_value states) (state_value state) ≡ true → IsReadableState width nodes state
    → AreStates width nodes count old new more (states ++ state ∷ [])
one_read width nodes count left more old now new states state one are on f is = record {
  goes_on = are.goes_on ∙ ap (λ k. states_from width nodes (behind_states k (map state_value states)) now.number
      (lines_left now)) one ∙ on ∙ ap (λ xs. states_from width nodes (behind_states more xs) new.number
      (lines_left new)) (sym (map_push _ _ _));
  readable = one_state_more _ _ _ _ are.readable f is;
}

pub one_refused : (width nodes count left more : ℕ) (old now : Lines) (states : List StateLine) (e : AnswerErr) → left
    ≡ suc more → AreStates width nodes count old now left states
    → Fails e (states_from width nodes (behind_states (suc more) (map state_value states)) now.number (lines_left now))
    → Fails e (states_from width nodes (behind_states count []) old.number (lines_left old))
one_refused width nodes count left more old now states e one are f = fails_from e _ _
    (are.goes_on ∙ ap (λ k. states_from width nodes (behind_states k (map state_value states)) now.number
    (lines_left now)) one) f

pub none_left : (width nodes count left : ℕ) (old now : Lines) (states : List StateLine) → left ≡ 0
    → AreStates width nodes count old now left states
    → states_from width nodes (behind_states count []) old.number (lines_left old)
    ≡ states_from width nodes (behind_states 0 (map state_value states)) now.number (lines_left now)
none_left width nodes count left old now states z are = are.goes_on
    ∙ ap (λ k. states_from width nodes (behind_states k (map state_value states)) now.number (lines_left now)) z
