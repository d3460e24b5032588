use Rattle.std.proofs.Common.{◌≡◌, ◌<◌, ◌≤◌, ◌+◌, ◌*◌, ℕ, List, length, get_or, ◌/◌, ◌%◌, refl, sym, ◌∙◌, subst}
use Rattle.std.proofs.{Common.arith, lemmas.List.length-map}
use Rattle.std.specs.{Prelude.All, Global.Vec}
use Rattle.tier_core.specs.{declared.class.Class.Class, Classes.sets_of}
use Rattle.answer_text.specs.{declared.automaton.StateLine.StateLine, Right.numbers_of}
use Rattle.comprehend.specs.{declared.entering.Entering.Entering, Searches.Reaches}
use Rattle.comprehend.specs.{Entering.{AreReverseArcs, ComesByOne, IsArcOf}, Steps.AreSearchable}
use Rattle.comprehend.proofs.Cells.{cell_of, place_below, state_of}
use Rattle.comprehend.proofs.Levels.{entering_are, entry_widths, entry_cells, level_more}
use Rattle.comprehend.proofs.level.next_level.Goals as goal

-- the state of a cell has a list of arcs that enter it
state_within : {width : ℕ} (states : List StateLine) (tests : List Class) (into : List (Vec Entering))
    → AreSearchable width states tests → AreReverseArcs (IsArcOf states) (numbers_of states) into → (to : ℕ)
    → to < length states * length tests → to / length tests < length into
state_within states tests into search turned to within = omega (
  arith,
  state_of to (length states) (length tests) search.some_test within,
  turned.each_state,
  length-map states (λ (x : StateLine). x.node),
)

pub reach-requires-clause-widths : goal.reach-requires-clause-widths
reach-requires-clause-widths c =
    let tests = c.args.tests.now in
    let into = c.args.into.now in
    let to = get_or c.args.level.now c.loop-to.to-index 0 in
    let inside = state_within c.args.states.now tests into c.requires.searchable.1 c.requires.turned to
    (omega (arith, c.requires.inside c.loop-to.to-index 0 c.loop-to-test.true, c.requires.each)) in
    let t = to / length tests in
    let P : List Entering → Type 0 = λ xs. All
    (λ entry. All (λ test. length (sets_of test) ≡ length (sets_of entry.class)) tests) xs in
    subst P (entering_are into t c.index-into-state.result inside c.index-into-state.is ∙ sym c.deref.ensures.value)
    (entry_widths c.args.states.now tests into c.requires.turned c.requires.searchable.0 c.requires.searchable.1 t)

pub reach-requires-clause-cells : goal.reach-requires-clause-cells
reach-requires-clause-cells c =
    let tests = c.args.tests.now in
    let into = c.args.into.now in
    let to = get_or c.args.level.now c.loop-to.to-index 0 in
    let inside = state_within c.args.states.now tests into c.requires.searchable.1 c.requires.turned to
    (omega (arith, c.requires.inside c.loop-to.to-index 0 c.loop-to-test.true, c.requires.each)) in
    let t = to / length tests in
    let cells = entry_cells c.args.states.now tests into c.requires.turned t in
    let P : List Entering → Type 0 = λ xs. All
    (λ entry. entry.source * length tests + length tests ≤ length c.loop-to.left.items) xs in
    subst P (entering_are into t c.index-into-state.result inside c.index-into-state.is ∙ sym c.deref.ensures.value)
    (λ k d l. omega (arith, cells k d l, c.loop-to.invariant.reached.same, c.requires.each))

pub loop-to-preserved : goal.loop-to-preserved
loop-to-preserved c =
    let states = c.args.states.now in
    let tests = c.args.tests.now in
    let into = c.args.into.now in
    let i = c.loop-to.to-index in
    let to = get_or c.args.level.now i 0 in
    let some = c.requires.searchable.1.some_test in
    let t = to / length tests in
    let q = to % length tests in
    let inside = state_within states tests into c.requires.searchable.1 c.requires.turned to
    (omega (arith, c.requires.inside i 0 c.loop-to-test.true, c.requires.each)) in
    let R : List Entering → Type 0 = λ xs. Reaches
    (ComesByOne tests xs q) c.args.n c.loop-to.left.items c.reach.new.left.items c.loop-to.next.items
    c.reach.new.next.items in
    record {
      inside = omega (arith, c.loop-to-test.true);
      reached = level_more states tests into c.requires.turned c.args.n c.args.level.now i to t q c.loop-to-test.true
          refl (cell_of to (length tests) some) (place_below to (length tests) some)
          c.args.left.now.items c.loop-to.left.items c.reach.new.left.items _ c.loop-to.next.items
          c.reach.new.next.items c.loop-to.invariant.reached
          (subst R (c.deref.ensures.value
          ∙ sym (entering_are into t c.index-into-state.result inside c.index-into-state.is))
          c.in_ok-reach.ensures);
    }
