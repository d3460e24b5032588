use Rattle.std.proofs.Common.{◌≡◌, ◌<◌, ℕ, List, Option, None, length, get_or, ◌/◌, ◌%◌, sym, ◌∙◌, subst, arith}
use Rattle.std.proofs.lemmas.List.Elements.{Contains-get_or}
use Rattle.std.specs.Prelude.{All}
use Rattle.tier_core.specs.{declared.class.Class.Class, Classes.sets_of}
use Rattle.answer_text.specs.{declared.automaton.ArcLine.ArcLine, declared.automaton.StateLine.StateLine}
use Rattle.answer_text.specs.Right.{numbers_of}
use Rattle.comprehend.specs.{declared.choice.Choice.Choice, Choices.{IsBetter, LeadsByOne}, Steps.arcs_at}
use Rattle.comprehend.proofs.{Cells.{cell_of, place_below, state_of}, Levels.arcs_read}
use Rattle.comprehend.proofs.Choosing.{chosen, none_chosen}
use Rattle.comprehend.proofs.choose.choose.Goals as goal

-- the best choice of the arcs that are read is that of the state's arcs
best_at : (states : List StateLine) (tests : List Class) (left : List ℕ) (n s p : ℕ) {numbers : List ℕ}
    {arcs : List ArcLine} {result : Option Choice} → numbers ≡ numbers_of states → arcs ≡ arcs_at states s
    → IsBetter (LeadsByOne numbers tests p left n arcs) None result
    → IsBetter (LeadsByOne (numbers_of states) tests p left n (arcs_at states s)) None result
best_at states tests left n s p {numbers} {arcs} {result} e f best =
    subst (λ ns. IsBetter (LeadsByOne ns tests p left n (arcs_at states s)) None result) e
    (subst (λ xs. IsBetter (LeadsByOne numbers tests p left n xs) None result) f best)

pub best_of-requires-clause-widths : goal.best_of-requires-clause-widths
best_of-requires-clause-widths c =
    let states = c.args.states.now in
    let tests = c.args.tests.now in
    let search = c.requires.searchable.1 in
    let s = c.args.from / length tests in
    let inside : s < length states = state_of c.args.from (length states) (length tests) search.some_test
    (omega (arith, c.requires.from, c.requires.each)) in
    let P : List ArcLine → Type 0 = λ xs. All
    (λ arc. All (λ test. length (sets_of arc.class) ≡ length (sets_of test)) tests) xs in
    subst P (sym (arcs_read states s c.index-states-state.result c.deref.result.now inside c.deref.ensures.value))
    (λ k d l j e m. search.arc_widths s (get_or (arcs_at states s) k d) (Contains-get_or (arcs_at states s) k d l)
    ∙ sym (search.test_widths j e m))

pub unreachable-requires : goal.unreachable-requires
unreachable-requires c =
    let states = c.args.states.now in
    let tests = c.args.tests.now in
    let some = c.requires.searchable.1.some_test in
    let s = c.args.from / length tests in
    let p = c.args.from % length tests in
    let inside : s < length states = state_of c.args.from (length states) (length tests) some
    (omega (arith, c.requires.from, c.requires.each)) in
    let best = best_at states tests c.args.left.now c.args.n s p c.requires.numbers
    (arcs_read states s c.index-states-state.result c.deref.result.now inside c.deref.ensures.value)
    c.best_of.ensures in
    none_chosen states tests c.args.left.now c.args.n c.args.from s p (cell_of c.args.from (length tests) some)
    (place_below c.args.from (length tests) some) c.best_of.result best c.in-None.is c.requires.some

pub returns : goal.returns
returns c =
    let states = c.args.states.now in
    let tests = c.args.tests.now in
    let some = c.requires.searchable.1.some_test in
    let s = c.args.from / length tests in
    let p = c.args.from % length tests in
    let inside : s < length states = state_of c.args.from (length states) (length tests) some
    (omega (arith, c.requires.from, c.requires.each)) in
    let best = best_at states tests c.args.left.now c.args.n s p c.requires.numbers
    (arcs_read states s c.index-states-state.result c.deref.result.now inside c.deref.ensures.value)
    c.best_of.ensures in
    chosen states tests c.args.left.now c.args.n c.args.from s p (cell_of c.args.from (length tests) some)
    (place_below c.args.from (length tests) some) c.best_of.result best c.in-Some.choice c.in-Some.is
