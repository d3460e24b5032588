use Rattle.std.proofs.Common.{ℕ, List, length, subst}
use Rattle.arc_table.specs.States.{states_of}
use Rattle.kind_moves.specs.Frames.{problem_in}
use Rattle.kind_orders.specs.{Orderings.{IsOrdering, AreRanks}, AutomatonLines.state_nodes, Automata.IsAutomatonOf}
use Rattle.ranked_gen.proofs.{EndStage.right_automaton, RankedSteps.{some_left, first_optimal}}
use Rattle.ranked_gen.proofs.ending.ending_of.Goals as goal

pub unwrap-requires : goal.unwrap-requires
unwrap-requires c =
    let left = c.args.left.now in
    let table = left.kept.table in
    some_left (problem_in c.args.frame.now) c.requires.part.0
    (states_of table) table.filled table.some left.kept.states.items left.order.items c.requires.part.1
    c.in_ok-found.found c.in_ok-found.ensures

pub returns-clause-example : goal.returns-clause-example
returns-clause-example c =
    let left = c.args.left.now in
    let table = left.kept.table in
    first_optimal (problem_in c.args.frame.now) c.requires.part.0
    (states_of table) table.filled table.some left.kept.states.items left.order.items c.requires.part.1
    c.in_ok-found.found c.unwrap.result c.in_ok-found.ensures c.unwrap.ensures

pub returns-clause-automaton : goal.returns-clause-automaton
returns-clause-automaton c = λ nodes part.
    let left = c.args.left.now in
    let table = left.kept.table in
    let states = left.kept.states.items in
    let order = left.order.items in
    let places = c.in_ok-places.places.items in
    let lines = c.in_ok-automaton.automaton.states.items in
    let numbers : IsOrdering (length order) places = subst
    (λ (ns : List ℕ). IsOrdering (length ns) places) c.deref.ensures.value c.in_ok-places.ensures.numbers in
    let told : AreRanks order places = subst
    (λ ns. AreRanks ns places) c.deref.ensures.value c.in_ok-places.ensures.told in
    let automaton : IsAutomatonOf (states_of table) (state_nodes places states) lines =
    subst (λ ns. IsAutomatonOf (states_of table) (state_nodes ns states) lines) c.deref-3.ensures.value
    (subst (λ ns. IsAutomatonOf (states_of table)
    (state_nodes c.deref-3.result.now ns) lines) c.deref-2.ensures.value c.in_ok-automaton.ensures.automaton) in
    right_automaton (problem_in c.args.frame.now) nodes
    (states_of table) table.filled table.some states order places part numbers told lines automaton
