use Rattle.std.proofs.{Common.{slice_index, ◌∙◌}, lemmas.List.length-map}
use Rattle.arc_table.specs.States.{states_of}
use Rattle.kind_orders.specs.AutomatonLines.{state_nodes}
use Rattle.kind_orders.proofs.{ByNode.nodes_once, Reading.{automaton_is, joined_arcs}}
use Rattle.kind_orders.proofs.automaton.automaton_of.Goals as goal

pub returns-in-Ok-clause-automaton : goal.returns-in-Ok-clause-automaton
returns-in-Ok-clause-automaton c =
    let table = c.args.kept.now in
    automaton_is (states_of table) table.targets (state_nodes c.args.ranks.now c.args.states.now)
    (length-map c.args.states.now (slice_index c.args.ranks.now) ∙ c.requires.count)
    (nodes_once c.args.ranks.now c.args.states.now c.requires.ranks c.requires.kinds c.requires.once)
    c.in-Ok.states.items c.in-Ok.ensures table.some table.disjoint

pub returns-in-Ok-clause-joined : goal.returns-in-Ok-clause-joined
returns-in-Ok-clause-joined c =
    let table = c.args.kept.now in
    joined_arcs (states_of table) table.targets (state_nodes c.args.ranks.now c.args.states.now)
    (length-map c.args.states.now (slice_index c.args.ranks.now) ∙ c.requires.count)
    (nodes_once c.args.ranks.now c.args.states.now c.requires.ranks c.requires.kinds c.requires.once)
    c.in-Ok.states.items c.in-Ok.ensures
