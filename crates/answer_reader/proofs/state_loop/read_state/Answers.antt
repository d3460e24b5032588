use Rattle.std.proofs.{Common.{◌∙◌, map, refl, suc}, lemmas.Result.err_from_is_err_and}
use Rattle.answer_reader.specs.{Left.lines_left, LineWords.bare_state, States.{behind_states, states_from}}
use Rattle.answer_text.specs.Values.{state_value}
use Rattle.answer_reader.proofs.{Going.fails_from, StateLoops.{follows_node, state_read, state_refused}}
use Rattle.answer_reader.proofs.state_loop.read_state.Goals as goal

pub returns-in_err-node-clause-goes_on : goal.returns-in_err-node-clause-goes_on
returns-in_err-node-clause-goes_on c = λ more.
    let p = err_from_is_err_and c.from_residual.result c.from_residual.ensures.1 in
    rw (p.1, p.2) (state_refused c.args.width c.args.nodes (map state_value c.args.states.now) more c.args.lines.now
    c.read_state_line.new.lines c.in_err-node.field-0.0 c.in_err-node.ensures.takes)

pub returns-in_err-arcs-clause-goes_on : goal.returns-in_err-arcs-clause-goes_on
returns-in_err-arcs-clause-goes_on c = λ more.
    let p = err_from_is_err_and c.from_residual-in_err-arcs.result c.from_residual-in_err-arcs.ensures.1 in
    rw (p.1, p.2) (fails_from c.in_err-arcs.field-0.0
    (states_from c.args.width c.args.nodes (behind_states (suc more) (map state_value c.args.states.now))
    c.args.lines.now.number (lines_left c.args.lines.now)) _
    (state_read c.args.width c.args.nodes (map state_value c.args.states.now) more c.args.lines.now
    c.read_state_line.new.lines (c.in_ok-node.node, c.in_ok-node.accepting) c.in_ok-node.ensures.takes)
    (c.in_err-arcs.ensures.goes_on more (map state_value c.args.states.now)
    (c.in_ok-node.node, c.in_ok-node.accepting)))

pub returns-clause-goes_on : goal.returns-clause-goes_on
returns-clause-goes_on c = λ more.
    state_read c.args.width c.args.nodes (map state_value c.args.states.now) more c.args.lines.now
    c.read_state_line.new.lines (c.in_ok-node.node, c.in_ok-node.accepting) c.in_ok-node.ensures.takes
    ∙ c.in_ok-arcs.ensures.goes_on more (map state_value c.args.states.now) (c.in_ok-node.node, c.in_ok-node.accepting)

pub returns-clause-follows : goal.returns-clause-follows
returns-clause-follows c = follows_node (map state_value c.args.states.now) _
    (bare_state (c.in_ok-node.node, c.in_ok-node.accepting)) refl ∙ c.in_ok-node.ensures.follows
