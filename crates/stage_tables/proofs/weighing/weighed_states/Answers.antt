use Rattle.std.proofs.Common.{◌≡◌, ◌<◌, length, get_or, sym, ◌∙◌, subst, arith}
use Rattle.std.proofs.lemmas.List.Elements.{Contains-get_or}
use Rattle.arc_table.specs.{Moves.moves_at, States.states_of}
use Rattle.kind_moves.specs.Frames.{FitsFrame}
use Rattle.symbol_class.specs.{Held.once_if, Parts.differs}
use Rattle.stage_tables.specs.Weighing.{cost_from, AreWeighedMoves, AreWeighedStates}
use Rattle.stage_tables.proofs.WeighedMoves.{same_weighed, no_states, next_state}
use Rattle.stage_tables.proofs.WeighedTables.{kind_count, arc_wide, test_costs}
use Rattle.stage_tables.proofs.weighing.weighed_states.Goals as goal

pub cost_test-test-requires-clause-fits : goal.cost_test-test-requires-clause-fits
cost_test-test-requires-clause-fits c =
    let count = kind_count c.args.frame.now c.args.stage (states_of c.args.kept.now) c.args.kinds.now c.requires.kept in
    let kind = c.index-kinds-state.result in
    rw c.index-kinds-state.is (c.requires.fit c.loop-state.state kind
    (omega (arith, count, c.loop-state-test.true, c.len-state-end.ensures)))

pub weighed_moves-requires-clause-width : goal.weighed_moves-requires-clause-width
weighed_moves-requires-clause-width c =
    let kept = states_of c.args.kept.now in
    rw c.arcs.ensures (λ k d l. arc_wide c.args.frame.now c.args.stage kept c.args.kinds.now c.requires.kept
    c.loop-state.state (get_or (moves_at kept c.loop-state.state) k d) (Contains-get_or _ k d l)
    ∙ sym c.cost_test-test.ensures.width)

pub weighed_moves-requires-clause-filled : goal.weighed_moves-requires-clause-filled
weighed_moves-requires-clause-filled c =
    let kept = states_of c.args.kept.now in
    rw c.arcs.ensures (λ k d l. c.args.kept.now.filled c.loop-state.state (get_or (moves_at kept c.loop-state.state) k
    d) (Contains-get_or _ k d l))

pub loop-state-init : goal.loop-state-init
loop-state-init c = record {
  made = no_states _ _ _ c.in_ok-states.ensures.items;
}

pub loop-state-preserved : goal.loop-state-preserved
loop-state-preserved c =
    let frame = c.args.frame.now in
    let stage = c.args.stage in
    let kept = states_of c.args.kept.now in
    let kinds = c.args.kinds.now in
    let n = c.loop-state.state in
    let test = c.cost_test-test.result in
    let arcs = c.in_ok-arcs.arcs.items in
    let l : n < length kept = omega (arith, c.loop-state-test.true, c.len-state-end.ensures) in
    let made : AreWeighedMoves (λ column. once_if (differs test column)) (moves_at kept n) arcs = subst
    (λ xs. AreWeighedMoves (λ column. once_if (differs test column)) xs arcs) c.arcs.ensures c.in_ok-arcs.ensures in
    let moves = same_weighed (λ column. once_if (differs test column)) (cost_from frame stage kinds n)
    (moves_at kept n) arcs
    (test_costs frame stage kept kinds c.requires.kept n c.index-kinds-state.result test l c.index-kinds-state.is
    c.cost_test-test.ensures.columns) made in
    record {
      made = rw c.in_ok-push.ensures.items
          (next_state (cost_from frame stage kinds) kept c.loop-state.states.items n _ c.loop-state.invariant.made
          c.accepting.ensures moves);
    }

pub returns : goal.returns
returns c =
    let last : c.loop-state.state ≡ length (states_of c.args.kept.now) = omega
    (arith, c.loop-state.auto.state-end, c.loop-state-test.false, c.len-state-end.ensures) in
    rw last at c.loop-state.invariant.made
