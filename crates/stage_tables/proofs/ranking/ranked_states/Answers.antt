use Rattle.std.proofs.Common.{◌≡◌, ◌<◌, length, subst, arith}
use Rattle.std.specs.List.{AllZip}
use Rattle.arc_table.specs.{States.states_of, Moves.moves_at}
use Rattle.tier_core.specs.KindNumbers.{kind_numbered}
use Rattle.stage_tables.specs.Ranking.{IsRankedMove}
use Rattle.stage_tables.proofs.RankedStates.{no_states, next_state, kind_fits, kind_is, columns_of}
use Rattle.stage_tables.proofs.ranking.ranked_states.Goals as goal

pub ranked_moves-requires-clause-fits : goal.ranked_moves-requires-clause-fits
ranked_moves-requires-clause-fits c =
    let found = c.args.found.now in
    kind_fits _ _ _ c.requires _ _ (omega (arith, c.loop-state-test.true, c.len-state-end.ensures)) c.index.ensures

pub ranked_moves-requires-clause-columns : goal.ranked_moves-requires-clause-columns
ranked_moves-requires-clause-columns c =
    let found = c.args.found.now in
    rw c.arcs.ensures (columns_of _ _ _ c.requires _ _ (omega (arith, c.loop-state-test.true, c.len-state-end.ensures))
    c.index.ensures)

pub loop-state-init : goal.loop-state-init
loop-state-init c = record {
  made = no_states _ _ _ _ c.new-states.ensures.items;
}

pub loop-state-preserved : goal.loop-state-preserved
loop-state-preserved c =
    let frame = c.args.frame.now in
    let found = c.args.found.now in
    let n = c.loop-state.state in
    let kind = c.index.result.now in
    let arcs = c.in_ok-arcs.arcs.items in
    let l : n < length (states_of found.table) = omega (arith, c.loop-state-test.true, c.len-state-end.ensures) in
    let is : kind ≡ kind_numbered found.kinds.items n = kind_is frame found.kinds.items
    (states_of found.table) c.requires n kind l c.index.ensures in
    let moves : AllZip (IsRankedMove frame (kind_numbered found.kinds.items n))
    (moves_at (states_of found.table) n) arcs =
    subst (λ k. AllZip (IsRankedMove frame k) (moves_at (states_of found.table) n) arcs) is
    (subst (λ xs. AllZip (IsRankedMove frame kind) xs arcs) c.arcs.ensures c.in_ok-arcs.ensures) in
    record {
      made = rw c.in_ok-push.ensures.items
          (next_state frame found.kinds.items
          (states_of found.table) c.loop-state.states.items n _ c.loop-state.invariant.made c.accepting.ensures moves);
    }
