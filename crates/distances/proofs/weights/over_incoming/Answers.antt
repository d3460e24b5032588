use Rattle.distances.proofs.Ends.{initial-witnessed, initial-covered}
use Rattle.distances.proofs.weights.over_incoming.Goals as goal

pub settle-requires-clause-witnessed : goal.settle-requires-clause-witnessed
settle-requires-clause-witnessed g c = rw c.in_ok-least.ensures
    (initial-witnessed g.met.W.Weight.laws c.args.table.now.states.items)

pub fixed_point-requires-clause-each_state : goal.fixed_point-requires-clause-each_state
fixed_point-requires-clause-each_state g c = c.in_ok-settle.ensures.each_state

pub fixed_point-requires-clause-witnessed : goal.fixed_point-requires-clause-witnessed
fixed_point-requires-clause-witnessed g c = c.in_ok-settle.ensures.witnessed

pub fixed_point-requires-clause-covered : goal.fixed_point-requires-clause-covered
fixed_point-requires-clause-covered g c = c.in_ok-settle.ensures.covered 0 (rw c.in_ok-least.ensures
    (initial-covered g.met.W.Weight.laws c.args.table.now.states.items))
