use Rattle.std.proofs.Common.{◌-◌}
use Rattle.answer_reader.proofs.StateLoops.{AreStates}
use Rattle.answer_reader.proofs.state_loop.read_states.Given as goal

-- reading on behind the states so far
abbrev pub invariant-loop : goal.invariant-loop
invariant-loop l = AreStates l.width l.nodes l.count l.fn.lines l.lines (l.count - l.counter) l.states.items
