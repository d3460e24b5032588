use Rattle.std.proofs.Common.{length}
use Rattle.answer_reader.proofs.StateLoops.{AreArcs}
use Rattle.answer_reader.proofs.state_loop.read_arcs.Given as goal

-- reading on behind the arcs so far
abbrev pub invariant-reading : goal.invariant-reading
invariant-reading l = AreArcs l.width l.nodes l.fn.lines l.lines l.arcs.items

abbrev pub decreases-reading : goal.decreases-reading
decreases-reading l = length l.lines.rest.now
