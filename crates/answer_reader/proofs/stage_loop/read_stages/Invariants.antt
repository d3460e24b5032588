use Rattle.std.proofs.Common.{length}
use Rattle.answer_reader.proofs.StageLoops.{AreBehind}
use Rattle.answer_reader.proofs.stage_loop.read_stages.Given as goal

-- reading on behind the stages so far
abbrev pub invariant-reading : goal.invariant-reading
invariant-reading l = AreBehind l.shape l.columns l.fn.lines l.lines l.stages.items

abbrev pub decreases-reading : goal.decreases-reading
decreases-reading l = length l.lines.rest.now
