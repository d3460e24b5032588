use Rattle.std.proofs.Common.{◌-◌}
use Rattle.answer_reader.proofs.StageLoops.{IsInStage}
use Rattle.answer_reader.proofs.stage_loop.read_nodes.Given as goal

abbrev pub invariant-loop : goal.invariant-loop
invariant-loop l = IsInStage l.shape l.columns l.stages l.count l.fn.lines l.lines (l.count - l.counter) l.nodes.items
