use Rattle.std.proofs.Common.{sym, ◌∙◌}
use Rattle.answer_reader.proofs.Timelines.{timeline_for, no_timeline, other_cause}
use Rattle.answer_reader.proofs.timeline_line.timeline_of.Goals as goal

pub returns-in-Ok-clause-ok : goal.returns-in-Ok-clause-ok
returns-in-Ok-clause-ok c = sym (timeline_for _ _ _ _ c.in-Ok.ensures.ok)

pub returns-else-is_no_memory-clause-ok : goal.returns-else-is_no_memory-clause-ok
returns-else-is_no_memory-clause-ok c = sym
    (no_timeline _ _ _ _ (c.in-Err.ensures.err (other_cause _ (sym c.is_no_memory.ensures ∙ c.if-is_no_memory.false))))
