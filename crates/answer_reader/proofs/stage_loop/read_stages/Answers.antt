use Rattle.std.proofs.Common.{subst, sym}
use Rattle.answer_reader.proofs.StageLoops.{AreBehind, one_behind}
use Rattle.answer_reader.proofs.stage_loop.read_stages.Goals as goal

pub reading-preserved : goal.reading-preserved
reading-preserved c =
    subst (AreBehind c.args.shape.now c.args.columns c.args.lines.now c.read_stage.new.lines)
    (sym c.in_ok-push.ensures.items)
    (one_behind c.args.shape.now c.args.columns c.args.lines.now c.reading.lines c.read_stage.new.lines
    c.reading.stages.items c.in_ok-stage.stage c.reading.invariant
    (rw c.deref-in-reading.ensures.value at c.in_ok-stage.ensures.goes_on)
    (rw c.deref-in-reading.ensures.value at c.in_ok-stage.ensures.readable)
    (rw c.deref-in-reading.ensures.value at c.in_ok-stage.ensures.there))
