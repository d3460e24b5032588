use Rattle.std.proofs.{Common.◌∙◌, lemmas.Result.err_from_is_err_and}
use Rattle.answer_reader.proofs.{Going.fails_from, StageLoops.{FromHere, stage_limit, stage_read, stage_refused}}
use Rattle.answer_reader.proofs.stage_loop.read_stage.Goals as goal

pub returns-in_err-count-clause-goes_on : goal.returns-in_err-count-clause-goes_on
returns-in_err-count-clause-goes_on c =
    let p = err_from_is_err_and c.from_residual.result c.from_residual.ensures.1 in
    rw (p.1, p.2) (stage_refused c.args.shape.now c.args.columns c.args.stages.now c.args.lines.now
    c.read_stage_line.new.lines c.in_err-count.field-0.0 c.requires.other
    (rw (stage_limit c.args.shape.now c.len.result c.len.ensures) at c.in_err-count.ensures.takes))

pub returns-in_err-nodes-clause-goes_on : goal.returns-in_err-nodes-clause-goes_on
returns-in_err-nodes-clause-goes_on c =
    let p = err_from_is_err_and c.from_residual-in_err-nodes.result c.from_residual-in_err-nodes.ensures.1 in
    rw (p.1, p.2) (fails_from c.in_err-nodes.field-0.0
    (FromHere c.args.shape.now c.args.columns c.args.stages.now c.args.lines.now) _
    (stage_read c.args.shape.now c.args.columns c.args.stages.now c.args.lines.now c.read_stage_line.new.lines
    c.in_ok-count.count c.requires.other
    (rw (stage_limit c.args.shape.now c.len.result c.len.ensures) at c.in_ok-count.ensures.takes))
    c.in_err-nodes.ensures.goes_on)

pub returns-clause-goes_on : goal.returns-clause-goes_on
returns-clause-goes_on c =
    stage_read c.args.shape.now c.args.columns c.args.stages.now c.args.lines.now c.read_stage_line.new.lines
    c.in_ok-count.count c.requires.other
    (rw (stage_limit c.args.shape.now c.len.result c.len.ensures) at c.in_ok-count.ensures.takes)
    ∙ c.in_ok-nodes.ensures.goes_on
