use Rattle.std.proofs.Common.{◌∙◌}
use Rattle.cert_check.proofs.StageSteps.{right_stage, first_start}
use Rattle.cert_check.proofs.stage_check.check_start_potential.Goals as goal

pub returns-then-listed-count-clause-err : goal.returns-then-listed-count-clause-err
returns-then-listed-count-clause-err c =
    first_start _ _ c.requires.ready c.requires.stage c.requires.order c.requires.start c.requires.nodes _ _
    c.potential_at-listed.ensures.value c.start_count-count.ensures c.if-listed-count.true

pub returns-clause-ok : goal.returns-clause-ok
returns-clause-ok c =
    right_stage _ _ c.requires.ready c.requires.stage c.requires.order c.requires.start c.requires.nodes _
    c.potential_at-listed.ensures.value (c.if-listed-count.false ∙ c.start_count-count.ensures)
