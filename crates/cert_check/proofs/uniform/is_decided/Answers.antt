use Rattle.cert_check.proofs.UniformSteps.{decided_by}
use Rattle.cert_check.proofs.uniform.is_decided.Goals as goal

pub returns-in-Nothing : goal.returns-in-Nothing
returns-in-Nothing c h =
    decided_by c.args.class.now c.args.test.now c.inside.result _ c.inside.ensures.columns
    (c.share_of.ensures.nothing c.in-Nothing.is)

pub returns-in-Everything : goal.returns-in-Everything
returns-in-Everything c h =
    decided_by c.args.class.now c.args.test.now c.inside.result _ c.inside.ensures.columns
    (c.share_of.ensures.everything c.in-Everything.is)
