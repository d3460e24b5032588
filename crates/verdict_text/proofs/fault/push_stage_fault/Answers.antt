use Rattle.std.proofs.Common.{ap, sym}
use Rattle.outside.proofs.Writing.{pushes_as}
use Rattle.answer_text.specs.Shape.{widths_of}
use Rattle.verdict_text.specs.VerdictText.{fault_text}
use Rattle.verdict_text.proofs.fault.push_stage_fault.Goals as goal

pub returns-in-StartPotential : goal.returns-in-StartPotential
returns-in-StartPotential g c =
    pushes_as (ap (fault_text (widths_of c.args.shape.now)) (sym c.in-StartPotential.is))
    c.push_numbered-in-StartPotential.ensures
