use Rattle.std.proofs.Common.{sym, ◌∙◌}
use Rattle.tier_core.specs.Classes.{sets_of}
use Rattle.tier_core.proofs.SetLemmas.{other_width}
use Rattle.tier_core.proofs.class.Class.has.Goals as goal

pub returns-then-width : goal.returns-then-width
returns-then-width c =
    sym (other_width (sets_of c.args.self.now) c.args.column.now
    (λ e. c.if-width.true (c.width.ensures.value ∙ sym e ∙ sym c.width-2.ensures.value)))
