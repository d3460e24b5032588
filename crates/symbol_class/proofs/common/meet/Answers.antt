use Rattle.std.proofs.Common.{arith}
use Rattle.tier_core.specs.Classes.{sets_of}
use Rattle.symbol_class.proofs.SetLists.{have_both}
use Rattle.symbol_class.proofs.common.meet.Goals as goal

pub returns-clause-columns : goal.returns-clause-columns
returns-clause-columns c column =
    have_both (sets_of c.args.a.now) (sets_of c.args.b.now) (sets_of c.meet.result) column (omega arith) (omega arith)
    (λ t inside. c.meet.ensures.sets t (omega arith))
