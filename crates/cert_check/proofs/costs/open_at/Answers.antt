use Rattle.std.proofs.Common.{arith}
use Rattle.cert_check.proofs.Subjects.{form_wide}
use Rattle.cert_check.proofs.costs.open_at.Goals as goal

pub open_tiers-requires-clause-wide : goal.open_tiers-requires-clause-wide
open_tiers-requires-clause-wide c =
    let s = c.args.subject.now in
    rw c.as_slice.ensures.value (form_wide s c.requires.ready 0 (omega arith))

pub returns : goal.returns
returns c = rw c.as_slice.ensures.value at c.open_tiers.ensures
