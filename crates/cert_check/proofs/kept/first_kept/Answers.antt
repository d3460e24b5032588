use Rattle.cert_check.proofs.KeptSteps.{kept_by, first_kept}
use Rattle.cert_check.proofs.kept.first_kept.Goals as goal

pub returns : goal.returns
returns c =
    kept_by _ _ _ _ _ _ c.in_ok-parts.ensures.pieces (first_kept _ _ 0 _ _ c.in_ok-parts.ensures)
    (rw c.new-kept.ensures.items at (rw c.deref.ensures.value at c.in_ok-push_each.ensures))
