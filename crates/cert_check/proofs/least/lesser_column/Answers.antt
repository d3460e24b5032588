use Rattle.std.proofs.Common.{sym, ap, ◌∙◌}
use Rattle.std.specs.Ordering.{is_gt}
use Rattle.cert_check.proofs.LeastColumns.{first_lesser, second_lesser}
use Rattle.cert_check.proofs.least.lesser_column.Goals as goal

pub returns-then-is_gt : goal.returns-then-is_gt
returns-then-is_gt c = second_lesser _ _ (sym (ap is_gt c.column_cmp.ensures) ∙ sym c.is_gt.ensures ∙ c.if-is_gt.true)

pub returns-else-is_gt : goal.returns-else-is_gt
returns-else-is_gt c = first_lesser _ _ (sym (ap is_gt c.column_cmp.ensures) ∙ sym c.is_gt.ensures ∙ c.if-is_gt.false)
