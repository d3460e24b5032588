use Rattle.std.proofs.Common.{ap, sym, ◌∙◌}
use Rattle.tier_core.specs.Classes.{has}
use Rattle.violation.specs.Columns.{edge_cost}
use Rattle.kind_moves.proofs.Answering.{are_missing}
use Rattle.kind_moves.proofs.cost_tests.counted_at.Goals as goal

pub returns-in-Implication-clause-columns : goal.returns-in-Implication-clause-columns
returns-in-Implication-clause-columns c column wide =
    c.inside-in-Implication.ensures.columns column
    ∙ are_missing (has c.narrowed_by-present.result column) (has c.narrowed_by-in-Implication.result column)
    (has c.whole.result column) c.args.left.now c.args.right.now column
    (c.whole.ensures.columns column wide) (c.narrowed_by-present.ensures.columns column)
    (c.narrowed_by-in-Implication.ensures.columns column)
    ∙ ap (λ family. edge_cost family c.args.left.now c.args.right.now column) (sym c.in-Implication.is)
