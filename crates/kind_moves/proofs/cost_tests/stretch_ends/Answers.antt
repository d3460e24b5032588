use Rattle.std.proofs.Common.{◌&&◌, ap, sym, ◌∙◌, arith}
use Rattle.tier_core.specs.{Classes.has, Sides.edge_among}
use Rattle.kind_moves.proofs.Answering.{is_left_ended}
use Rattle.kind_moves.proofs.cost_tests.stretch_ends.Goals as goal

pub returns-clause-columns : goal.returns-clause-columns
returns-clause-columns c column wide =
    c.outside.ensures.columns column (omega (arith, wide, c.narrowed_by.ensures.width, c.whole.ensures.width))
    ∙ is_left_ended (has c.narrowed_by.result column) (has c.whole.result column) c.args.left.now column
    (c.whole.ensures.columns column wide) (c.narrowed_by.ensures.columns column)
    ∙ ap (λ b. b && edge_among c.args.left.now column) (sym c.if-not-is_unmet.false)
