use Rattle.std.proofs.Common.{◌∙◌}
use Rattle.kind_moves.proofs.frame.Frame.piece.Goals as goal

pub returns-clause-piece : goal.returns-clause-piece
returns-clause-piece c =
    let class = c.args.class.now in
    let held = c.least_column-least.ensures.held c.requires.filled in
    record {
      moves = λ column h. record {
        column_fits = c.requires.columns column h;
        leads = c.in-Some.ensures.leads ∙ c.requires.moved c.least_column-least.result column held h;
        next_fits = c.in-Some.ensures.next_fits;
      };
      costs = λ column h. c.cost_or_none-cost.ensures ∙ c.requires.costed c.least_column-least.result column held h;
    }
