use Rattle.kind_moves.proofs.tests.cost_along.Goals as goal

pub loop-column-init : goal.loop-column-init
loop-column-init c = (c.start-kind.ensures c.args.constraint).fits
