use Rattle.kind_moves.proofs.tests.agrees.Goals as goal

pub loop-place-init : goal.loop-place-init
loop-place-init c = (c.start-kind.ensures c.args.stage).fits
