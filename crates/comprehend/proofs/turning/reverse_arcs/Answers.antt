use Rattle.comprehend.proofs.Turned.{turned_all}
use Rattle.comprehend.proofs.turning.reverse_arcs.Goals as goal

pub returns : goal.returns
returns c = turned_all c.args.states.now c.loop-source.source c.loop-source-test.false c.loop-source.into.items
    c.loop-source.invariant
