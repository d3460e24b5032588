use Rattle.cert_check.proofs.Subjects.{cut_fits, nodes_read, number_fits}
use Rattle.cert_check.proofs.ground.hints_of.Goals as goal

pub find_kind-requires-clause-fits : goal.find_kind-requires-clause-fits
find_kind-requires-clause-fits c =
    let s = c.args.subject.now in
    let read = nodes_read s c.requires.ready _ c.requires.stage _ _ c.as_slice-nodes.ensures.value c.index.ensures in
    let fits = number_fits s c.requires.ready _ c.requires.stage c.as_slice-nodes.result.now c.loop-number.number
    c.index-nodes-number.result read c.loop-number-test.true in
    cut_fits s c.requires.ready _ c.requires.stage _ c.cut_to-cut.result _
    c.requires.some c.index-in-loop-number.ensures fits c.cut_to-cut.ensures.opened
    c.cut_to-cut.ensures.stretches
