use Rattle.cert_check.proofs.Subjects.{tell_same, told_read}
use Rattle.cert_check.proofs.find.find_near.Goals as goal

pub near-requires-clause-ascending : goal.near-requires-clause-ascending
near-requires-clause-ascending c =
    rw ((told_read c.args.subject.now c.requires.ready c.args.stage c.requires.stage c.as_slice-nodes.result.now
    c.index.result.now c.as_slice-nodes.ensures.value c.index.ensures)) c.requires.ascends

pub returns-in-Some : goal.returns-in-Some
returns-in-Some c =
    let s = c.args.subject.now in
    rw (tell_same s c.requires.ready c.args.stage c.requires.stage c.args.kind.now) at (rw (told_read s c.requires.ready
    c.args.stage c.requires.stage c.as_slice-nodes.result.now c.index.result.now c.as_slice-nodes.ensures.value
    c.index.ensures) at c.in-Some.ensures)
