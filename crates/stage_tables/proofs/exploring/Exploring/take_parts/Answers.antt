use Rattle.std.proofs.Common.{arith}
use Rattle.stage_tables.proofs.LeftBefore.{move_filled}
use Rattle.stage_tables.proofs.exploring.Exploring.take_parts.Goals as goal

pub last_parts-requires-clause-width : goal.last_parts-requires-clause-width
last_parts-requires-clause-width c = c.args.self.now.wide c.args.state c.args.arc.now c.requires.arc

pub last_parts-requires-clause-filled : goal.last_parts-requires-clause-filled
last_parts-requires-clause-filled c =
    let exploring = c.args.self.now in
    let found = c.requires.found.found in
    let reached = found.reached c.requires.over.0 c.args.kind.now c.args.state c.requires.over.1 in
    let are = c.requires.tests in
    move_filled exploring.frame.now exploring.before exploring.stage (omega (arith, are.0)) exploring.within _
    (c.requires.left are.0) _ _ reached _ c.requires.arc
