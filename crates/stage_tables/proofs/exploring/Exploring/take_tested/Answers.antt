use Rattle.std.proofs.Common.{not, ap, ◌∙◌, arith}
use Rattle.stage_tables.proofs.{AtHand.taken_alone, LeftBefore.move_filled}
use Rattle.stage_tables.proofs.exploring.Exploring.take_tested.Goals as goal

pub returns-clause-adds : goal.returns-clause-adds
returns-clause-adds c = rw (c.push.ensures.items, c.is_err.ensures.negation ∙ ap not c.if-is_err.false)
    (taken_alone _ _ _ _ _ _ c.in-Some.ensures.taken c.in-Some.ensures.class)

pub move_at_hand-requires-clause-part : goal.move_at_hand-requires-clause-part
move_at_hand-requires-clause-part c =
    let exploring = c.args.self.now in
    let found = c.requires.found.found in
    let reached = found.reached c.requires.over.0 c.args.kind.now c.args.state c.requires.over.1 in
    let are = c.requires.tests in
    record {
      within = λ column h. h;
      filled = move_filled exploring.frame.now exploring.before exploring.stage (omega (arith, are.0)) exploring.within
          _ (c.requires.left are.0) _ _ reached _ c.requires.arc;
      wide = exploring.wide c.args.state c.args.arc.now c.requires.arc;
    }
