use Rattle.stage_tables.proofs.TestedSteps.{some_fit, some_moved, some_costed, piece_of_some}
use Rattle.stage_tables.proofs.exploring.Exploring.told_move.Goals as goal

pub piece-piece-requires-clause-columns : goal.piece-piece-requires-clause-columns
piece-piece-requires-clause-columns c =
    let exploring = c.args.self.now in
    let found = c.requires.found.found in
    let reached = found.reached c.requires.over.0 c.args.kind.now c.args.state c.requires.over.1 in
    some_fit exploring c.args.kind.now c.args.tests.now c.requires.tests exploring.kept.now.states.items
    (c.requires.left c.requires.tests.0) c.args.state reached c.args.arc.now c.requires.arc c.args.class.now
    c.requires.part

pub piece-piece-requires-clause-moved : goal.piece-piece-requires-clause-moved
piece-piece-requires-clause-moved c =
    let exploring = c.args.self.now in
    let found = c.requires.found.found in
    let reached = found.reached c.requires.over.0 c.args.kind.now c.args.state c.requires.over.1 in
    some_moved exploring c.args.kind.now c.args.tests.now c.requires.tests exploring.kept.now.states.items
    (c.requires.left c.requires.tests.0) c.args.state reached c.args.arc.now c.requires.arc c.args.class.now
    c.requires.part c.requires.alike

pub piece-piece-requires-clause-costed : goal.piece-piece-requires-clause-costed
piece-piece-requires-clause-costed c =
    let exploring = c.args.self.now in
    let found = c.requires.found.found in
    let reached = found.reached c.requires.over.0 c.args.kind.now c.args.state c.requires.over.1 in
    some_costed exploring c.args.kind.now c.args.tests.now c.requires.tests exploring.kept.now.states.items
    (c.requires.left c.requires.tests.0) c.args.state reached c.args.arc.now c.requires.arc c.args.class.now
    c.requires.part c.requires.alike

pub new_move-requires-clause-piece : goal.new_move-requires-clause-piece
new_move-requires-clause-piece c = piece_of_some _ c.requires.tests.0 _ _ _ c.requires.part _
    c.piece-piece.ensures.class c.piece-piece.ensures.piece
