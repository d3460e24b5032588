use Rattle.std.proofs.Common.{length}
use Rattle.tier_core.specs.Classes.{sets_of, has}
use Rattle.symbol_class.specs.Held.{some_has}
use Rattle.symbol_class.proofs.{SplitSteps.{is_inside, is_outside, one_side}, Times.{pieces-append, columns_added}}
use Rattle.symbol_class.proofs.parting.split.Goals as goal

pub returns-in-Ok-clause-pieces : goal.returns-in-Ok-clause-pieces
returns-in-Ok-clause-pieces c =
    let class = c.args.class.now in
    let tests = c.args.tests.now in
    pieces-append (length (sets_of class)) c.in-Ok.split.inside.items c.in-Ok.split.outside.items
    (is_inside class tests) (is_outside class tests) c.in-Ok.ensures.inside c.in-Ok.ensures.outside
    (λ column. one_side (has class column) (some_has tests column))

pub returns-in-Ok-clause-inside : goal.returns-in-Ok-clause-inside
returns-in-Ok-clause-inside c =
    columns_added (length (sets_of c.args.class.now)) c.in-Ok.split.inside.items
    (is_inside c.args.class.now c.args.tests.now) c.in-Ok.ensures.inside

pub returns-in-Ok-clause-outside : goal.returns-in-Ok-clause-outside
returns-in-Ok-clause-outside c =
    columns_added (length (sets_of c.args.class.now)) c.in-Ok.split.outside.items
    (is_outside c.args.class.now c.args.tests.now) c.in-Ok.ensures.outside
