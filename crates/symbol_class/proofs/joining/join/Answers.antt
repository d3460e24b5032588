use Rattle.symbol_class.proofs.Times.{some_from_same}
use Rattle.symbol_class.proofs.joining.join.Goals as goal

pub returns-in-Ok-clause-columns : goal.returns-in-Ok-clause-columns
returns-in-Ok-clause-columns c column = some_from_same c.in-Ok.joined.items c.args.classes.now column
    (c.in-Ok.ensures.held column)
