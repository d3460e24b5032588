use Rattle.std.proofs.{Common.{sym, ap}, lemmas.Result.on_ok_weaker}
use Rattle.symbol_class.specs.{Held.once_if, Parts.differs}
use Rattle.stage_tables.proofs.WeighedMoves.{whole_weighed}
use Rattle.stage_tables.proofs.weighing.push_weighed.Goals as goal

pub returns-in-Nothing : goal.returns-in-Nothing
returns-in-Nothing c =
    on_ok_weaker c.push_moves.result
    (whole_weighed (λ column. once_if (differs c.args.test.now column)) c.args.arc.now 0 c.args.moves.now.items
    c.push_moves.new.moves.items c.requires.filled
    (λ column held. sym (ap once_if (c.share_of.ensures.nothing c.in-Nothing.is column held))))
    c.push_moves.ensures

pub returns-in-Everything : goal.returns-in-Everything
returns-in-Everything c =
    on_ok_weaker c.push_moves-in-Everything.result
    (whole_weighed (λ column. once_if (differs c.args.test.now column)) c.args.arc.now 1 c.args.moves.now.items
    c.push_moves-in-Everything.new.moves.items c.requires.filled
    (λ column held. sym (ap once_if (c.share_of.ensures.everything c.in-Everything.is column held))))
    c.push_moves-in-Everything.ensures
