use Rattle.std.proofs.Common.{◌↔◌, List, IsTrue, sym, ◌∙◌, subst}
use Rattle.tier_core.specs.{declared.class.Class.Class, Classes.has}
use Rattle.symbol_class.specs.Held.{some_has}
use Rattle.kind_moves.specs.{Frames.FitsAt, Pieces.cost_under}
use Rattle.kind_moves.proofs.PieceSteps.{fitting_parts}
use Rattle.kind_moves.proofs.frame.Frame.pieces.Goals as goal

pub returns-in-Ok-clause-columns : goal.returns-in-Ok-clause-columns
returns-in-Ok-clause-columns c column =
    let frame = c.args.self.now in
    let kind = c.args.kind.now in
    let fitting = fitting_parts frame c.args.stage kind c.args.class.now
    (cost_under frame c.args.stage c.args.constraint kind) c.in_ok-moved.moved.items c.in_ok-costed.costed.items
    c.in_ok-moved.ensures.fitting c.in_ok-costed.ensures in
    subst (λ (xs : List Class). IsTrue (some_has xs column) ↔ (IsTrue (has c.args.class.now column)
    × FitsAt frame c.args.stage kind column))
    (sym (c.in-Ok.ensures.classes ∙ c.deref.ensures.value)) (fitting.columns column)
