use Rattle.std.proofs.{Common.{sym, ◌∙◌}, lemmas.Bool.{not-true, not-false}}
use Rattle.tier_core.specs.Filled.{is_filled}
use Rattle.kind_moves.proofs.FittingSteps.{rest_of_none, rest_apart}
use Rattle.kind_moves.proofs.fitting.push_rest.Goals as goal

pub returns-then-is_empty : goal.returns-then-is_empty
returns-then-is_empty c =
    rest_of_none c.args.pieces.now.items c.args.a.now c.args.b.now
    (not-true (is_filled c.args.a.now) (sym c.is_empty.ensures.sets ∙ c.if-is_empty.true))

pub returns-then-is_empty-2 : goal.returns-then-is_empty-2
returns-then-is_empty-2 c =
    rest_apart c.args.pieces.now.items c.push.new.self.items c.args.a.now c.args.b.now c.meet.result
    (not-false (is_filled c.args.a.now) (sym c.is_empty.ensures.sets ∙ c.if-is_empty.false))
    (not-true (is_filled c.meet.result) (sym c.is_empty-2.ensures.sets ∙ c.if-is_empty-2.true))
    c.meet.ensures.columns c.in_ok-push.ensures.items
