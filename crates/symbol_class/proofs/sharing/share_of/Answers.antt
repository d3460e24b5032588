use Rattle.std.proofs.{Common.{sym, ◌∙◌}, lemmas.Bool.{not-true, not-false, eqb-true}}
use Rattle.tier_core.specs.Filled.{is_filled}
use Rattle.symbol_class.proofs.PartSteps.{shares_none, shares_all}
use Rattle.symbol_class.proofs.sharing.share_of.Goals as goal

pub returns-then-is_empty-clause-nothing : goal.returns-then-is_empty-clause-nothing
returns-then-is_empty-clause-nothing c _ =
    shares_none c.args.class.now c.args.test.now c.meet-inside.result c.meet-inside.ensures.columns
    (not-true (is_filled c.meet-inside.result) (sym c.is_empty.ensures.sets ∙ c.if-is_empty.true))

pub returns-clause-everything : goal.returns-clause-everything
returns-clause-everything c _ =
    shares_all c.args.class.now c.args.test.now c.meet-inside.result c.meet-both.result
    c.meet-inside.ensures.columns c.meet-both.ensures.columns
    (eqb-true c.meet-inside.result.word c.args.class.now.word (not-false _ (sym c.ne.ensures ∙ c.if-ne.false)))
    (not-true (is_filled c.meet-both.result) (sym c.is_empty-2.ensures.sets ∙ c.if-not-is_empty.false))
