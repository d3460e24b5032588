use Rattle.std.proofs.Common.{ap, sym, ◌∙◌, drop, ◌+◌}
use Rattle.tier_core.specs.Timelines.{tier_word}
use Rattle.tier_core.proofs.WordLemmas.{runs}
use Rattle.timeline_text.proofs.TierSteps.{symbol_fits, symbol_unfit, no_more, well_formed_where}
use Rattle.timeline_text.proofs.tiers.is_well_formed_on.Goals as goal

pub loop-column-preserved : goal.loop-column-preserved
loop-column-preserved c = c.loop-column.invariant
    ∙ symbol_fits c.columns-column-items.result.now c.loop-column.column-index c.args.tier c.loop-column.is_open
    c.column-item.result c.sym-sym.result c.loop-column-test.true c.column-item.is c.sym-sym.ensures (cc)
    ∙ ap (λ b. runs b (tier_word (drop (c.loop-column.column-index + 1) c.columns-column-items.result.now) c.args.tier))
    (sym c.is_open_after-is_open.ensures)

pub returns-then-not-may_come : goal.returns-then-not-may_come
returns-then-not-may_come c = well_formed_where _ _
    (ap (λ T. runs _ (tier_word T c.args.tier)) (sym c.columns-column-items.ensures) ∙ c.loop-column.invariant
    ∙ symbol_unfit c.columns-column-items.result.now c.loop-column.column-index c.args.tier c.loop-column.is_open
    c.column-item.result c.sym-sym.result c.loop-column-test.true c.column-item.is c.sym-sym.ensures (cc))

pub returns : goal.returns
returns c = well_formed_where _ _ (ap (λ T. runs _ (tier_word T c.args.tier)) (sym c.columns-column-items.ensures)
    ∙ c.loop-column.invariant
    ∙ no_more c.columns-column-items.result.now c.loop-column.column-index c.args.tier c.loop-column.is_open
    c.loop-column-test.false)
