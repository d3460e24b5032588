use Rattle.std.proofs.Common.{◌≡◌, ◌∙◌, ap, sym, true, false}
use Rattle.tier_core.specs.{Timelines.symbol, Words.ends}
use Rattle.definition_tests.proofs.WordSteps.{end_here, end_later, end_none}
use Rattle.definition_tests.proofs.events.next_end.Goals as goal

pub returns-then-ends-clause-value : goal.returns-then-ends-clause-value
returns-then-ends-clause-value c =
    let here : ends (symbol c.index-columns-place.result c.args.tier) ≡ true = ap ends (sym c.sym.ensures)
    ∙ sym c.ends.ensures ∙ c.if-ends.true in
    sym (c.loop-place.invariant
    ∙ end_here c.args.columns.now c.args.tier c.loop-place.place c.index-columns-place.result
    c.loop-place-test.true c.index-columns-place.is here)

pub loop-place-preserved : goal.loop-place-preserved
loop-place-preserved c =
    let later : ends (symbol c.index-columns-place.result c.args.tier) ≡ false = ap ends (sym c.sym.ensures)
    ∙ sym c.ends.ensures ∙ c.if-ends.false in
    c.loop-place.invariant
    ∙ end_later c.args.columns.now c.args.tier c.loop-place.place c.index-columns-place.result
    c.loop-place-test.true c.index-columns-place.is later

pub returns-clause-value : goal.returns-clause-value
returns-clause-value c = sym (c.loop-place.invariant
    ∙ end_none c.args.columns.now c.args.tier c.loop-place.place c.loop-place-test.false)
