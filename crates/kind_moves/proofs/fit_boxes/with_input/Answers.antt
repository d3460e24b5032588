use Rattle.std.proofs.Common.{sym, ◌∙◌, arith}
use Rattle.tier_core.specs.Classes.{has}
use Rattle.violation.proofs.InputParts.{reads_more, reads_same, reads_none}
use Rattle.kind_moves.proofs.fit_boxes.with_input.Goals.{then-is_input+else-next-form, else-is_input}
use Rattle.kind_moves.proofs.fit_boxes.with_input.Goals as goal

pub loop-tier-preserved : goal.loop-tier-preserved
loop-tier-preserved c =
    let kinds = c.args.kinds.now in
    let form = c.args.form.now in
    let tier = c.loop-tier.tier in
    let next = c.loop-tier.next in
    elim c.if-is_input.branch [
      | then-is_input+else-next-form w ↦ rw (w.rest-is, w.next-is) (record {
        width = w.restrict-rest.ensures.width ∙ c.loop-tier.invariant.width;
        within = omega (arith, c.loop-tier.invariant.within, w.if-next-form.false);
        columns = λ column. reads_more (has w.restrict-rest.result column)
            (has c.loop-tier.rest column) kinds column form tier next w.single_set.result _ c.loop-tier-test.true
            (sym c.is_input.ensures ∙ w.if-is_input.true)
            (omega (arith, c.loop-tier.invariant.within, w.if-next-form.false)) w.single_set.ensures.value
            (w.restrict-rest.ensures.columns column) (c.loop-tier.invariant.columns column);
      })
      | else-is_input w ↦ rw (w.rest-is, w.next-is) (record {
        width = c.loop-tier.invariant.width;
        within = c.loop-tier.invariant.within;
        columns = λ column. reads_same
            (has c.loop-tier.rest column) kinds column form tier next _ c.loop-tier-test.true (sym c.is_input.ensures
            ∙ w.if-is_input.false)
            (c.loop-tier.invariant.columns column);
      })
    ]

pub returns-then-next-form-2-clause-columns : goal.returns-then-next-form-2-clause-columns
returns-then-next-form-2-clause-columns c column =
    reads_none (has c.nothing-then-next-form-2.result column)
    (has c.loop-tier.rest column) c.args.kinds.now column c.args.form.now c.loop-tier.tier c.loop-tier.next
    c.loop-tier-test.false c.if-next-form-2.true (c.nothing-then-next-form-2.ensures.columns column)
    (c.loop-tier.invariant.columns column)
