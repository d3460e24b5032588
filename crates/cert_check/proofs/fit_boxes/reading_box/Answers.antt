use Rattle.std.proofs.Common.{◌≡◌, ℕ, cond, length, ap, sym, ◌∙◌, arith}
use Rattle.tier_core.specs.{Classes.has, declared.tier.TierKind.TheVariants.Input}
use Rattle.violation.proofs.InputParts.{reads_more, reads_same, reads_all}
use Rattle.cert_check.specs.Opens.{inputs_before}
use Rattle.cert_check.proofs.Opens.{inputs_more, inputs_in, all_inputs}
use Rattle.cert_check.proofs.fit_boxes.reading_box.Goals.{then-is_input, else-is_input}
use Rattle.cert_check.proofs.fit_boxes.reading_box.Goals as goal

pub bounds-form-next : goal.bounds-form-next
bounds-form-next c =
    let kinds = c.args.kinds.now in
    let here = sym c.is_input.ensures ∙ c.if-is_input.true in
    omega (
      arith,
      c.loop-tier.invariant.count,
      inputs_in _ c.loop-tier.tier c.loop-tier-test.true here,
      all_inputs kinds,
      c.requires.form,
    )

pub overflow_add-next : goal.overflow_add-next
overflow_add-next c = omega (arith, c.loop-tier.invariant.few, c.loop-tier-test.true, c.requires.few)

pub loop-tier-preserved : goal.loop-tier-preserved
loop-tier-preserved c =
    let kinds = c.args.kinds.now in
    let form = c.args.form.now in
    let tier = c.loop-tier.tier in
    let next = c.loop-tier.next in
    let step =
    inputs_more kinds tier c.loop-tier-test.true in
    elim c.if-is_input.branch [
      | then-is_input w ↦
          let is = sym c.is_input.ensures ∙ w.if-is_input.true in
          rw (w.class-is, w.next-is) (record {
            width = w.restrict-class.ensures.width ∙ c.loop-tier.invariant.width;
            count = omega (arith, c.loop-tier.invariant.count, step, ap {B = ℕ} (λ b. cond b 1 0) is);
            few = omega (arith, c.loop-tier.invariant.few);
            columns = λ column l. reads_more (has w.restrict-class.result column) (has c.loop-tier.class column) kinds
                column form tier next w.single_set.result Input c.loop-tier-test.true is
                (omega (
                  arith,
                  c.loop-tier.invariant.count,
                  inputs_in kinds tier c.loop-tier-test.true is,
                  all_inputs kinds,
                  c.requires.form,
                ))
                w.single_set.ensures.value (w.restrict-class.ensures.columns column)
                (c.loop-tier.invariant.columns column l);
          })
      | else-is_input w ↦
          let is = sym c.is_input.ensures ∙ w.if-is_input.false in
          rw (w.class-is, w.next-is) (record {
            width = c.loop-tier.invariant.width;
            count = omega (arith, c.loop-tier.invariant.count, step, ap {B = ℕ} (λ b. cond b 1 0) is);
            few = omega (arith, c.loop-tier.invariant.few);
            columns = λ column l. reads_same (has c.loop-tier.class column) kinds column form tier next Input
                c.loop-tier-test.true is (c.loop-tier.invariant.columns column l);
          })
    ]

pub returns-clause-columns : goal.returns-clause-columns
returns-clause-columns c column l =
    let kinds = c.args.kinds.now in
    reads_all _ _ _ c.args.form.now c.loop-tier.tier c.loop-tier.next c.loop-tier-test.false (omega (
      arith,
      c.loop-tier.invariant.count,
      c.requires.form,
      c.loop-tier-test.false,
      c.loop-tier.auto.tier-end,
      ap (λ (n : ℕ). inputs_before kinds n) (let e : c.loop-tier.tier ≡ length kinds = omega
          (arith, c.loop-tier-test.false, c.loop-tier.auto.tier-end) in e),
    ))
    (c.loop-tier.invariant.columns column l)
