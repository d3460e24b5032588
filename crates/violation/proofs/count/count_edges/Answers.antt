use Rattle.std.proofs.Common.{◌≡◌, ◌+◌, sym, ap, ◌∙◌, arith}
use Rattle.tier_core.proofs.CountLemmas.{bit}
use Rattle.violation.specs.{Columns.edge_cost, Counts.so_far}
use Rattle.violation.proofs.{CountSteps.{edge_step, whole}, WholeCounts.so_far_none}
use Rattle.violation.proofs.count.count_edges.Goals.{then-is_counted_at, else-is_counted_at}
use Rattle.violation.proofs.count.count_edges.Goals as goal

pub loop-column-init : goal.loop-column-init
loop-column-init c = record {
  counted = sym (so_far_none c.args.family c.args.left.now c.args.right.now c.args.columns.now);
  few = omega arith;
}

-- a column adds what it decides
pub loop-column-preserved : goal.loop-column-preserved
loop-column-preserved c =
    let step : so_far c.args.family c.args.left.now c.args.right.now c.args.columns.now (c.loop-column.column-index + 1)
    ≡ so_far c.args.family c.args.left.now c.args.right.now c.args.columns.now c.loop-column.column-index + bit
    c.is_counted_at.result =
    edge_step c.args.family c.args.left.now c.args.right.now c.args.columns.now c.loop-column.column-index
    c.column-item.result
    c.requires.countable c.requires.edge c.loop-column-test.true c.column-item.is
    ∙ ap (λ b. so_far c.args.family c.args.left.now c.args.right.now c.args.columns.now c.loop-column.column-index +
    bit b)
    (ap (edge_cost c.args.family c.args.left.now c.args.right.now) (sym c.syms.ensures.value)
    ∙ sym c.is_counted_at.ensures) in
    elim c.if-is_counted_at.branch [
      | then-is_counted_at w ↦ let one : bit c.is_counted_at.result ≡ 1 = ap bit w.if-is_counted_at.true in
          record { counted = omega (arith, step, one, w.count-is); few = omega (arith, w.count-is) }
      | else-is_counted_at w ↦ let none : bit c.is_counted_at.result ≡ 0 = ap bit w.if-is_counted_at.false in
          record { counted = omega (arith, step, none, w.count-is); few = omega (arith, w.count-is) }
    ]

pub returns : goal.returns
returns c =
    c.loop-column.invariant.counted
    ∙ whole c.args.family c.args.left.now c.args.right.now c.args.columns.now c.loop-column.column-index
    c.requires.countable c.loop-column-test.false c.loop-column.auto.column-index-end
