use Rattle.std.proofs.{Common.{◌≡◌, ◌+◌, ◌&&◌, ◌||◌, not, true, List, sym, ap, ◌∙◌, arith}, lemmas.Bool.false≢true}
use Rattle.std.specs.List.{list_all, list_any}
use Rattle.tier_core.specs.{declared.constraint.Family.TheVariants.Implication, declared.sym.Sym.Sym}
use Rattle.tier_core.specs.Sides.{edge_among}
use Rattle.tier_core.proofs.CountLemmas.{bit}
use Rattle.violation.specs.{Columns.{opens_all, opens_interior, is_present}, Counts.{so_far, is_met}}
use Rattle.violation.proofs.CountSteps.{stretch_step, open_step, open_none, met_step, whole, unmet_test}
use Rattle.violation.proofs.{InteriorSteps.open_before, OpenSteps.stretch, WholeCounts.so_far_none}
use Rattle.violation.proofs.count.count_stretches.Goals.{then-ends_unmet, else-ends_unmet}
use Rattle.violation.proofs.count.count_stretches.Goals as goal

pub loop-column-init : goal.loop-column-init
loop-column-init c = record {
  counted = sym (so_far_none Implication c.args.left.now c.args.right.now c.args.columns.now);
  few = omega arith;
  opened = sym (open_none c.args.left.now c.args.columns.now c.requires.countable.some_left);
  met = λ h. absurd (false≢true (sym (open_none c.args.left.now c.args.columns.now c.requires.countable.some_left)
      ∙ h));
}

-- a column adds the stretch that it ends, where no right event met it
pub loop-column-preserved : goal.loop-column-preserved
loop-column-preserved c =
    let left = c.args.left.now in
    let right = c.args.right.now in
    let T = c.args.columns.now in
    let k = c.loop-column.column-index in
    let same : c.syms-syms.result.now ≡ c.column-item.result = c.syms-syms.ensures.value in
    let edge : c.has_edge_among-edge.result ≡ edge_among left c.column-item.result = c.has_edge_among-edge.ensures
    ∙ ap (edge_among left) same in
    let step : so_far Implication left right T (k + 1) ≡ so_far Implication left right T k + bit c.ends_unmet.result =
    stretch_step left right T k c.column-item.result c.requires.countable c.requires.interiors c.loop-column-test.true
    c.column-item.is
    ∙ ap (λ b. so_far Implication left right T k + bit b)
    (unmet_test (list_all (open_before T k) left) (edge_among left c.column-item.result)
    (is_met T right (stretch T left k))
    c.loop-column.is_open c.has_edge_among-edge.result c.loop-column.is_met c.loop-column.invariant.opened edge
    c.loop-column.invariant.met
    ∙ sym c.ends_unmet.ensures) in
    let opened : c.opens_each-is_open.result ≡ list_all (open_before T (k + 1)) left =
    c.opens_each-is_open.ensures ∙ ap (opens_all left) same
    ∙ sym (open_step left c.requires.countable.width T k c.column-item.result c.requires.countable.well_formed
    c.loop-column-test.true c.column-item.is) in
    let met : list_all (open_before T (k + 1)) left ≡ true
    → c.is_met_after-is_met.result ≡ is_met T right (stretch T left (k + 1)) =
    λ h.
    c.is_met_after-is_met.ensures
    ∙ ap (λ (b : List Sym). list_any (opens_interior b) right ||
    (not c.has_edge_among-edge.result && (c.loop-column.is_met || list_any (is_present b) right))) same
    ∙ ap (λ b. list_any (opens_interior c.column-item.result) right ||
    (not b && (c.loop-column.is_met || list_any (is_present c.column-item.result) right))) edge
    ∙ met_step left right T k c.column-item.result c.loop-column.is_met c.requires.countable c.loop-column-test.true
    c.column-item.is c.loop-column.invariant.met
    (sym (open_step left c.requires.countable.width T k c.column-item.result c.requires.countable.well_formed
    c.loop-column-test.true c.column-item.is) ∙ h) in
    elim c.if-ends_unmet.branch [
      | then-ends_unmet w ↦ let one : bit c.ends_unmet.result ≡ 1 = ap bit w.if-ends_unmet.true in
          record {
            counted = omega (arith, step, one, w.count-is);
            few = omega (arith, w.count-is);
            opened = opened;
            met = met;
          }
      | else-ends_unmet w ↦ let none : bit c.ends_unmet.result ≡ 0 = ap bit w.if-ends_unmet.false in
          record {
            counted = omega (arith, step, none, w.count-is);
            few = omega (arith, w.count-is);
            opened = opened;
            met = met;
          }
    ]

pub returns : goal.returns
returns c =
    c.loop-column.invariant.counted
    ∙ whole Implication c.args.left.now c.args.right.now c.args.columns.now c.loop-column.column-index
    c.requires.countable c.loop-column-test.false c.loop-column.auto.column-index-end
