use Rattle.std.proofs.Common.{◌≡◌, ◌+◌, ◌++◌, ◌&&◌, ◌||◌, List, sym, ap, ◌∙◌, arith}
use Rattle.std.proofs.lemmas.List.Folds.{list_all-append}
use Rattle.std.specs.List.{list_all}
use Rattle.tier_core.specs.{declared.constraint.Family.TheVariants.Clash, declared.sym.Sym.Sym, Scan.opens}
use Rattle.tier_core.specs.{Timelines.symbol, Sides.edge_among}
use Rattle.tier_core.proofs.CountLemmas.{bit}
use Rattle.violation.specs.{Columns.opens_all, Counts.so_far}
use Rattle.violation.proofs.CountSteps.{clash_step, open_step, open_none, whole, some_both}
use Rattle.violation.proofs.{InteriorSteps.open_before, WholeCounts.so_far_none}
use Rattle.violation.proofs.count.count_overlaps.Goals.{then-ends_overlap, else-ends_overlap}
use Rattle.violation.proofs.count.count_overlaps.Goals as goal

pub loop-column-init : goal.loop-column-init
loop-column-init c = record {
  counted = sym (so_far_none Clash c.args.left.now c.args.right.now c.args.columns.now);
  few = omega arith;
  opened = sym (open_none (c.args.left.now ++ c.args.right.now) c.args.columns.now
      (some_both c.args.left.now c.args.right.now c.requires.countable.some_left));
}

-- a column adds the overlap that it ends
pub loop-column-preserved : goal.loop-column-preserved
loop-column-preserved c =
    let left = c.args.left.now in
    let right = c.args.right.now in
    let T = c.args.columns.now in
    let k = c.loop-column.column-index in
    let same : c.syms-syms.result.now ≡ c.column-item.result = c.syms-syms.ensures.value in
    let step : so_far Clash left right T (k + 1) ≡ so_far Clash left right T k + bit c.ends_overlap.result =
    clash_step left right T k c.column-item.result c.requires.countable c.requires.interiors c.loop-column-test.true
    c.column-item.is
    ∙ ap (λ b. so_far Clash left right T k + bit
    (b && (edge_among left c.column-item.result || edge_among right c.column-item.result)))
    (sym c.loop-column.invariant.opened)
    ∙ ap (λ (b : List Sym). so_far Clash left right T k + bit
    (c.loop-column.is_open && (edge_among left b || edge_among right b))) (sym same)
    ∙ ap (λ b. so_far Clash left right T k + bit b) (sym c.ends_overlap.ensures) in
    let opened : c.opens_both-is_open.result ≡ list_all (open_before T (k + 1)) (left ++ right) =
    c.opens_both-is_open.ensures ∙ sym (list_all-append (λ e. opens (symbol c.syms-syms.result.now e.tier)) left right)
    ∙ ap (opens_all (left ++ right)) same
    ∙ sym (open_step
    (left ++ right) c.requires.countable.width T k c.column-item.result c.requires.countable.well_formed
    c.loop-column-test.true c.column-item.is) in
    elim c.if-ends_overlap.branch [
      | then-ends_overlap w ↦ let one : bit c.ends_overlap.result ≡ 1 = ap bit w.if-ends_overlap.true in
          record { counted = omega (arith, step, one, w.count-is); few = omega (arith, w.count-is); opened = opened }
      | else-ends_overlap w ↦ let none : bit c.ends_overlap.result ≡ 0 = ap bit w.if-ends_overlap.false in
          record { counted = omega (arith, step, none, w.count-is); few = omega (arith, w.count-is); opened = opened }
    ]

pub returns : goal.returns
returns c =
    c.loop-column.invariant.counted
    ∙ whole Clash c.args.left.now c.args.right.now c.args.columns.now c.loop-column.column-index c.requires.countable
    c.loop-column-test.false c.loop-column.auto.column-index-end
