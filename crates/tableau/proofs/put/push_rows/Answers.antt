use Rattle.std.proofs.{Common.sym, lemmas.List.Folds.flat_map-map}
use Rattle.tableau.specs.Layout.{line_text, row_line, tableau_lines}
use Rattle.outside.proofs.Writing.{each_end, each_none, each_stop, each_turn, pushes_as, stop}
use Rattle.tableau.proofs.put.push_rows.Goals as goal

pub loop-row-init : goal.loop-row-init
loop-row-init g c = each_none c.args.sink.now c.args.out.now _ c.args.rows.now

pub loop-row-preserved : goal.loop-row-preserved
loop-row-preserved g c = each_turn _ c.loop-row-test.true c.row-item.is c.loop-row.invariant c.in_ok-push_row.ensures

pub returns-in_err-push_row : goal.returns-in_err-push_row
returns-in_err-push_row g c =
    stop c.from_residual.ensures.1
    (pushes_as (sym (flat_map-map (line_text (tableau_lines c.args.tableau.now)) row_line c.args.rows.now))
    (each_stop _ c.loop-row-test.true c.row-item.is c.loop-row.invariant c.in_err-push_row.ensures))

pub returns : goal.returns
returns g c =
    pushes_as (sym (flat_map-map (line_text (tableau_lines c.args.tableau.now)) row_line c.args.rows.now))
    (each_end c.loop-row-test.false c.loop-row.invariant)
