use Rattle.std.proofs.Common.{◌≡◌, ◌+◌, [], ◌∷◌, ap, sym, ◌∙◌, arith, get_or, map, drop, length, max}
use Rattle.tableau.specs.Layout.{column, count_texts, head_line, row_line, widest}
use Rattle.tableau.proofs.LengthLemmas.{column_all, column_next, wider}
use Rattle.tableau.proofs.widths.column_width.Goals as goal

pub loop-row-preserved : goal.loop-row-preserved
loop-row-preserved c =
    let next = column_next c.args.place c.as_slice-rows.result.now c.loop-row.row-index c.row-item.result
    c.loop-row-test.true c.row-item.is in
    wider c.loop-row.width (length (get_or
    (count_texts c.row-item.result.worse 0 c.row-item.result.counts.items) c.args.place [])) c.max-width.result
    (widest (column c.args.place (map row_line (drop (c.loop-row.row-index + 1) c.as_slice-rows.result.now))))
    (widest (column c.args.place (head_line c.args.tableau.now ∷ map row_line c.as_slice-rows.result.now)))
    (ap (λ n. max c.loop-row.width n) (sym next) ∙ c.loop-row.invariant)
    (c.max-width.ensures ∙ ap (λ n. max c.loop-row.width n) c.row_length.ensures)

pub returns : goal.returns
returns c =
    let none = column_all c.args.place c.as_slice-rows.result.now c.loop-row.row-index c.loop-row-test.false in
    let all : c.loop-row.width ≡ widest (column c.args.place
    (head_line c.args.tableau.now ∷ map row_line c.as_slice-rows.result.now)) = omega
    (arith, none, c.loop-row.invariant) in
    all ∙ ap (λ rs. widest (column c.args.place
    (head_line c.args.tableau.now ∷ map row_line rs))) c.as_slice-rows.ensures.value
