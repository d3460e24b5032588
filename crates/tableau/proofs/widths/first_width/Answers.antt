use Rattle.std.proofs.Common.{◌≡◌, ◌+◌, ◌∷◌, ap, sym, ◌∙◌, arith, map, drop, length, max}
use Rattle.timeline_text.specs.Texts.{text_of}
use Rattle.tableau.specs.Layout.{firsts, head_line, row_line, widest}
use Rattle.tableau.proofs.LengthLemmas.{firsts_all, firsts_next, wider}
use Rattle.tableau.proofs.widths.first_width.Goals as goal

pub loop-row-preserved : goal.loop-row-preserved
loop-row-preserved c =
    let next = firsts_next c.as_slice-rows.result.now c.loop-row.row-index c.row-item.result c.loop-row-test.true
    c.row-item.is in
    wider c.loop-row.width (length (text_of c.row-item.result.timeline)) c.max-width.result
    (widest (firsts (map row_line (drop (c.loop-row.row-index + 1) c.as_slice-rows.result.now))))
    (widest (firsts (head_line c.args.tableau.now ∷ map row_line c.as_slice-rows.result.now)))
    (ap (λ n. max c.loop-row.width n) (sym next) ∙ c.loop-row.invariant)
    (c.max-width.ensures ∙ ap (λ n. max c.loop-row.width n) c.text_length.ensures)

pub returns : goal.returns
returns c =
    let none = firsts_all c.as_slice-rows.result.now c.loop-row.row-index c.loop-row-test.false in
    let all : c.loop-row.width ≡ widest (firsts
    (head_line c.args.tableau.now ∷ map row_line c.as_slice-rows.result.now)) = omega
    (arith, none, c.loop-row.invariant) in
    all ∙ ap (λ rs. widest (firsts (head_line c.args.tableau.now ∷ map row_line rs))) c.as_slice-rows.ensures.value
