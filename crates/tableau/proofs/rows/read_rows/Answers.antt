use Rattle.std.proofs.{Common.{◌+◌, ℕ, List, ap, sym, subst}, lemmas.Result.err_from_is_err_and}
use Rattle.std.specs.Str.Lines.{lines}
use Rattle.tier_core.specs.Tables.{tiers_of_table}
use Rattle.tableau.specs.Rows.{IsTextRefusal}
use Rattle.tableau.proofs.RowLemmas.{next_line}
use Rattle.violation.specs.Problems.{problem_from}
use Rattle.tableau.proofs.rows.read_rows.Goals as goal

pub returns-in_err-read_line-clause-err : goal.returns-in_err-read_line-clause-err
returns-in_err-read_line-clause-err c =
    let p = err_from_is_err_and c.from_residual.result c.from_residual.ensures.1 in
    let r = c.loop-rest.invariant in
    rw (p.1, p.2) (subst (λ (ls : List (List ℕ)). IsTextRefusal
    (problem_from c.args.grammar.now.tiers c.args.grammar.now.constraints.items c.args.form.now) ls
    c.in_err-read_line.field-0.0)
    (sym (next_line c.args.bytes.now c.loop-rest.rest.now c.cut_line.result.1.now c.cut_line.result.0.now r.front
    r.whole c.cut_line.ensures.cut))
    (c.in_err-read_line.ensures.err r.front (lines c.cut_line.result.1.now) (ap (λ n. n + 1) r.counted) r.read))
