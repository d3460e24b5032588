use Rattle.std.proofs.Common.{◌≡◌, ◌<◌, ◌∷◌, [], ◌++◌, List, length, sym, ◌∙◌, subst, arith, rules}
use Rattle.std.proofs.lemmas.Result.{err_from_is_err_and}
use Rattle.tier_core.specs.{Tables.tiers_of_table, declared.sym.Sym.Sym}
use Rattle.tableau.specs.Rows.{AreRowsOf}
use Rattle.tableau.proofs.RowLemmas.{refused_line, row_line}
use Rattle.violation.specs.Problems.{problem_from}
use Rattle.tableau.proofs.row.read_line.Goals as goal

pub returns-in_err-row-clause-err : goal.returns-in_err-row-clause-err
returns-in_err-row-clause-err c =
    let p = err_from_is_err_and c.from_residual.result c.from_residual.ensures.1 in
    let before : c.len.result ≡ length c.args.rows.now.items = search rules in
    rw (p.1, p.2) (λ front behind counted a.
    refused_line
    (problem_from c.args.grammar.now.tiers c.args.grammar.now.constraints.items c.args.form.now) front c.args.line.now
    behind c.args.rows.now.items c.args.number c.len.result c.in_err-row.field-0.0
    (sym c.is_blank.ensures ∙ c.if-is_blank.false) counted before a c.in_err-row.ensures.err)

pub returns-clause-ok : goal.returns-clause-ok
returns-clause-ok c =
    let before : c.len.result ≡ length c.args.rows.now.items = search rules in
    let few : length c.args.rows.now.items < 32 = omega (arith, before, c.in_ok-row.ensures.few) in
    let pushed : c.push.new.self.items ≡ c.args.rows.now.items ++ c.in_ok-row.row ∷ [] = search rules in
    λ front a.
    subst (λ (rows : List (List (List Sym))). AreRowsOf
    (problem_from c.args.grammar.now.tiers c.args.grammar.now.constraints.items c.args.form.now)
    (front ++ c.args.line.now ∷ []) rows) (sym pushed)
    (row_line
    (problem_from c.args.grammar.now.tiers c.args.grammar.now.constraints.items c.args.form.now) front c.args.line.now
    c.args.rows.now.items c.in_ok-row.row
    (sym c.is_blank.ensures ∙ c.if-is_blank.false) few c.in_ok-row.ensures.ok a)
