use Rattle.std.proofs.Common.{refl, subst}
use Rattle.std.specs.Str.Lines.{lines}
use Rattle.violation.specs.Problems.{problem_from}
use Rattle.tableau.specs.Rows.{IsTextRefusal}
use Rattle.otp_tool.proofs.tableaux.rows_of.Goals as goal

pub returns-in-Err-At-clause-err : goal.returns-in-Err-At-clause-err
returns-in-Err-At-clause-err c =
    let problem = problem_from c.args.grammar.now.tiers c.args.grammar.now.constraints.items c.args.form.now in (
      refl,
      record {
        value = (c.in-Err-At.row, c.in-Err-At.cause);
        is = refl;
        fact = record {
          within = c.requires;
          refused = rw c.in-Err-At.field-0-is at c.in-Err-At.ensures.err;
        };
      },
    )
