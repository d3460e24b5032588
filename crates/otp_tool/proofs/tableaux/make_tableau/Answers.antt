use Rattle.std.proofs.Common.{◌≤◌, List, length, All, sym, subst}
use Rattle.tier_core.specs.declared.sym.Sym.{Sym}
use Rattle.violation.specs.{Candidates.IsCandidate, Problems.problem_from}
use Rattle.tableau.specs.Tableaux.{IsTableauOf, names_seen}
use Rattle.otp_tool.proofs.TableauLemmas.{candidates_for, few_columns, no_rows_made, not_within, right_for}
use Rattle.otp_tool.proofs.TableauLemmas.{tableau_for}
use Rattle.otp_tool.proofs.tableaux.make_tableau.Goals as goal

pub returns-in-Err-clause-err : goal.returns-in-Err-clause-err
returns-in-Err-clause-err c = no_rows_made c.args.grammar.now c.args.form.now _ _ _ c.in-Err.ensures.err

pub returns-in-Err-answer_for-clause-err : goal.returns-in-Err-answer_for-clause-err
returns-in-Err-answer_for-clause-err c = not_within c.args.grammar.now c.args.form.now _ _ _ c.requires.within
    c.in-Ok.ensures.ok _ c.in-Err-answer_for.ensures.err

pub tableau-requires-clause-right : goal.tableau-requires-clause-right
tableau-requires-clause-right c = right_for c.args.grammar.now c.args.form.now _ c.in-Ok-answer_for.ensures.right

pub tableau-requires-clause-candidates : goal.tableau-requires-clause-candidates
tableau-requires-clause-candidates c = rw c.deref.ensures.value (candidates_for c.args.grammar.now c.args.form.now _
    c.in-Ok-answer_for.ensures.right _ c.in-Ok.ensures.ok.candidates)

pub tableau-requires-clause-few_columns : goal.tableau-requires-clause-few_columns
tableau-requires-clause-few_columns c = rw c.deref.ensures.value (few_columns _ c.in-Ok.ensures.ok.within)

pub returns-in-Ok-tableau-clause-ok : goal.returns-in-Ok-tableau-clause-ok
returns-in-Ok-tableau-clause-ok c = record {
  rows = c.in-Ok.rows.items;
  read = c.in-Ok.ensures.ok;
  is_tableau = tableau_for c.args.grammar.now c.args.form.now _ c.in-Ok-answer_for.ensures.right _ _
      (rw c.deref.ensures.value at c.in-Ok-tableau.ensures);
  within = c.in-Ok-answer_for.ensures.within;
}
