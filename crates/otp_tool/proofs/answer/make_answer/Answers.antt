use Rattle.std.proofs.lemmas.Result.{IfErr-weaker}
use Rattle.grammar_reader.specs.Grammars.{value_of}
use Rattle.violation.specs.Problems.{problem_from}
use Rattle.otp_tool.specs.{Findings.FindsForAnswer, Steps.{IsRefusal, RefusesBudget, RefusesForm}}
use Rattle.otp_tool.proofs.{RefusalLemmas.{budget_for_answer, form_for_answer, refusal_weaker}, StepLemmas.made_for}
use Rattle.otp_tool.proofs.answer.make_answer.Goals as goal

pub returns-in-Ok-clause-ok : goal.returns-in-Ok-clause-ok
returns-in-Ok-clause-ok c = made_for c.args.grammar.now _ _ _ c.in-Ok.ensures.ok c.in-Ok.ensures.form
    c.in-Ok.ensures.short _ c.answer_for.ensures.right c.answer_for.ensures.joined c.answer_for.ensures.within
    c.answer_for.ensures.listed

pub returns-in-Ok-clause-err : goal.returns-in-Ok-clause-err
returns-in-Ok-clause-err c =
    let g = value_of c.args.grammar.now in
    let problem = problem_from c.args.grammar.now.tiers c.args.grammar.now.constraints.items c.in-Ok.form in
    let word = c.args.word.now in
    IfErr-weaker _ _ _ (refusal_weaker _ _ (budget_for_answer g _ _ _ c.in-Ok.ensures.ok)) c.answer_for.ensures.err

pub returns-in-Err-clause-err : goal.returns-in-Err-clause-err
returns-in-Err-clause-err c =
    let g = value_of c.args.grammar.now in
    refusal_weaker _ _ (form_for_answer g c.args.word.now c.args.budget) _ c.in-Err.ensures.err
