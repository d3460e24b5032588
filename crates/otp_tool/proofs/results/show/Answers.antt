use Rattle.std.proofs.Common.{refl}
use Rattle.answer_text.specs.Text.{shown_text}
use Rattle.grammar_reader.specs.Grammars.{value_of}
use Rattle.otp_tool.specs.{Findings.FindsForAnswer, Results.{IsOfRightAnswer, short_text}}
use Rattle.otp_tool.proofs.StepLemmas.{made_ready, made_right, written}
use Rattle.otp_tool.proofs.results.show.Goals as goal

pub returns-in-Ok-clause-step : goal.returns-in-Ok-clause-step
returns-in-Ok-clause-step g c =
    let text = shown_text c.in-Ok.answer in
    written _ _ (made_right c.args.grammar.now _ _ _ c.in-Ok.ensures.ok _ _ (λ u. refl))
    (FindsForAnswer (value_of c.args.grammar.now) c.args.form.now c.args.budget) (made_ready c.args.grammar.now _ _ _
    c.in-Ok.ensures.ok) _ c.put_shown.ensures _ c.write_status.ensures
