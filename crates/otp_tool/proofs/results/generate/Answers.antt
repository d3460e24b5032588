use Rattle.answer_text.specs.{Shape.widths_of, Text.answer_text}
use Rattle.grammar_reader.specs.Grammars.{value_of}
use Rattle.otp_tool.specs.{Findings.FindsForAnswer, Results.IsGeneratedText}
use Rattle.otp_tool.proofs.{GeneratedLemmas.generated, StepLemmas.{made_ready, stages_fit, written}}
use Rattle.otp_tool.proofs.results.generate.Goals as goal

pub put_answer-requires : goal.put_answer-requires
put_answer-requires g c = stages_fit _ _ _ _ c.in-Ok.ensures.ok _ c.in-Ok-shape.ensures

pub returns-in-Ok-shape-clause-step : goal.returns-in-Ok-shape-clause-step
returns-in-Ok-shape-clause-step g c =
    let text = answer_text (widths_of c.in-Ok-shape.shape) c.in-Ok.answer in
    written _ _ (generated _ _ _ c.requires.few _ c.in-Ok.ensures.ok _ c.in-Ok-shape.ensures)
    (FindsForAnswer (value_of c.args.grammar.now) c.args.form.now c.args.budget) (made_ready c.args.grammar.now _ _ _
    c.in-Ok.ensures.ok) _ c.put_answer.ensures _ c.write_status.ensures
