use Rattle.std.proofs.Common.{List, ℕ, refl, ◌∙◌, subst}
use Rattle.outside.specs.Writers.{Puts}
use Rattle.grammar_reader.specs.Grammars.{value_of}
use Rattle.violation.specs.Problems.{problem_from}
use Rattle.otp_tool.specs.{Findings.FindsForAnswer, Results.IsSampleText, Samples.{sample_text, sample_word}}
use Rattle.otp_tool.specs.Steps.{IsAnswerFor}
use Rattle.otp_tool.proofs.{SampleLemmas.text_is, StepLemmas.{made_ready, written}}
use Rattle.otp_tool.proofs.sampling.sample.Goals as goal

pub returns-in-Ok-summed_up-clause-step : goal.returns-in-Ok-summed_up-clause-step
returns-in-Ok-summed_up-clause-step g c =
    let grammar = c.args.grammar.now in
    let letters = c.args.letters in
    let answer = c.in-Ok-make_answer.answer in
    let summary = c.in-Ok-summed_up.summary in
    let made = rw (c.as_str.ensures.value ∙ c.in-Ok.ensures) at c.in-Ok-make_answer.ensures.ok in
    let puts = rw (text_is letters answer summary.faultless c.as_bytes.result.now summary.pairs
    (c.as_bytes.ensures.value ∙ c.in-Ok.ensures) c.in-Ok-summed_up.ensures.pairs) at c.put_sample.ensures in
    written _ _ (record {
      problem = problem_from grammar.tiers grammar.constraints.items made.u;
      is_asked = made.is_asked;
      answer = answer;
      right = made.right;
      joined = made.joined;
      faultless = summary.faultless;
      checked = c.in-Ok-summed_up.ensures.checked made.u;
      written = refl;
    }) (FindsForAnswer (value_of grammar) (sample_word letters) 20000) (made_ready grammar _ _ _ made) _ puts _
    c.write_status.ensures
