use Rattle.std.proofs.Common.{◌∙◌, List, ℕ, IfOk, IsTrue, subst}
use Rattle.std.specs.Prelude.{◌↔◌}
use Rattle.cert_check.specs.declared.fault.Verdict.TheVariants.{Yes}
use Rattle.grammar_reader.specs.Grammars.{value_of}
use Rattle.otp_tool.specs.Answers.{IsJudged}
use Rattle.otp_tool.proofs.sample_check.is_checked.Goals as goal

pub returns : goal.returns
returns c = rw (c.bytes-bytes.ensures ∙ c.in_ok-sink.ensures) at c.is_faultless.ensures
