use Rattle.std.proofs.Common.{arith}
use Rattle.otp_tool.specs.Samples.{sample_grammar}
use Rattle.otp_tool.proofs.sample_form.sample_grammar.Goals as goal

pub returns-in-Ok-clause-ok : goal.returns-in-Ok-clause-ok
unfolding sample_grammar
returns-in-Ok-clause-ok c = record {
  bytes = c.as_bytes.result.now;
  holds = c.as_bytes.ensures.value;
  file = record { within = omega (arith, c.as_bytes.ensures.len); tells = c.in-Ok.ensures };
}
