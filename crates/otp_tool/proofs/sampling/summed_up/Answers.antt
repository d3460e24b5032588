use Rattle.std.proofs.Common.{List, ℕ, IsTrue, length, ap, subst, arith}
use Rattle.std.specs.Prelude.{◌↔◌}
use Rattle.cert_check.specs.declared.fault.Verdict.TheVariants.{Yes}
use Rattle.grammar_reader.specs.Grammars.{value_of}
use Rattle.grammar_reader.proofs.Shaping.{length-stretch_counts}
use Rattle.otp_tool.specs.Answers.{IsJudged}
use Rattle.otp_tool.proofs.StepLemmas.{whole_written}
use Rattle.otp_tool.proofs.sampling.summed_up.Goals as goal

pub is_checked-requires-clause-stages : goal.is_checked-requires-clause-stages
is_checked-requires-clause-stages c =
    omega (
      arith,
      ap length c.in_ok-shape.ensures.phases,
      length-stretch_counts c.args.grammar.now.constraints.items,
      c.requires,
    )

pub returns-in-Ok-clause-checked : goal.returns-in-Ok-clause-checked
returns-in-Ok-clause-checked c = λ u. rw (whole_written c.args.grammar.now c.in_ok-shape.shape c.in_ok-shape.ensures
    c.args.answer.now u) at c.in_ok-faultless.ensures
