use Rattle.std.proofs.Common.{◌+◌, ◌-◌, ◌++◌, ap, ◌∙◌, arith}
use Rattle.std.specs.String.{string_bytes}
use Rattle.otp_tool.specs.Samples.{sample_word}
use Rattle.otp_tool.proofs.SampleLemmas.{word_next}
use Rattle.otp_tool.proofs.sample_form.sample_word.Goals as goal

pub loop-preserved : goal.loop-preserved
loop-preserved c =
    let is = c.in_ok-push.ensures.bytes
    ∙ ap (λ xs. string_bytes c.loop.word ++ xs) (c.in_ok-push.ensures.ascii c.sample_letter.ensures.ascii) in record {
      word = word_next _ _ _ _ _ _ _ _ (omega (arith, c.loop-test.true)) c.next_number-number.ensures.value
          c.sample_letter.ensures.value is c.loop.invariant.word;
      small = c.next_number-number.ensures.small;
    }
