use Rattle.std.proofs.Common.{◌≡◌, ◌-◌, ◌<◌, ◌++◌}
use Rattle.std.specs.String.{string_bytes}
use Rattle.otp_tool.specs.Samples.{letters_after, sample_word}
use Rattle.otp_tool.proofs.sample_form.sample_word.Given as goal

-- the letters so far, and those that are left
abbrev pub invariant-loop : goal.invariant-loop
invariant-loop l = record {
  word : string_bytes l.word ++ letters_after (l.letters - l.counter) l.number ≡ sample_word l.letters;
  small : l.number < 4294967296;
}
