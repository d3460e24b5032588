use Rattle.std.proofs.Common.{◌≤◌, length}
use Rattle.std.specs.List.{All, slice_split}
use Rattle.timeline_text.specs.Bytes.{is_space}
use Rattle.answer_reader.proofs.CountWords.{AreNumbers}
use Rattle.answer_reader.proofs.counts.numbers_of.Given as goal

-- the numbers of the words so far
abbrev pub invariant-loop-word : goal.invariant-loop-word
invariant-loop-word l = record {
  read : AreNumbers 1000000001 (slice_split is_space l.text) (length l.yielded) l.numbers.items;
  within : All (λ n. n ≤ 1000000000) l.numbers.items;
}
