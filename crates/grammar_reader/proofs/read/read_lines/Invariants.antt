use Rattle.std.proofs.Common.{◌≡◌, ◌+◌, length, drop}
use Rattle.timeline_text.specs.Bytes.{lines_of}
use Rattle.grammar_reader.specs.{Reading.{after_lines, grammar_of}, Made.value_so_far}
use Rattle.grammar_reader.proofs.read.read_lines.Given as goal

-- the lines so far were read, and the rest gives what the whole gives
abbrev pub invariant-loop-line : goal.invariant-loop-line
invariant-loop-line l = record {
  counted : l.number ≡ length l.yielded;
  rest : after_lines (value_so_far l.state) (l.number + 1) (drop (length l.yielded) (lines_of l.bytes))
      ≡ grammar_of l.bytes;
}
