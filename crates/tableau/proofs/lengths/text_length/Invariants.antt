use Rattle.std.proofs.Common.{◌≡◌, ◌+◌, ◌*◌, ◌≤◌, drop}
use Rattle.tableau.proofs.LengthLemmas.{bytes_of}
use Rattle.tableau.proofs.lengths.text_length.Given as goal

-- the columns so far take these bytes, at most 13 each
abbrev pub invariant-loop-column : goal.invariant-loop-column
invariant-loop-column l = record {
  counted : l.size + bytes_of (drop l.column-index l.timeline) ≡ bytes_of l.timeline;
  few : l.size ≤ 13 * l.column-index;
}
