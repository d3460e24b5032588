use Rattle.std.proofs.Common.{◌≡◌, ◌+◌, ◌≤◌, ◌++◌, length, map, drop}
use Rattle.std.specs.String.{string_bytes}
use Rattle.grammar_reader.specs.{Values.inputs_of, Canonical.{names_in, letter_words}, Seen.tiers_by, Words.texts_of}
use Rattle.grammar_reader.proofs.lines.letter_words.Given as goal

-- the words so far, and the names of the tiers that are left
abbrev pub invariant-loop-place : goal.invariant-loop-place
invariant-loop-place l = record {
  words : texts_of l.words ++ names_in (inputs_of
      (tiers_by (map string_bytes (drop l.place l.tiers.names.items)) (drop l.place l.tiers.kinds.items))) l.mask
      ≡ letter_words (tiers_by (map string_bytes l.tiers.names.items) l.tiers.kinds.items) l.letter;
  count : l.words.len ≤ 3 + l.place;
}
