use Rattle.std.proofs.Common.{◌≡◌, ◌++◌, map, drop}
use Rattle.timeline_text.specs.{Spelling.sound_of, Between.columns_after}
use Rattle.timeline_text.proofs.spelled.columns_of.Given as goal

-- the columns so far, and those of the letters that are left
abbrev pub invariant-loop-byte : goal.invariant-loop-byte
invariant-loop-byte l = l.timeline ++ columns_after l.inputs l.before
    (map (sound_of l.letters) (drop l.byte-index l.word)) ≡ columns_after l.inputs 0 (map (sound_of l.letters) l.word)
