use Rattle.std.proofs.Common.{◌≡◌, drop}
use Rattle.outside.specs.Held.{files_of, file_text}
use Rattle.outside.proofs.files.find.Given as goal

-- no file before this one has the name
abbrev pub invariant-loop-known : goal.invariant-loop-known
invariant-loop-known l = file_text (files_of l.files) l.name ≡ file_text (files_of (drop l.known-index l.files)) l.name
