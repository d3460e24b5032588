-- The files that commands name, and what a shelf may hold under their names.
use Rattle.std.specs.Prelude.{◌≡◌, ℕ, List, Option, Some, None, option_map}
use Rattle.otp_tool.specs.Samples.{sample_grammar}
use Rattle.command_line.specs.Commands.{Command, canon, score, generate, show, tableau, once, comprehend, check, sample, named_grammar}

pub record NamedFile : Type 0 where
  -- the number of the word that names it
  pub word : ℕ
  pub name : List ℕ
  -- how many bytes it may have
  pub limit : ℕ

-- the file of a command's grammar, if it names one
abbrev pub grammar_file : Command → Option NamedFile
grammar_file command = option_map (λ name. record { word = 1; name = name; limit = 65536 }) (named_grammar command)

abbrev pub rows_file : List ℕ → NamedFile
rows_file name = record { word = 3; name = name; limit = 4194304 }

abbrev pub answer_file : List ℕ → NamedFile
answer_file name = record { word = 2; name = name; limit = 268435456 }

abbrev pub lexicon_file : List ℕ → NamedFile
lexicon_file name = record { word = 2; name = name; limit = 4194304 }

-- the file that a command names beside its grammar
abbrev pub second_file : Command → Option NamedFile
second_file (canon name) = None
second_file (score name word) = None
second_file (generate name form budget) = None
second_file (show name form budget) = None
second_file (tableau name form rows budget) = Some (rows_file rows)
second_file (once name form budget) = None
second_file (comprehend name lexicon surface budget) = Some (lexicon_file lexicon)
second_file (check name answer) = Some (answer_file answer)
second_file (sample n) = None

-- bytes are those that a shelf tells; where it tells nothing, they may be any
abbrev pub IsHeld : Option (List ℕ) → List ℕ → Type 0
IsHeld None bytes = Unit {0}
IsHeld (Some text) bytes = bytes ≡ text

-- What a shelf tells of the bytes of a grammar, by the name of its file. Where a command names no file,
-- its grammar is the one of samples.
abbrev pub grammar_told : (List ℕ → Option (List ℕ)) → Option (List ℕ) → Option (List ℕ)
grammar_told held None = Some sample_grammar
grammar_told held (Some name) = held name

-- the count of faults of a file, if it is named
abbrev pub faults_of : (List ℕ → ℕ) → Option (List ℕ) → ℕ
faults_of faults None = 0
faults_of faults (Some name) = faults name

-- bytes are those of a second file; where there is none, they may be any
abbrev pub IsSecondHeld : (List ℕ → Option (List ℕ)) → Option NamedFile → List ℕ → Type 0
IsSecondHeld held None bytes = Unit {0}
IsSecondHeld held (Some file) bytes = IsHeld (held file.name) bytes
