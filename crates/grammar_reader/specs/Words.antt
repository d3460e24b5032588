-- The words of a line, as they are written.
use Rattle.std.specs.Prelude.{ℕ, List, ◌∷◌, ◌++◌, map, take}
use Rattle.grammar_reader.specs.declared.words.Word.{Word}
use Rattle.grammar_reader.specs.declared.words.Words.{Words}

abbrev pub word_text : Word → List ℕ
word_text w = w.mark.now ++ w.text.now

-- a word after a space
abbrev pub spaced_word : Word → List ℕ
spaced_word w = 32 ∷ word_text w

abbrev pub texts_of : Words → List (List ℕ)
texts_of line = map word_text (take line.len line.words)
