-- What the elements of a text write, for the examples.
use Rattle.std.specs.Prelude.{ℕ, List, Option, map, option_and_then, option_map}
use Rattle.toml.specs.Parse.{parse_document}
use Rattle.lexicon.specs.Elements.{elements_of, entry_words}

abbrev pub written_in : List ℕ → Option (List (Option (List ℕ × List ℕ)))
written_in text = option_map (map entry_words) (option_and_then elements_of (parse_document text))
