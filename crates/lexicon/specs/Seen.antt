-- What contracts see of entries.
use Rattle.std.specs.Prelude.{List, map}
use Rattle.std.specs.String.{string_bytes}
use Rattle.lexicon.specs.declared.entry.Entry.{Entry}
use Rattle.lexicon.specs.Entries.{LexicalEntry}

abbrev pub entry_seen : Entry → LexicalEntry
entry_seen entry = record { name = string_bytes entry.name; form = entry.form }

abbrev pub entries_seen : List Entry → List LexicalEntry
entries_seen entries = map entry_seen entries
