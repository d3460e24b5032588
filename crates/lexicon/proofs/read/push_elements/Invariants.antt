use Rattle.std.proofs.Common.{◌≡◌, ◌≤◌, length, map, take, All}
use Rattle.tier_core.specs.Tables.{tiers_of_table}
use Rattle.toml.specs.View.{view}
use Rattle.violation.specs.Candidates.{IsForm}
use Rattle.lexicon.specs.{Entries.{AreEntries, names_of}, Seen.entries_seen}
use Rattle.lexicon.proofs.read.push_elements.Given as goal

-- the elements so far are the entries so far, whose names are in the set
abbrev pub invariant-loop-place : goal.invariant-loop-place
invariant-loop-place l = record {
  are : AreEntries (length (tiers_of_table l.grammar.tiers).input) l.grammar.letters.items
      (map view (take l.place l.elements)) (entries_seen l.entries.items);
  keys : map (λ key. key.now) l.names.keys ≡ names_of (entries_seen l.entries.items);
  forms : All (λ entry. IsForm (tiers_of_table l.grammar.tiers) entry.form) l.entries.items;
  short : All (λ entry. length entry.form ≤ 64) l.entries.items;
}
