-- The tiers of a table, by their names.
use Rattle.std.specs.Prelude.{List, map}
use Rattle.std.specs.String.{string_bytes}
use Rattle.tier_core.specs.declared.tier.TierTable.{TierTable}
use Rattle.grammar_reader.specs.Seen.{tiers_by}
use Rattle.grammar_reader.specs.Values.{NamedTier}

abbrev pub named_tiers : TierTable → List NamedTier
named_tiers table = tiers_by (map string_bytes table.names.items) table.kinds.items
