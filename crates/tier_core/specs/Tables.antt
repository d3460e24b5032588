-- The tiers of a table.
use Rattle.tier_core.specs.declared.tier.TierTable.{TierTable}
use Rattle.tier_core.specs.Tiers.{Tiers, tiers_by_kinds}

abbrev pub tiers_of_table : TierTable → Tiers
tiers_of_table table = tiers_by_kinds table.kinds.items
