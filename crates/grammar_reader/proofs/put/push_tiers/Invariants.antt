use Rattle.std.proofs.Common.{map, drop}
use Rattle.std.specs.String.{string_bytes}
use Rattle.outside.proofs.Writing.{PushesUpTo}
use Rattle.grammar_reader.specs.{Canonical.tier_lines, NamedTiers.named_tiers, Seen.tiers_by}
use Rattle.grammar_reader.proofs.put.push_tiers.Given as goal

abbrev pub invariant-loop-place : goal.invariant-loop-place
invariant-loop-place g l =
    PushesUpTo g.O.Sink l.fn.sink l.sink l.fn.out l.out (tier_lines (named_tiers l.tiers))
    (tier_lines (tiers_by (map string_bytes (drop l.place l.tiers.names.items)) (drop l.place l.tiers.kinds.items)))
