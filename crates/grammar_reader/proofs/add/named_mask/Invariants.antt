use Rattle.std.proofs.Common.{◌≡◌, ◌+◌, ◌*◌, ◌^◌, ◌<◌, ◌≤◌, length, map, drop}
use Rattle.grammar_reader.specs.{Values.inputs_of, Seen.tiers_seen, Reading.named_mask}
use Rattle.grammar_reader.proofs.add.named_mask.Given as goal

-- the bits of the tiers so far, and those of the tiers that are left
abbrev pub invariant-loop-name : goal.invariant-loop-name
invariant-loop-name l = record {
  small : l.bit ≤ 2 ^ length l.yielded;
  below : l.mask < l.bit;
  rest : l.mask + l.bit * named_mask (inputs_of (tiers_seen (drop (length l.yielded) l.tiers.entries)))
      (map (λ n. n.now) l.names) ≡ named_mask (inputs_of (tiers_seen l.tiers.entries)) (map (λ n. n.now) l.names);
}
