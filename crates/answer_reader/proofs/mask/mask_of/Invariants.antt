use Rattle.std.proofs.Common.{◌≡◌, ◌+◌, ◌*◌, ◌^◌, ◌<◌, ◌≤◌, drop}
use Rattle.answer_reader.specs.Masks.{mark_mask}
use Rattle.answer_reader.proofs.mask.mask_of.Given as goal

-- the bits of the bytes so far, and those of the bytes that are left
abbrev pub invariant-loop-byte : goal.invariant-loop-byte
invariant-loop-byte l = record {
  small : l.bit ≤ 2 ^ l.byte-index;
  below : l.mask < l.bit;
  rest : l.mask + l.bit * mark_mask l.mark (drop l.byte-index l.bytes) ≡ mark_mask l.mark l.bytes;
}
