use Rattle.std.proofs.Common.{◌≡◌, length, map, take}
use Rattle.std.specs.List.{range_with_len}
use Rattle.tier_core.specs.{Kinds.phase_by_bits, Tiers.has_tier}
use Rattle.answer_text.specs.Text.{phase_byte}
use Rattle.answer_text.proofs.kind.phase_bytes.Given as goal

-- the stretch implications so far have their bytes
abbrev pub invariant-loop-place : goal.invariant-loop-place
invariant-loop-place l = record {
  room : length l.bytes ≡ 24;
  done : take l.place l.bytes ≡ map phase_byte
      (map (λ i. phase_by_bits (has_tier l.kind.unmet i) (has_tier l.kind.met i)) (range_with_len 0 l.place));
}
