use Rattle.std.proofs.{Common.arith, lemmas.Grind.common_steps}
use Rattle.tier_core.specs.{Kinds.phase_by_bits, Tiers.has_tier}
use Rattle.answer_text.specs.Text.{phase_byte}
use Rattle.answer_text.proofs.Bytes.{bytes_more}
use Rattle.answer_text.proofs.kind.phase_bytes.Goals as goal

pub loop-place-preserved : goal.loop-place-preserved
loop-place-preserved c = record {
  room = grind (arith, common_steps);
  done = bytes_more phase_byte (λ i. phase_by_bits (has_tier c.args.kind.now.unmet i)
      (has_tier c.args.kind.now.met i)) c.loop-place.bytes c.loop-place.place c.phase_byte.result
      (omega arith) c.phase_byte.ensures c.loop-place.invariant.done;
}
