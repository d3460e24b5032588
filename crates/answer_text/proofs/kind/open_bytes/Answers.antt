use Rattle.std.proofs.{Common.arith, lemmas.Grind.common_steps}
use Rattle.tier_core.specs.Tiers.{has_tier}
use Rattle.answer_text.specs.Text.{open_byte}
use Rattle.answer_text.proofs.Bytes.{bytes_more}
use Rattle.answer_text.proofs.kind.open_bytes.Goals as goal

pub loop-tier-preserved : goal.loop-tier-preserved
loop-tier-preserved c = record {
  room = grind (arith, common_steps);
  done = bytes_more open_byte (has_tier c.args.opened) c.loop-tier.bytes c.loop-tier.tier c.open_byte.result
      (omega arith) c.open_byte.ensures c.loop-tier.invariant.done;
}
