use Rattle.std.proofs.{Common.arith, lemmas.Grind.common_steps}
use Rattle.answer_reader.proofs.stage_loop.last_count.Goals as goal

pub returns-in-None : goal.returns-in-None
returns-in-None c = record { nodes = grind (arith, common_steps); few = omega arith }
