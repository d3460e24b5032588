use Rattle.std.proofs.{Common.arith, lemmas.Bool.Decides.nat_tests}
use Rattle.answer_reader.proofs.StateSteps.{more_left}
use Rattle.answer_reader.proofs.state_loop.nothing_left.Goals as goal

pub returns-else-is_empty : goal.returns-else-is_empty
returns-else-is_empty c = λ states. more_left c.args.lines.now.rest.now (grind (arith, nat_tests)) states _
