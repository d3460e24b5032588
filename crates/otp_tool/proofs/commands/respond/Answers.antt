use Rattle.std.proofs.Common.{refl}
use Rattle.command_line.specs.Words.{words_of}
use Rattle.otp_tool.proofs.CauseLemmas.{is_status}
use Rattle.otp_tool.proofs.commands.respond.Goals as goal

pub returns-in-Some-clause-status : goal.returns-in-Some-clause-status
returns-in-Some-clause-status g c =
    is_status _ _ _ (c.execute.ensures.outcome (words_of c.args.words.now) c.in-Some.ensures)

pub returns-in-None-clause-status : goal.returns-in-None-clause-status
returns-in-None-clause-status g c = is_status _ _ _ (c.in-None.ensures, refl)
