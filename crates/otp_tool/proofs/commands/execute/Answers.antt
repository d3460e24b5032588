use Rattle.std.proofs.Common.{refl}
use Rattle.command_line.specs.Seen.{command_seen}
use Rattle.grammar_reader.specs.Grammars.{value_of}
use Rattle.otp_tool.specs.Steps.{change_of}
use Rattle.otp_tool.proofs.OutcomeLemmas.{by_load, by_work, work_of_before}
use Rattle.otp_tool.proofs.commands.execute.Goals as goal

pub returns-in-Ok-clause-outcome : goal.returns-in-Ok-clause-outcome
returns-in-Ok-clause-outcome g c =
    let command = command_seen c.args.command.now in
    let value = value_of c.in-Ok.grammar in
    let change = change_of g.F.Shelf g.O.Sink c.grammar_of.new.shelf c.perform.new.shelf c.args.sink.now
    c.perform.new.sink in
    let work = work_of_before _ _ _ c.grammar_of.ensures.held c.grammar_of.ensures.never_falls _ _ _
    c.perform.ensures.work in
    (λ words are. by_work _ _ _ are _ c.in-Ok.ensures.ok _ work)

pub returns-in-Err-clause-outcome : goal.returns-in-Err-clause-outcome
returns-in-Err-clause-outcome g c = (λ words are. by_load _ _ _ are refl _ c.in-Err.ensures.err)
