-- A command of the code as one of the definitions: its texts are their bytes.
use Rattle.command_line.specs.Commands.{Command as Asked, canon, score, generate, show, tableau, once, comprehend, check, sample}
use Rattle.command_line.specs.declared.command.Command.{Command}
use Rattle.command_line.specs.declared.command.Command.TheVariants.{Canon, Score, Generate, Show, Tableau, Once, Comprehend, Check, Sample}

abbrev pub command_seen : Command → Asked
command_seen (Canon grammar) = canon grammar.now
command_seen (Score grammar timeline) = score grammar.now timeline.now
command_seen (Generate grammar form budget) = generate grammar.now form.now budget
command_seen (Show grammar form budget) = show grammar.now form.now budget
command_seen (Tableau grammar form rows budget) = tableau grammar.now form.now rows.now budget
command_seen (Once grammar form budget) = once grammar.now form.now budget
command_seen (Comprehend grammar lexicon surface budget) =
    comprehend grammar.now lexicon.now surface.now budget
command_seen (Check grammar answer) = check grammar.now answer.now
command_seen (Sample letters) = sample letters
