use Rattle.std.proofs.Common.{ℕ, subst}
use Rattle.answer_reader.specs.{Left.Takes, Lines.automaton_of}
use Rattle.answer_reader.proofs.StageLoops.{automaton_read}
use Rattle.answer_reader.proofs.stage_loop.read_state_count.Goals as goal

pub returns-clause-goes_on : goal.returns-clause-goes_on
returns-clause-goes_on c =
    automaton_read c.args.shape.now c.args.columns c.args.stages.now c.args.lines.now c.read_automaton_line.new.lines
    c.read_automaton_line.result c.requires.here
    (subst (λ nodes. Takes (automaton_of nodes) (λ (n : ℕ). n) c.args.lines.now c.read_automaton_line.new.lines
    c.read_automaton_line.result) c.last_count.ensures.nodes c.read_automaton_line.ensures.takes)
