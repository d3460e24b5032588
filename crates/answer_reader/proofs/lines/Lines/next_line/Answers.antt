use Rattle.std.proofs.Common.{◌≡◌, Some, None, option_map, ap, sym, ◌∙◌}
use Rattle.answer_reader.specs.Cuts.{cut, parts_seen}
use Rattle.answer_reader.proofs.Cutting.{not_cut, line_cut}
use Rattle.answer_reader.proofs.lines.Lines.next_line.Goals as goal

pub returns-in_default-clause-missing : goal.returns-in_default-clause-missing
returns-in_default-clause-missing c =
    let none = sym c.cut.ensures ∙ ap (option_map parts_seen) c.in_default.is in
    not_cut _ none

pub returns-clause-line : goal.returns-clause-line
returns-clause-line c =
    let some = sym c.cut.ensures ∙ ap (option_map parts_seen) c.in-Some.is in
    line_cut c.args.self.now.rest.now (c.in-Some.line.now, c.in-Some.rest.now) some
