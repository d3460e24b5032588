use Rattle.std.proofs.Common.{ap, map, ◌∙◌, sym}
use Rattle.grammar_reader.specs.{Statements.{constraint, events_of}, Lexemes.lexeme_seen, Events.seen_event}
use Rattle.grammar_reader.proofs.Forms.{both_some}
use Rattle.grammar_reader.proofs.statement.sides.Goals as goal

pub returns : goal.returns
returns c = both_some (constraint c.args.name.now c.args.family) (map seen_event c.in_ok-left.left.items)
    (map seen_event c.in_ok-right.right.items) _ _ c.in_ok-left.ensures
    (ap (λ w. events_of w (map lexeme_seen c.args.right.now)) (sym c.joined_by.ensures) ∙ c.in_ok-right.ensures)
