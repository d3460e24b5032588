-- What a line of the code says.
use Rattle.std.specs.Prelude.{◌≡◌, ◌<◌, length, map, Option, Some, Result, Ok, Err}
use Rattle.grammar_reader.specs.Statements as said
use Rattle.grammar_reader.specs.Events.{seen_event, FailsForm}
use Rattle.grammar_reader.specs.declared.statement.Statement as code
use Rattle.grammar_reader.specs.declared.statement.Statement.TheVariants.{Tier, Letter, Constraint}
use Rattle.grammar_reader.specs.declared.lexeme.LineErr.{LineErr}

abbrev pub statement_seen : code.Statement → said.Statement
statement_seen (Tier name kind) = said.tier name.now kind
statement_seen (Letter byte names) = said.letter byte.now (map (λ n. n.now) names.items)
statement_seen (Constraint name family left right) = said.constraint name.now family (map seen_event left.items)
    (map seen_event right.items)

-- what the line says, or that it has none of the forms, unless memory ran out
abbrev pub SaysLine : Result code.Statement LineErr → Option said.Statement → Type 0
SaysLine (Ok s) o = o ≡ Some (statement_seen s)
SaysLine (Err e) o = FailsForm e o

-- a letter has tiers, and each side of a constraint has events
abbrev pub HasParts : said.Statement → Type 0
HasParts (said.tier name kind) = Unit {0}
HasParts (said.letter x names) = 0 < length names
HasParts (said.constraint name family left right) = (0 < length left) × (0 < length right)
