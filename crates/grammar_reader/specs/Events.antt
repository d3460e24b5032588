-- The code's events, and what reading them gives.
use Rattle.std.specs.Prelude.{◌≡◌, ℕ, List, Option, None}
use Rattle.grammar_reader.specs.Statements as statement
use Rattle.grammar_reader.specs.declared.event.NamedEvent.{NamedEvent}
use Rattle.grammar_reader.specs.declared.lexeme.LineErr.{LineErr}
use Rattle.grammar_reader.specs.declared.lexeme.LineErr.TheVariants.{Cause, NoMemory}
use Rattle.grammar_reader.specs.declared.grammar_err.GrammarCause.TheVariants.{BadLine}

abbrev pub seen_event : NamedEvent → statement.NamedEvent
seen_event e = record { part = e.part; tier = e.tier.now }

-- the lexemes do not have the form, unless memory ran out
abbrev pub FailsForm : {X : Type 0} → LineErr → Option X → Type 0
FailsForm NoMemory o = Unit {0}
FailsForm (Cause c) o = (c ≡ BadLine) × (o ≡ None)
