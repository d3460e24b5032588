-- What contracts see of a grammar.
use Rattle.grammar_reader.specs.declared.grammar.Grammar.{Grammar}
use Rattle.grammar_reader.specs.Values.{GrammarValue}
use Rattle.grammar_reader.specs.Seen.{value_by}

-- the value of a grammar
abbrev pub value_of : Grammar → GrammarValue
value_of g = value_by g.tiers.names.items g.tiers.kinds.items g.letters.items g.constraints.items
