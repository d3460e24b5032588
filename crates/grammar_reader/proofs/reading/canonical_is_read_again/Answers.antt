use Rattle.std.proofs.Common.{ap}
use Rattle.grammar_reader.specs.{Canonical.canonical, Grammars.value_of}
use Rattle.grammar_reader.proofs.{ReadAgain.{read_again, same_text}, TextLength.canonical_length}
use Rattle.grammar_reader.proofs.reading.canonical_is_read_again.Goals as goal

pub returns-clause-value : goal.returns-clause-value
returns-clause-value c grammar = read_again (value_of grammar) grammar.lawful

pub returns-clause-short : goal.returns-clause-short
returns-clause-short c grammar = canonical_length (value_of grammar) grammar.lawful.made

pub returns-clause-alike : goal.returns-clause-alike
returns-clause-alike c g h = (same_text (value_of g) (value_of h) g.lawful h.lawful, ap canonical)
