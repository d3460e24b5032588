use Rattle.grammar_reader.proofs.{SliceLaw.tokens_slices, TokenOrder.tokens_ascending}
use Rattle.grammar_reader.proofs.slices.tokens_are_slices.Goals as goal

pub returns-clause-slices : goal.returns-clause-slices
returns-clause-slices c = tokens_slices

pub returns-clause-ascending : goal.returns-clause-ascending
returns-clause-ascending c = tokens_ascending
