use Rattle.std.proofs.Common.{refl}
use Rattle.toml.proofs.OnLiterals.{toml_on_literals}
use Rattle.lexicon.proofs.examples.what_stands_under_the_key.Goals as goal

pub returns-clause-absent : goal.returns-clause-absent
unfolding toml_on_literals
returns-clause-absent c = refl

pub returns-clause-table : goal.returns-clause-table
unfolding toml_on_literals
returns-clause-table c = refl

pub returns-clause-refused : goal.returns-clause-refused
unfolding toml_on_literals
returns-clause-refused c = refl
