use Rattle.std.proofs.Common.{refl}
use Rattle.toml.proofs.OnLiterals.{toml_on_literals}
use Rattle.lexicon.proofs.examples.what_writes_nothing.Goals as goal

pub returns : goal.returns
unfolding toml_on_literals
returns c = refl
