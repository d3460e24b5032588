use Rattle.std.specs.Prelude.{[]}
use Rattle.std.proofs.lemmas.Bool.{false≢true}
use Rattle.violation.proofs.ExampleLemmas.{nothing_candidate}
use Rattle.violation.proofs.examples.optima.first_candidates.Goals as goal

pub returns-clause-not_longer : goal.returns-clause-not_longer
returns-clause-not_longer c = λ f. false≢true (f.least [] nothing_candidate)
