use Rattle.std.proofs.Common.{refl}
use Rattle.stage_laws.proofs.Optimal.{all_words_law}
use Rattle.stage_laws.proofs.optima.words_of_least_weight_are_optimal.Goals as goal

pub returns-clause-least_words : goal.returns-clause-least_words
returns-clause-least_words c problem r names states stage table = all_words_law refl names states problem r stage table

pub returns-clause-pruned : goal.returns-clause-pruned
returns-clause-pruned c problem r names states stage table pruned old tight T =
    let law = all_words_law refl names states problem r stage table T in
    (λ a. law.0 ((tight.accepts T).0 a), λ o. (tight.accepts T).1 (law.1 o))
