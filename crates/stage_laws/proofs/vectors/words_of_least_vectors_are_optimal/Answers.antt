use Rattle.std.proofs.Common.{refl}
use Rattle.stage_laws.proofs.{LeastVectors.optimal_words, PrunedOnce.{once_words, once_kinds, once_paths}}
use Rattle.stage_laws.proofs.vectors.words_of_least_vectors_are_optimal.Goals as goal

pub returns-clause-least_words : goal.returns-clause-least_words
returns-clause-least_words c problem names states pass = optimal_words problem pass.stage pass.few refl names states
    pass.table

pub returns-clause-pruned : goal.returns-clause-pruned
returns-clause-pruned c problem names states pass tight is =
    once_words problem pass.stage pass.few refl names states pass.table tight.table.states.items tight.states.items is
    tight.table.some tight.table.targets tight.table.filled

pub returns-clause-kinds : goal.returns-clause-kinds
returns-clause-kinds c problem names states pass tight is =
    once_kinds problem pass.stage pass.few refl names states pass.table tight.table.states.items tight.states.items is
    tight.table.some tight.table.targets tight.table.filled

pub returns-clause-prefixes : goal.returns-clause-prefixes
returns-clause-prefixes c problem names states pass tight is =
    once_paths problem pass.stage pass.few refl names states pass.table tight.table.states.items tight.states.items is
    tight.table.some tight.table.targets tight.table.filled
