-- What the nodes of a stage tell for a problem: a bit of a kind that no tier and no constraint of the stage
-- has is not seen.
use Rattle.std.specs.Prelude.{ℕ, List, map}
use Rattle.violation.specs.Prefixes.{kind_of_bits}
use Rattle.violation.specs.Problems.{Problem}
use Rattle.answer_text.specs.declared.stage.Node.{Node}
use Rattle.answer_text.specs.declared.stage.Stage.{Stage}
use Rattle.answer_text.specs.Right.{nodes_at}
use Rattle.answer_text.specs.Values.{NodeValue}

-- a node of a stage: the kind that it tells there, and its potential
abbrev pub node_seen : Problem → ℕ → Node → NodeValue
node_seen problem stage node = record { kind = kind_of_bits problem stage node.kind; potential = node.potential }

-- the nodes of a stage
abbrev pub nodes_seen : Problem → List Stage → ℕ → List NodeValue
nodes_seen problem stages r = map (node_seen problem r) (nodes_at stages r)
