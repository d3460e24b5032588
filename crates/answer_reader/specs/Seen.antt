-- Words of lines and nodes, as the code has them.
use Rattle.std.specs.Prelude.{ℕ, List}
use Rattle.std.specs.declared.alloc.Global.{Global}
use Rattle.std.specs.declared.vec.Vec.{Vec}
use Rattle.tier_core.specs.Kinds.{prefix_kind}
use Rattle.answer_text.specs.declared.stage.Node.{Node}
use Rattle.answer_reader.specs.Nodes as said
use Rattle.answer_text.specs.Values.{NodeValue}
use Rattle.answer_reader.specs.declared.node.NodeWords as code

abbrev pub words_seen : code.NodeWords → said.NodeWords
words_seen w = record { place = w.place.now; opened = w.opened.now; phases = w.phases.now; potential = w.potential.now }

-- a node, for this many free tiers and stretch implications
abbrev pub node_seen : ℕ → ℕ → Node → NodeValue
node_seen free stretches node = record { kind = prefix_kind free stretches node.kind; potential = node.potential }

-- the numbers of a list of the code
abbrev pub numbers_seen : Vec ℕ Global → List ℕ
numbers_seen numbers = numbers.items
