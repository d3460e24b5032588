-- The nodes of a stage, from kinds and potentials that are found and an order of their numbers.
use Rattle.std.specs.Prelude.{ℕ, ◌≡◌, ◌↔◌, List, map, slice_index, Contains}
use Rattle.tier_core.specs.declared.kind.Kind.{Kind}
use Rattle.tier_core.specs.Kinds.{PrefixKind}
use Rattle.answer_text.specs.declared.stage.Node.{Node}
use Rattle.tier_core.specs.KindNumbers.{kind_numbered}

-- the node of a number: its kind and its potential
abbrev pub node_numbered : List Kind → List ℕ → ℕ → Node
node_numbered kinds potentials number = record
    { kind = kind_numbered kinds number; potential = slice_index potentials number }

-- The nodes are those of the numbers in their order. So any function of kinds gives the same list
-- on the nodes as on the kinds in that order, and the same values on the nodes as on the kinds
-- that are found.
pub record AreNodesInOrder (kinds : List Kind) (potentials order : List ℕ) (nodes : List Node) : Type 0 where
  pub each : nodes ≡ map (node_numbered kinds potentials) order
  pub in_order : (tell : Kind → PrefixKind)
      → map (λ node. tell node.kind) nodes ≡ map (λ number. tell (kind_numbered kinds number)) order
  pub same : (tell : Kind → PrefixKind) (k : PrefixKind)
      → Contains (map (λ node. tell node.kind) nodes) k ↔ Contains (map tell kinds) k
