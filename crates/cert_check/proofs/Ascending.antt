-- The kinds of a stage in which no node is wrong ascend.
use Rattle.std.proofs.Common.{◌≡◌, ℕ, zero, suc, ◌+◌, ◌-◌, ◌<◌, ◌≤◌, List, [], ◌∷◌, length, get_or, slice_get, Some}
use Rattle.std.proofs.{Common.{None, Option, refl, ap, ◌∙◌, arith}, lemmas.List.length-map}
use Rattle.std.proofs.lemmas.Map.Keys.{sorted_from_all_adjacent}
use Rattle.std.proofs.lemmas.Option.{slice_get-get_or, get_or_from_slice_get}
use Rattle.std.specs.{List.Sorted.IsStrictlySortedBy, declared.cmp.Ordering.TheVariants.Less}
use Rattle.tier_core.specs.Kinds.{PrefixKind, kind_order}
use Rattle.violation.specs.{Prefixes.{kind_of, kind_of_bits}, Problems.Problem}
use Rattle.answer_text.specs.{declared.stage.Node.Node, declared.answer.Answer.Answer, Right.{nodes_at, kinds_at}}
use Rattle.tier_core.proofs.KindTies.{kind_order_total}
use Rattle.cert_check.specs.Faults.{HasNode, HasWrongNode}
use Rattle.cert_check.proofs.{Decisions.{so_unless, is_less}, Faultless.node_kind}

pub none_there : (ns : List Node) (n : ℕ) → n < length ns → slice_get ns n ≡ None → ⊥
none_there [] n l e = absurd (omega (arith, l))
none_there (node ∷ ns) zero l e = cc
none_there (node ∷ ns) (suc n) l e = none_there ns n (omega (arith, l)) e

node_of : (o : Option Node) (ns : List Node) (n : ℕ) → n < length ns → slice_get ns n ≡ o
    → (node : Node) × (slice_get ns n ≡ Some node)
node_of (Some node) ns n l e = (node, e)
node_of None ns n l e = absurd (none_there ns n l e)

module _ (problem : Problem) (answer : Answer) (r : ℕ) (within : r < length answer.stages.items) where
  abbrev nodes : List Node
  nodes = nodes_at answer.stages.items r

  abbrev kinds : List PrefixKind
  kinds = kinds_at problem r (nodes_at answer.stages.items r)

  abbrev told : Node → PrefixKind
  told node = kind_of_bits problem r node.kind

  -- there is a node with each number
  pub node_at : (n : ℕ) → n < length kinds → (node : Node) × HasNode answer r n node
  node_at n l = let found = node_of _ _ n (omega (arith, l, length-map nodes told)) refl in
      (found.0, record { within = within; numbered = found.1 })

  -- and the kind with its number is the one that it tells
  pub kind_at : (n : ℕ) (node : Node) → HasNode answer r n node → get_or kinds n (kind_of problem r []) ≡ told node
  kind_at n node is = get_or_from_slice_get _ n _ _ (node_kind problem _ r n _ is)

  after : ((n : ℕ) → HasWrongNode problem answer r n → ⊥) → (n : ℕ) (node : Node) → HasNode answer r n node
      → (l : PrefixKind) → 1 ≤ n → slice_get kinds (n - 1) ≡ Some l → kind_order l (told node) ≡ Less
  after right n node is l some e = so_unless (is_less _)
      (λ no. right n (record { node = node; is = is; wrong = λ o. no (o.after l some e) }))

  pub ascends_unless : ((n : ℕ) → HasWrongNode problem answer r n → ⊥) → IsStrictlySortedBy kind_order kinds
  ascends_unless right = sorted_from_all_adjacent kind_order_total kinds (kind_of problem r []) (λ k l.
      let node = node_at _ l in
      rw ((kind_at (k + 1) node.0 node.1)) (after right _ _ node.1 _ (omega arith)
      (ap (slice_get kinds) (let e : k + 1 - 1 ≡ k = omega arith in e) ∙ slice_get-get_or _ k _ (omega (arith, l)))))
