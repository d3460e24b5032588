use Rattle.std.proofs.Common.{◌≡◌, ◌≢◌, ◌<◌, length, ap, sym, ◌∙◌, subst, All, AllPairs}
use Rattle.kind_orders.proofs.ByNode.{nodes_once, nodes_below}
use Rattle.kind_orders.proofs.automaton.lines_by_node.Goals as goal

pub states_by_node-requires-clause-below : goal.states_by_node-requires-clause-below
states_by_node-requires-clause-below c =
    subst (All (λ node. node < length c.args.ranks.now)) (sym (c.deref.ensures.value ∙ c.in_ok-nodes.ensures))
    (nodes_below c.args.ranks.now c.args.states.now c.requires.ranks c.requires.kinds)

pub states_by_node-requires-clause-once : goal.states_by_node-requires-clause-once
states_by_node-requires-clause-once c =
    subst (AllPairs (λ a b. a ≢ b)) (sym (c.deref.ensures.value ∙ c.in_ok-nodes.ensures))
    (nodes_once c.args.ranks.now c.args.states.now c.requires.ranks c.requires.kinds c.requires.once)

pub all_lines-requires-clause-once : goal.all_lines-requires-clause-once
all_lines-requires-clause-once c =
    subst (AllPairs (λ a b. a ≢ b)) (sym (c.deref-2.ensures.value ∙ c.in_ok-nodes.ensures))
    (nodes_once c.args.ranks.now c.args.states.now c.requires.ranks c.requires.kinds c.requires.once)

pub all_lines-requires-clause-below : goal.all_lines-requires-clause-below
all_lines-requires-clause-below c =
    let count : length c.args.ranks.now ≡ length c.deref-3.result.now = sym
    (ap length c.deref-3.ensures.value ∙ c.in_ok-by_node.ensures.count) in
    subst (λ n. All (λ node. node < n) c.deref-2.result.now) count
    (subst (All (λ node. node < length c.args.ranks.now)) (sym (c.deref-2.ensures.value ∙ c.in_ok-nodes.ensures))
    (nodes_below c.args.ranks.now c.args.states.now c.requires.ranks c.requires.kinds))

pub returns : goal.returns
returns c = rw (c.deref-2.ensures.value, c.in_ok-nodes.ensures) at c.all_lines.ensures
