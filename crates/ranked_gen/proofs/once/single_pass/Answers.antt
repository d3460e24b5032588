use Rattle.std.proofs.Common.{◌≡◌, ◌<◌, ◌≤◌, List, Option, None, map, take, length, get_or, refl, ap, sym, ◌∙◌}
use Rattle.std.proofs.{Common.{subst, arith}, lemmas.List.get_or_default}
use Rattle.std.specs.Prelude.{IsSome}
use Rattle.arc_table.specs.States.{states_of}
use Rattle.tier_core.specs.declared.kind.Kind.{Kind}
use Rattle.weight_law.specs.declared.ranked.Ranked.{Ranked}
use Rattle.violation.specs.Problems.{last_stage}
use Rattle.kind_moves.specs.Frames.{problem_in}
use Rattle.kind_tables.proofs.VectorWeights.{vectors_fit}
use Rattle.stage_laws.proofs.Resting.{some_weight}
use Rattle.stage_tables.specs.Explored.{names_at}
use Rattle.kind_orders.specs.KindOrders.{AreDistinctKinds, IsKindOrder}
use Rattle.ranked_gen.specs.Once.{weight_found, once_node}
use Rattle.ranked_gen.proofs.{StageShapes.kinds_found, OnceSteps.once_part}
use Rattle.ranked_gen.proofs.once.single_pass.Goals as goal

pub to_final-requires : goal.to_final-requires
to_final-requires c =
    let problem = problem_in c.args.frame.now in
    let table = c.in_ok-table.table in
    vectors_fit problem refl (names_at c.args.frame.now (last_stage problem) c.args.found.now.kinds.items)
    (states_of table) c.in_ok-table.ensures 4294967295 (omega (arith, table.few))

pub order_of_kinds-requires-clause-found : goal.order_of_kinds-requires-clause-found
order_of_kinds-requires-clause-found c =
    let frame = c.args.frame.now in
    let kinds = c.args.found.now.kinds.items in
    let shape = frame.shape in
    let number : c.len-number.result ≡ last_stage (problem_in frame) = omega
    (arith, c.len-number.ensures, frame.grammar.now.constraints.ok) in
    let all : last_stage (problem_in frame) ≤ last_stage (problem_in frame) = omega arith in
    subst (λ (ks : List Kind). AreDistinctKinds shape c.len-number.result ks) (sym c.deref.ensures.value)
    (subst (λ n. AreDistinctKinds shape n kinds) (sym number)
    (kinds_found frame shape frame.shape_of
    (last_stage (problem_in frame)) all kinds c.requires.fit c.requires.named.distinct))

pub tight-requires-clause-sizes : goal.tight-requires-clause-sizes
tight-requires-clause-sizes c =
    let problem = problem_in c.args.frame.now in
    let table = c.in_ok-table.table in
    vectors_fit problem refl (names_at c.args.frame.now (last_stage problem) c.args.found.now.kinds.items)
    (states_of table) c.in_ok-table.ensures 4294967295 (omega (arith, table.few))

pub tight-requires-clause-start : goal.tight-requires-clause-start
tight-requires-clause-start c =
    let table = c.in_ok-table.table in
    let some : 0 < length (states_of table) = table.some in
    subst (λ (xs : List (Option Ranked)). IsSome (get_or xs 0 None)) (sym c.deref-5.ensures.value)
    (some_weight (states_of table) c.in_ok-least.least.items c.in_ok-least.ensures 0 some
    (c.in_ok-table.ensures.on_runs 0 some))

pub returns : goal.returns
returns c =
    let frame = c.args.frame.now in
    let kinds = c.args.found.now.kinds.items in
    let table = c.in_ok-table.table in
    let least = c.in_ok-least.least.items in
    let shape = frame.shape in
    let order = c.in_ok-order.order.items in
    let nodes = c.in-Ok.nodes.items in
    let counts = c.in-Ok-first_parts.counts.items in
    let kept = c.in_ok-kept.kept in
    let number : c.len-number.result ≡ last_stage (problem_in frame) = omega
    (arith, c.len-number.ensures, frame.grammar.now.constraints.ok) in
    let sorted : IsKindOrder shape (last_stage (problem_in frame)) kinds order =
    subst (λ n. IsKindOrder shape n kinds order) number
    (subst (λ
    (ks : List Kind). IsKindOrder shape c.len-number.result ks order) c.deref.ensures.value c.in_ok-order.ensures)
    in
    let listed : nodes ≡ map (once_node kinds least) order =
    c.in-Ok.ensures
    ∙ ap (λ (ks : List Kind). map (once_node ks c.deref-3.result.now) c.deref-4.result.now) c.deref-2.ensures.value
    ∙ ap (λ (ws : List (Option Ranked)). map (once_node kinds ws) c.deref-4.result.now) c.deref-3.ensures.value
    ∙ ap (map (once_node kinds least)) c.deref-4.ensures.value in
    let inside : 0 < length least = omega (arith, c.in_ok-least.ensures.each_state, table.some) in
    let first : c.index.result.now ≡ get_or least 0 None = c.index.ensures
    ∙ get_or_default least 0 c.index.result.now None inside in
    let found : c.weight_found.result ≡ weight_found (get_or least 0 None) = c.weight_found.ensures
    ∙ ap weight_found first in
    let is : counts ≡ take (last_stage (problem_in frame)) (weight_found (get_or least 0 None)).parts =
    c.in-Ok-first_parts.ensures
    ∙ ap (λ n. take n c.weight_found.result.parts) number
    ∙ ap (λ (w : Ranked). take (last_stage (problem_in frame)) w.parts) found in
    once_part frame kinds refl
    (states_of table) c.in_ok-table.ensures least c.in_ok-least.ensures shape frame.shape_of order sorted
    nodes listed
    (states_of kept.table) kept.states.items c.in_ok-kept.ensures kept.table.some kept.table.targets kept.table.filled
    counts is c.requires.fit
