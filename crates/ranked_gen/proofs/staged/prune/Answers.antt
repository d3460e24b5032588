use Rattle.std.proofs.Common.{◌≡◌, ◌<◌, map, length, get_or, refl, ap, sym, ◌∙◌, subst, arith}
use Rattle.std.proofs.lemmas.List.{get_or_default, length-map}
use Rattle.arc_table.specs.States.{states_of}
use Rattle.kind_tables.proofs.Weighing.{sizes_fit}
use Rattle.stage_tables.specs.Explored.{names_at}
use Rattle.kind_orders.specs.StageNodes.{AreNodesInOrder}
use Rattle.ranked_gen.specs.Left.{IsCountedOutcome, weight_number}
use Rattle.ranked_gen.proofs.{KindsLeft.{numbers_inside, kinds_left, left_few}, StageShapes.kinds_found}
use Rattle.ranked_gen.proofs.StepStage.{staged}
use Rattle.kind_moves.specs.Frames.{problem_in}
use Rattle.ranked_gen.proofs.staged.prune.Goals as goal

pub to_final-requires : goal.to_final-requires
to_final-requires c =
    let frame = c.args.frame.now in
    sizes_fit (problem_in frame) c.args.stage (names_at frame c.args.stage c.args.kinds.now)
    (states_of c.args.table.now) c.requires.table refl 4294967295 (omega (arith, c.args.table.now.few))

pub order_of_kinds-requires-clause-found : goal.order_of_kinds-requires-clause-found
order_of_kinds-requires-clause-found c =
    let frame = c.args.frame.now in
    kinds_found frame frame.shape frame.shape_of c.args.stage c.requires.within c.args.kinds.now c.requires.fit
    c.requires.table.named.distinct

pub tight-requires-clause-sizes : goal.tight-requires-clause-sizes
tight-requires-clause-sizes c =
    let frame = c.args.frame.now in
    sizes_fit (problem_in frame) c.args.stage (names_at frame c.args.stage c.args.kinds.now)
    (states_of c.args.table.now) c.requires.table refl 4294967295 (omega (arith, c.args.table.now.few))

pub kinds_of-requires : goal.kinds_of-requires
kinds_of-requires c =
    let kept = c.in_ok-kept.kept in
    rw c.deref-5.ensures.value (numbers_inside c.args.frame.now c.args.stage c.requires.within c.args.kinds.now
    (states_of c.args.table.now) c.requires.table.named c.requires.fit
    (states_of kept.table) kept.states.items c.in_ok-kept.ensures)

pub returns-clause-staged : goal.returns-clause-staged
returns-clause-staged c =
    let frame = c.args.frame.now in
    let kinds = c.args.kinds.now in
    let states = states_of c.args.table.now in
    let least = c.in_ok-least.least.items in
    let shape = frame.shape in
    let order = c.in_ok-order.order.items in
    let nodes = c.in_ok-nodes.nodes.nodes.items in
    let kept = c.in_ok-kept.kept in
    let numbers : c.in-Ok.potentials.items ≡ map weight_number least = c.in-Ok.ensures
    ∙ ap (map weight_number) c.deref.ensures.value in
    let listed : AreNodesInOrder kinds (map weight_number least) order nodes =
    subst (λ ns. AreNodesInOrder kinds ns order nodes) (c.deref-2.ensures.value ∙ numbers)
    (subst (λ ns. AreNodesInOrder kinds c.deref-2.result.now ns nodes) c.deref-3.ensures.value
    c.in_ok-nodes.ensures) in
    let long = ap length numbers ∙ length-map least weight_number in
    let inside : 0 < length c.in-Ok.potentials.items = omega
    (arith, long, c.in_ok-least.ensures.each_state, c.args.table.now.some) in
    let value : c.index.result.now ≡ get_or c.in-Ok.potentials.items 0 0 = c.index.ensures
    ∙ get_or_default c.in-Ok.potentials.items 0 c.index.result.now 0 inside in
    let first : get_or (map weight_number least) 0 0
    ≡ c.index.result.now = sym (value ∙ ap (λ ns. get_or ns 0 0) numbers) in
    subst (λ n. IsCountedOutcome (problem_in frame) c.args.stage nodes n (states_of kept.table) kept.states.items order)
    first
    (staged frame c.args.stage c.requires.within kinds refl states c.requires.table least c.in_ok-least.ensures shape
    frame.shape_of order c.in_ok-order.ensures nodes listed
    (states_of kept.table) kept.states.items c.in_ok-kept.ensures kept.table.some kept.table.targets kept.table.filled
    c.requires.fit)

pub returns-clause-kinds : goal.returns-clause-kinds
returns-clause-kinds c =
    let kept = c.in_ok-kept.kept in
    kinds_left c.args.frame.now c.args.stage c.requires.within c.args.kinds.now (states_of c.args.table.now)
    c.requires.table.named c.requires.fit (states_of kept.table) kept.states.items c.in_ok-kept.ensures
    kept.table.some kept.table.targets kept.table.filled c.in_ok-left.left.items
    (c.in_ok-left.ensures ∙ ap (map _) c.deref-5.ensures.value)

pub returns-clause-few : goal.returns-clause-few
returns-clause-few c =
    let kept = c.in_ok-kept.kept in
    left_few c.args.frame.now c.args.stage c.requires.within c.args.kinds.now (states_of c.args.table.now)
    c.requires.table.named c.requires.fit (states_of kept.table) kept.states.items c.in_ok-kept.ensures
    kept.table.some kept.table.targets kept.table.filled c.in_ok-left.left.items
    (c.in_ok-left.ensures ∙ ap (map _) c.deref-5.ensures.value)
