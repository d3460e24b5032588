use Rattle.std.proofs.{Common.{◌++◌, map, ap, ◌∙◌, arith}, lemmas.Result.on_ok_weaker}
use Rattle.symbol_class.specs.Held.{width_of}
use Rattle.kind_orders.specs.JoinedLines.{arc_to}
use Rattle.kind_orders.proofs.GroupSteps.{adds_joined, adds_one}
use Rattle.kind_orders.proofs.joined_arcs.push_joined.Goals as goal

pub returns-then-classes-lt2 : goal.returns-then-classes-lt2
returns-then-classes-lt2 c = on_ok_weaker c.push_arcs.result
    (λ is. adds_one c.args.target (width_of c.args.classes.now) c.args.classes.now c.args.arcs.now.items
    c.push_arcs.new.arcs.items (omega arith) c.requires is) c.push_arcs.ensures

pub returns : goal.returns
returns c =
    let old = c.args.arcs.now.items in
    let made = c.in_ok-joined.ensures in
    on_ok_weaker c.push_arcs-2.result
    (λ is. adds_joined c.args.target (width_of c.args.classes.now) c.args.classes.now c.in_ok-joined.joined.items old
    c.push_arcs-2.new.arcs.items c.requires made.pieces made.columns made.differ made.sorted
    (is ∙ ap (λ cs. old ++ map (arc_to c.args.target) cs) c.deref.ensures.value)) c.push_arcs-2.ensures
