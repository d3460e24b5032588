use Rattle.std.proofs.Common.{◌≡◌, ◌<◌, Bool, false, Some, List, length, map, sym, ap, ◌∙◌, arith}
use Rattle.std.proofs.lemmas.List.{length-map}
use Rattle.distances.specs.Best.{nothing_yet}
use Rattle.distances.proofs.{Turns.one_more_value, rounds.initial_weights.Goals.{then-accepting, else-accepting}}
use Rattle.distances.proofs.rounds.initial_weights.Goals as goal

pub loop-state-preserved : goal.loop-state-preserved
loop-state-preserved g c =
    let f = nothing_yet g.W.Weight.meaning in
    let s = c.loop-state.state in
    let ends : List Bool = map (λ state. state.accepting) c.args.table.now.states.items in
    let known : c.if-accepting.known ≡ f c.accepting.result = elim c.if-accepting.branch [
      | then-accepting w ↦ w.known-is ∙ ap Some w.zero.ensures ∙ ap f (sym w.if-accepting.true)
      | else-accepting w ↦ w.known-is ∙ ap f (sym w.if-accepting.false)
    ] in
    let inside : s < length ends = omega (
      arith,
      c.loop-state-test.true,
      c.len-state-end.ensures,
      length-map c.args.table.now.states.items (λ state. state.accepting),
    ) in
    one_more_value f ends s false c.loop-state.least.items c.push.new.self.items c.if-accepting.known inside
    c.loop-state.invariant c.in_ok-push.ensures.items (known ∙ ap f c.accepting.ensures)
