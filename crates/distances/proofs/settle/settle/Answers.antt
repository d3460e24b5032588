use Rattle.std.proofs.Common.{◌≡◌, ◌<◌, None, Some, length, get_or, sym, ap, ◌∙◌, arith}
use Rattle.distances.proofs.Settling.{known_inside, kept_both, sources_each, lawful_each, sizes_each, incoming-kept}
use Rattle.distances.proofs.settle.settle.Goals as goal

pub relax-requires : goal.relax-requires
relax-requires g c =
    let laws = g.met.W.Weight.laws in
    let table = c.args.table.now in
    let incoming = c.args.incoming.now in
    let least = c.loop-turn.least.items in
    let top = c.in-Some.top in
    let same = c.loop-turn.invariant.each_state in
    let known : get_or least top.state None
    ≡ Some top.weight = sym (c.known_at.ensures ∙ ap (λ l. get_or l top.state None) c.deref.ensures.value)
    ∙ c.differ.ensures.0 c.if-differ.false in
    let ins : top.state < length table.states.items = omega
    (arith, known_inside least top.state top.weight known, same) in
    rw c.moves_to.ensures
    (record {
      inside = sources_each laws table.states.items table.targets incoming c.requires.turned top.state ins
          (length least) same;
      lawful = top.lawful;
      weights = lawful_each laws table.states.items table.targets incoming c.requires.turned top.state ins;
      sizes = sizes_each laws table.states.items table.targets incoming c.requires.turned top.state ins
          c.requires.sizes least c.loop-turn.invariant.witnessed top.weight known;
    })

pub loop-turn-preserved : goal.loop-turn-preserved
loop-turn-preserved g c =
    let laws = g.met.W.Weight.laws in
    let table = c.args.table.now in
    let least = c.loop-turn.least.items in
    let top = c.in-Some.top in
    let inv = c.loop-turn.invariant in
    let known : get_or least top.state None
    ≡ Some top.weight = sym (c.known_at.ensures ∙ ap (λ l. get_or l top.state None) c.deref.ensures.value)
    ∙ c.differ.ensures.0 c.if-differ.false in
    let ins : top.state < length table.states.items = omega
    (arith, known_inside least top.state top.weight known, inv.each_state) in
    rw (c.in_ok-relax.ensures, c.moves_to.ensures)
    (kept_both laws table.states.items c.args.least.now.items least _ inv
    (incoming-kept laws table.states.items table.targets c.args.incoming.now c.requires.turned top.state ins least
    inv.witnessed inv.each_state top.weight top.lawful known))
