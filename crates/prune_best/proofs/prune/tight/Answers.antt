use Rattle.std.proofs.{Common.{◌≡◌, ◌+◌, ◌<◌, length, ap, ◌∙◌, arith}, lemmas.List.length_push}
use Rattle.prune_best.proofs.{Numbering.{names_few, numbered_below, next_named}, SoFar.{so_far-push, so_far-start}}
use Rattle.prune_best.proofs.Words.{is_tight, new_targets, new_filled, new_width, new_disjoint}
use Rattle.prune_best.proofs.prune.tight.Goals as goal

pub making-init : goal.making-init
making-init g c =
    let made = c.in_ok-_start.ensures in
    let full : length c.in_ok-numbers.numbers.items
    ≡ length c.args.table.now.states.items = omega
    (arith, c.in_ok-numbers.ensures.len, c.in_ok-numbers.numbers.ok, c.len.ensures) in
    record {
      same = made.same ∙ full;
      numbered = made.numbered;
      so_far = so_far-start c.args.table.now.states.items c.args.least.now c.number_state.new.names.items
          c.in_ok-_start._start c.new-states.result.items c.new-states.ensures.items
          (rw c.new-names.ensures.items at made.grows) c.requires.start;
    }

pub new_state-requires : goal.new_state-requires
new_state-requires g c =
    let names = c.making.names.items in
    let new = c.making.states.items in
    let inv = c.making.invariant in
    let named = next_named names new c.len-in-making.result c.len-in-making-3.result c.index-old.result.now
    (omega (arith, c.len-in-making.ensures, c.making.states.ok))
    (omega (arith, c.making-test.true, c.len-in-making-2.ensures, c.making.names.ok))
    (omega (arith, c.len-in-making-3.ensures, c.making.states.ok)) c.index-old.ensures in
    record {
      inside = omega (
        arith,
        numbered_below names c.making.numbers.items inv.numbered (length new) c.index-old.result.now named,
        inv.same,
      );
      sizes = c.requires.sizes;
      least = c.requires.least;
      weighed = inv.so_far.weighed (length new) c.index-old.result.now named;
      same = inv.same;
      numbered = inv.numbered;
    }

pub making-smaller : goal.making-smaller
making-smaller g c =
    let names = c.making.names.items in
    let new = c.making.states.items in
    let inv = c.making.invariant in
    let inside : length new < length names = omega (
      arith,
      c.making-test.true,
      c.len-in-making.ensures,
      c.len-in-making-2.ensures,
      c.making.states.ok,
      c.making.names.ok,
    ) in
    let few = names_few names c.making.numbers.items inv.numbered in
    let more : length c.push.new.self.items ≡ length new + 1 = ap (λ xs. length xs) c.in_ok-push.ensures.items
    ∙ length_push new c.in_ok-state.state in
    omega (arith, c.in_ok-state.ensures.same, more, few, inside)

pub making-preserved : goal.making-preserved
making-preserved g c =
    let names = c.making.names.items in
    let new = c.making.states.items in
    let inv = c.making.invariant in
    let done = c.in_ok-state.ensures in
    let named = next_named names new c.len-in-making.result c.len-in-making-3.result c.index-old.result.now
    (omega (arith, c.len-in-making.ensures, c.making.states.ok))
    (omega (arith, c.making-test.true, c.len-in-making-2.ensures, c.making.names.ok))
    (omega (arith, c.len-in-making-3.ensures, c.making.states.ok)) c.index-old.ensures in
    record {
      same = done.same ∙ inv.same;
      numbered = done.numbered;
      so_far = rw c.in_ok-push.ensures.items
          (so_far-push c.args.table.now.states.items c.args.least.now names c.new_state.new.names.items new
          c.in_ok-state.state c.index-old.result.now inv.so_far named done.made done.names);
    }

pub of_states-requires : goal.of_states-requires
of_states-requires g c =
    let laws = g.met.W.Weight.laws in
    let table = c.args.table.now in
    let least = c.args.least.now in
    let are = c.requires.least in
    let names = c.making.names.items in
    let new = c.making.states.items in
    let inv = c.making.invariant in
    let all : length new ≡ length names = omega (
      arith,
      c.making-test.false,
      c.len-in-making.ensures,
      c.len-in-making-2.ensures,
      c.making.states.ok,
      c.making.names.ok,
      inv.so_far.within,
    ) in
    record {
      some = omega (arith, all, inv.so_far.start.0);
      few = omega (arith, names_few names c.making.numbers.items inv.numbered, inv.same, table.few, all);
      targets = new_targets laws table.states.items table.targets least are names new inv.so_far all;
      disjoint = new_disjoint laws table.states.items table.targets least are names new inv.so_far all table.disjoint;
      filled = new_filled laws table.states.items table.targets least are names new inv.so_far all table.filled;
      one_width = new_width laws table.states.items table.targets least are names new inv.so_far all table.one_width;
    }

pub returns : goal.returns
returns g c =
    let inv = c.making.invariant in
    let all : length c.making.states.items
    ≡ length c.making.names.items = omega (
      arith,
      c.making-test.false,
      c.len-in-making.ensures,
      c.len-in-making-2.ensures,
      c.making.states.ok,
      c.making.names.ok,
      inv.so_far.within,
    ) in
    rw c.of_states.ensures
    (is_tight g.met.W.Weight.laws c.args.table.now.states.items c.args.table.now.targets c.args.least.now
    c.requires.least c.making.names.items c.making.states.items inv.so_far all c.args.table.now.filled
    c.making.numbers.items inv.numbered inv.same)
