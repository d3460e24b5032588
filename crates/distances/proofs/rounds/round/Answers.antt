use Rattle.std.proofs.Common.{◌≡◌, ◌<◌, ◌+◌, ◌-◌, ℕ, Option, None, List, length, get_or, sym, ap, ◌∙◌, subst, arith}
use Rattle.std.proofs.{lemmas.Bool.or_parts, lemmas.List.{get_or_read, length-set}}
use Rattle.arc_table.specs.Moves.{moves_at}
use Rattle.distances.specs.{Best.best_of, Rounds.{IsCoveredFrom, AreClosedFrom}}
use Rattle.arc_table.proofs.Push.{targets_each}
use Rattle.distances.proofs.Ends.{fits_each}
use Rattle.distances.proofs.Steps.{step-witnessed, step-covered, step-covered_more, step-same, step-closed}
use Rattle.distances.proofs.rounds.round.Goals as goal

pub best-found-requires-clause-targets : goal.best-found-requires-clause-targets
best-found-requires-clause-targets g c =
    rw c.arcs.ensures (targets_each c.args.table.now.states.items c.args.table.now.targets
    (length c.loop-done.least) c.loop-done.invariant.each_state (c.len-count.result - 1 - c.loop-done.done))

pub best-found-requires-clause-sizes : goal.best-found-requires-clause-sizes
best-found-requires-clause-sizes g c =
    rw c.arcs.ensures
    (fits_each g.met.W.Weight.laws c.args.table.now.states.items 4294967295 c.args.table.now.targets
    c.requires.sizes (omega arith) c.loop-done.least c.loop-done.invariant.witnessed
    (c.len-count.result - 1 - c.loop-done.done))

pub loop-done-preserved : goal.loop-done-preserved
loop-done-preserved g c =
    let laws = g.met.W.Weight.laws in
    let states = c.args.table.now.states.items in
    let exist = c.args.table.now.targets in
    let least = c.loop-done.least in
    let s = c.len-count.result - 1 - c.loop-done.done in
    let inv = c.loop-done.invariant in
    let wit = inv.witnessed in
    let own = moves_at states s in
    let inside : s < length states = omega (arith, c.loop-done-test.true, c.len-count.ensures) in
    let within : s < length least = omega (arith, inv.each_state) in
    let before : length states - c.loop-done.done ≡ s + 1 = omega (arith, c.loop-done-test.true, c.len-count.ensures) in
    let after : s ≡ length states - (c.loop-done.done + 1) = omega
    (arith, c.loop-done-test.true, c.len-count.ensures) in
    let known-is : c.index-least-state.result
    ≡ get_or least s None = get_or_read least s c.index-least-state.result within c.index-least-state.is None in
    let found-is : c.best-found.result ≡ best_of least (get_or least s None) (moves_at states s) =
    c.best-found.ensures ∙ (ap (λ o. best_of least o c.arcs.result.now) known-is
    ∙ ap (λ moves. best_of least (get_or least s None) moves) c.arcs.ensures) in
    record {
      each_state = length-set least s c.best-found.result ∙ inv.each_state;
      witnessed = rw found-is (step-witnessed laws states least wit s within own (λ arc h. h));
      covered = λ k cov. rw found-is (step-covered laws states least wit s within own (λ arc h. h) k
          (inv.covered k cov));
      more = λ k cov.
          (let P : ℕ → Type 0 = λ n. IsCoveredFrom states least n (k + 1) in
          rw (sym after, found-is) (step-covered_more laws states least wit s within own (λ arc h. h)
          (λ arc h. h) exist k inside (inv.covered k cov) (subst P before (inv.more k cov))));
      closed = λ h.
          (let parts = or_parts c.loop-done.changed c.differ-changed.result h in
          let same = sym known-is ∙ (c.differ-changed.ensures.0 parts.1 ∙ found-is) in
          let P : List (Option g.row.W.Denot) → Type 0 = λ l. AreClosedFrom states l s in
          let Q : ℕ → Type 0 = λ n. AreClosedFrom states least n in
          rw (sym after, found-is) (subst P (sym (step-same laws states least wit s within own (λ arc h. h) same))
          (step-closed laws states least wit s within own (λ arc h. h) (λ arc h. h) same
          (subst Q before (inv.closed parts.0)))));
    }

pub returns-clause-covered : goal.returns-clause-covered
returns-clause-covered g c k cov =
    let states = c.args.table.now.states.items in
    λ s arcs inside. c.loop-done.invariant.more k cov s arcs
    (omega (arith, c.loop-done-test.false, c.len-count.ensures)) inside

pub returns-clause-closed : goal.returns-clause-closed
returns-clause-closed g c same =
    let states = c.args.table.now.states.items in
    λ s arc w inside. c.loop-done.invariant.closed same s arc w
    (omega (arith, c.loop-done-test.false, c.len-count.ensures)) inside
