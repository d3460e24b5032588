use Rattle.std.proofs.{Common.{◌≡◌, map, sym, ◌∙◌}, lemmas.List.Sorted.{All-permutation, IsPermutation-map}}
use Rattle.std.proofs.lemmas.List.Elements.{All-cons}
use Rattle.std.specs.BinaryHeap.{heap_items}
use Rattle.distances.proofs.Waits.{ends_without, ends_with}
use Rattle.distances.proofs.settle.ends.Goals as goal

pub loop-state-preserved-then-not-accepting : goal.loop-state-preserved-then-not-accepting
loop-state-preserved-then-not-accepting g c = record {
  each = ends_without c.args.table.now.states.items c.loop-state.state
      (map (λ waiting. waiting.state) (heap_items c.loop-state.heap))
      (sym c.accepting.ensures ∙ c.if-not-accepting.true) c.loop-state.invariant.each;
  zero = c.loop-state.invariant.zero;
}

pub loop-state-preserved : goal.loop-state-preserved
loop-state-preserved g c = record {
  each = ends_with c.args.table.now.states.items c.loop-state.state
      (map (λ waiting. waiting.state) (heap_items c.loop-state.heap))
      (map (λ waiting. waiting.state) (heap_items c.push.new.self))
      (sym c.accepting.ensures ∙ c.if-not-accepting.false) c.loop-state.invariant.each
      (IsPermutation-map (λ waiting. waiting.state) _ _ c.in_ok-push.ensures.permutation);
  zero = All-permutation (λ waiting. waiting.weight ≡ g.W.Weight.meaning.zero) _ _
      c.in_ok-push.ensures.permutation
      (All-cons (λ waiting. waiting.weight ≡ g.W.Weight.meaning.zero) _ _ c.zero.ensures
      c.loop-state.invariant.zero);
}
