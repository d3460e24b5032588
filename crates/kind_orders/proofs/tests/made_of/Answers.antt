use Rattle.std.proofs.Common.{◌≡◌, ◌≢◌, ℕ, ◌<◌, ◌^◌, List, [], ◌∷◌, length, ap, sym, subst, arith}
use Rattle.std.proofs.{lemmas.List.Elements.{All-cons, All-nil}, lemmas.List.Kept.AllPairs-cons, lemmas.Nat.pow_pos}
use Rattle.tier_core.specs.{declared.kind.Kind.Kind, declared.shape.Shape.Shape, Kinds.PrefixKind}
use Rattle.tier_core.specs.KindShapes.{FitsShape, free_count, stretch_count, kind_in}
use Rattle.kind_orders.specs.{KindOrders.AreDistinctKinds, Orderings.IsOrdering}
use Rattle.kind_orders.proofs.AnswerParts.{ordering_of_own}
use Rattle.kind_orders.proofs.tests.made_of.Goals as goal

small : (shape : Shape) (kind : Kind) → free_count shape ≡ 1 → length shape.phases.items ≡ 1 → kind.opened < 2
    → kind.unmet ≡ 0 → kind.met ≡ 0 → FitsShape shape 0 kind
small shape kind free one opened unmet met = record {
  within = omega arith;
  opened = subst (λ n. kind.opened < 2 ^ n) (sym free) opened;
  stretches = record {
    unmet = omega (arith, unmet, pow_pos (stretch_count shape 0));
    met = omega (arith, met, pow_pos (stretch_count shape 0));
  };
}

other_place : (shape : Shape) (a b : Kind) → a.place ≢ b.place → kind_in shape 0 a ≢ kind_in shape 0 b
other_place shape a b other e = other (ap (λ (k : PrefixKind). k.place) e)

three : (shape : Shape) (a b c : Kind) → FitsShape shape 0 a → FitsShape shape 0 b → FitsShape shape 0 c
    → a.place ≢ b.place → a.place ≢ c.place → b.place ≢ c.place → AreDistinctKinds shape 0 (a ∷ b ∷ c ∷ [])
three shape a b c fa fb fc ab ac bc =
    record {
      fit = All-cons (FitsShape shape 0) a (b ∷ c ∷ []) fa
          (All-cons (FitsShape shape 0) b (c ∷ []) fb
          (All-cons (FitsShape shape 0) c [] fc (All-nil (FitsShape shape 0))));
      differ = AllPairs-cons (λ k l. kind_in shape 0 k ≢ kind_in shape 0 l) a (b ∷ c ∷ [])
          (All-cons (λ l. kind_in shape 0 a ≢ kind_in shape 0 l) b (c ∷ []) (other_place shape a b ab)
          (All-cons (λ l. kind_in shape 0 a ≢ kind_in shape 0 l) c [] (other_place shape a c ac)
          (All-nil (λ l. kind_in shape 0 a ≢ kind_in shape 0 l))))
          (AllPairs-cons (λ k l. kind_in shape 0 k ≢ kind_in shape 0 l) b (c ∷ [])
          (All-cons (λ l. kind_in shape 0 b ≢ kind_in shape 0 l) c [] (other_place shape b c bc)
          (All-nil (λ l. kind_in shape 0 b ≢ kind_in shape 0 l)))
          (AllPairs-cons (λ k l. kind_in shape 0 k ≢ kind_in shape 0 l) c []
          (All-nil (λ l. kind_in shape 0 c ≢ kind_in shape 0 l)) (λ i j d less inside. absurd (omega arith))));
    }

pub ranks-requires : goal.ranks-requires
ranks-requires c =
    subst (λ (xs : List ℕ). IsOrdering (length xs) xs) (sym c.deref.ensures.value)
    (ordering_of_own 3 c.in_ok-order.order.items c.in_ok-order.ensures.numbers)

pub stage_of-requires-clause-order : goal.stage_of-requires-clause-order
stage_of-requires-clause-order c = subst (IsOrdering 3) (sym c.deref-2.ensures.value) c.in_ok-order.ensures.numbers

pub automaton_of-requires-clause-ranks : goal.automaton_of-requires-clause-ranks
automaton_of-requires-clause-ranks c =
    subst (λ (xs : List ℕ). IsOrdering (length xs) xs) (sym c.deref-3.ensures.value)
    (ordering_of_own _ c.in_ok-ranks.ranks.items c.in_ok-ranks.ensures.numbers)

pub automaton_of-requires-clause-kinds : goal.automaton_of-requires-clause-kinds
automaton_of-requires-clause-kinds c =
    let few = c.in_ok-ranks.ensures.numbers.count in
    let long = c.in_ok-order.ensures.numbers.count in
    All-cons (λ kind. kind < length c.deref-3.result.now) 1 []
    (omega (arith, few, long, ap length c.deref.ensures.value, ap length c.deref-3.ensures.value))
    (All-nil (λ kind. kind < length c.deref-3.result.now))

pub order_of_kinds-requires-clause-found : goal.order_of_kinds-requires-clause-found
order_of_kinds-requires-clause-found c =
    let s = c.args.shape.now in
    let r = c.requires in
    three s c.args.a c.args.b c.args.c (small s c.args.a r.free r.stages r.opened.0 r.unmet.0 r.met.0)
    (small s c.args.b r.free r.stages r.opened.1 r.unmet.1 r.met.1)
    (small s c.args.c r.free r.stages r.opened.2 r.unmet.2 r.met.2) r.places.0 r.places.1 r.places.2
