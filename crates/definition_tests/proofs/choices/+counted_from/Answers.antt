use Rattle.std.proofs.Common.{◌≡◌, ℕ, ◌+◌, map, drop, arith}
use Rattle.tier_core.specs.{declared.event.Event.Event, Events.events}
use Rattle.violation.specs.Counts.{choices}
use Rattle.definition_tests.specs.{Counting.{HasTier, counted_after, counts_meet}, Spans.{interval, intervals_of}}
use Rattle.definition_tests.proofs.ChoiceSteps.{counted_by, counted_more, count_fits, first_of, others_of}
use Rattle.definition_tests.proofs.choices.+counted_from.Goals as goal

pub events_of-requires-clause-tier : goal.events_of-requires-clause-tier
events_of-requires-clause-tier t c =
    first_of (λ
    (e : Event). HasTier c.args.columns.now e.tier) c.in-Some.first.now c.in-Some.others.now
    c.in-Some.ensures.cases.0 c.requires.tiers

pub counted_from-requires : goal.counted_from-requires
counted_from-requires t c =
    let tiers = others_of
    (λ (e : Event). HasTier c.args.columns.now e.tier) c.in-Some.first.now c.in-Some.others.now
    c.in-Some.ensures.cases.0 c.requires.tiers in (
      omega (arith, c.decreases, c.in-Some.ensures.cases.1),
      (c.requires.right, (tiers, (c.requires.short, omega (arith, c.in-Some.ensures.cases.1, c.requires.few)))),
    )

pub loop-span-preserved : goal.loop-span-preserved
loop-span-preserved t c =
    counted_more c.args.family c.args.right.now c.args.columns.now c.args.chosen c.in-Some.others.now
    c.deref-span-items.result.now c.loop-span.span-index _ c.joined.result c.loop-span.count c.in_ok-count.field-0
    _
    c.loop-span-test.true c.joined.ensures c.in_ok-count.ensures c.loop-span.invariant

pub overflow_add-count : goal.overflow_add-count
overflow_add-count t c =
    let T = c.args.columns.now in
    let left : ℕ = counted_by (counts_meet c.args.family c.args.right.now T) (intervals_of c.args.chosen)
    (map interval (drop (c.loop-span.span-index + 1) c.deref-span-items.result.now))
    (choices (map (events T) c.in-Some.others.now)) in
    let all : counted_after c.args.family c.args.right.now T (intervals_of c.args.chosen) c.args.types.now
    ≡ (c.loop-span.count + c.in_ok-count.field-0) + left =
    counted_more c.args.family c.args.right.now T c.args.chosen c.in-Some.others.now c.deref-span-items.result.now
    c.loop-span.span-index _ c.joined.result c.loop-span.count c.in_ok-count.field-0 _
    c.loop-span-test.true c.joined.ensures c.in_ok-count.ensures c.loop-span.invariant in
    omega (
      arith,
      count_fits c.args.family c.args.right.now T (intervals_of c.args.chosen) c.args.types.now
          (c.loop-span.count + c.in_ok-count.field-0) left c.requires.short c.requires.few all,
    )
