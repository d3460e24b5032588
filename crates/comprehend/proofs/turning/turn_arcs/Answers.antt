use Rattle.std.proofs.Common.{◌≡◌, ◌<◌, ◌∷◌, ◌++◌, [], length, get_or, refl, sym, ap, ◌∙◌, arith, Some}
use Rattle.std.proofs.lemmas.Option.{slice_get_within}
use Rattle.std.specs.Prelude.{slice_get}
use Rattle.answer_text.specs.Right.{numbers_of}
use Rattle.comprehend.specs.{declared.entering.Entering.Entering, Steps.arcs_at}
use Rattle.comprehend.proofs.Levels.{arcs_read, entering_are}
use Rattle.comprehend.proofs.Turned.{so_far_none, so_far_all, turned_skip, turned_push}
use Rattle.comprehend.proofs.turning.turn_arcs.Goals as goal

pub loop-arc-init : goal.loop-arc-init
loop-arc-init c = so_far_none c.args.states.now c.args.source
    (numbers_of c.args.states.now) c.args.into.now.items c.requires.turned

pub loop-arc-preserved-in_default : goal.loop-arc-preserved-in_default
loop-arc-preserved-in_default c =
    let states = c.args.states.now in
    let n = c.args.source in
    let k = c.loop-arc.arc-index in
    let arc = c.arc-item.result in
    let numbers = numbers_of states in
    let items : c.deref-arc-items.result.now
    ≡ arcs_at states n = arcs_read states n c.index-states-source.result c.deref-arc-items.result.now
    c.requires.source c.deref-arc-items.ensures.value in
    let inside : k < length (arcs_at states n) = omega (arith, c.loop-arc-test.true, ap length items) in
    turned_skip states n k arc inside (c.arc-item.is
    ∙ ap (λ xs. get_or xs k arc) items) numbers c.loop-arc.into.items c.loop-arc.invariant
    (λ t at. c.in_default.not-Some t ((c.place_of.ensures t).1 (ap (λ ns. slice_get ns t) c.requires.numbers ∙ at)))

pub index_mut-requires : goal.index_mut-requires
index_mut-requires c =
    let states = c.args.states.now in
    let at : slice_get c.args.numbers.now.keys c.in-Some.target
    ≡ Some c.arc-item.result.target = (c.place_of.ensures c.in-Some.target).0 c.in-Some.is in
    omega (
      arith,
      slice_get_within c.args.numbers.now.keys c.in-Some.target c.arc-item.result.target at,
      ap length c.requires.numbers,
      c.loop-arc.invariant.each_state,
      c.loop-arc.into.ok,
    )

pub loop-arc-preserved : goal.loop-arc-preserved
loop-arc-preserved c =
    let states = c.args.states.now in
    let n = c.args.source in
    let k = c.loop-arc.arc-index in
    let arc = c.arc-item.result in
    let numbers = numbers_of states in
    let target = c.in-Some.target in
    let items : c.deref-arc-items.result.now
    ≡ arcs_at states n = arcs_read states n c.index-states-source.result c.deref-arc-items.result.now
    c.requires.source c.deref-arc-items.ensures.value in
    let inside : k < length (arcs_at states n) = omega (arith, c.loop-arc-test.true, ap length items) in
    let at : slice_get numbers target ≡ Some arc.target = ap (λ ns. slice_get ns target) (sym c.requires.numbers)
    ∙ (c.place_of.ensures target).0 c.in-Some.is in
    let entry : Entering = record { source = n; class = arc.class } in
    let within : target < length c.loop-arc.into.items = omega
    (arith, slice_get_within numbers target arc.target at, c.loop-arc.invariant.each_state) in
    turned_push states n k arc inside (c.arc-item.is
    ∙ ap (λ xs. get_or xs k arc) items) numbers c.loop-arc.into.items c.loop-arc.invariant c.requires.once target
    at entry refl refl c.push.new.self
    (c.in_ok-push.ensures.items ∙ ap (λ xs. xs ++ entry ∷ [])
    (sym (entering_are c.loop-arc.into.items target c.index_mut.result.now within c.index_mut.ensures.value)))

pub returns : goal.returns
returns c =
    let states = c.args.states.now in
    let n = c.args.source in
    let k = c.loop-arc.arc-index in
    let items : c.deref-arc-items.result.now
    ≡ arcs_at states n = arcs_read states n c.index-states-source.result c.deref-arc-items.result.now
    c.requires.source c.deref-arc-items.ensures.value in
    so_far_all states n (numbers_of states) c.loop-arc.into.items k
    (omega (arith, c.loop-arc-test.false, ap length items)) c.loop-arc.invariant
