use Rattle.std.proofs.Common.{◌≡◌, ◌↔◌, ◌<◌, ◌≤◌, ◌^◌, IsTrue, List, length, refl, sym, ◌∙◌, ap, subst, arith, All}
use Rattle.std.proofs.{Common.ℕ, lemmas.List.Elements.All-from_recursion}
use Rattle.tier_core.specs.{Classes.{sets_of, has}, Kinds.open_tiers}
use Rattle.violation.proofs.SplitLemmas.{tiers_split}
use Rattle.kind_moves.specs.{Frames.tiers_in, Leaving.opened_among}
use Rattle.kind_moves.proofs.LeavingPieces.{none_left, more_left, all_left}
use Rattle.kind_moves.proofs.frame.Frame.push_leaving.Goals as goal

pub loop-opened-init : goal.loop-opened-init
loop-opened-init c = none_left c.args.self.now c.args.a.now c.args.b.now c.args.place c.args.pieces.now.items

pub columns_opening-requires : goal.columns_opening-requires
columns_opening-requires c =
    let frame = c.args.self.now in
    subst (λ (ts : List ℕ). All (λ t. t < length (sets_of c.args.a.now)) ts) (sym frame.free_tiers)
    (subst (λ n. All (λ t. t < n) (tiers_in frame).free) (sym c.requires.width)
    (All-from_recursion (λ t. t < (tiers_in frame).width) (tiers_in frame).free
    (tiers_split frame.grammar.now.tiers.kinds.items).free_below))

pub loop-opened-preserved : goal.loop-opened-preserved
loop-opened-preserved c =
    let frame = c.args.self.now in
    let box = c.columns_opening.result in
    let sets : c.set_count-opened-end.result ≡ 2 ^ length (tiers_in frame).free = c.set_count-opened-end.ensures
    ∙ ap (λ n. 2 ^ n) c.free_count.ensures.value in
    let inside : c.loop-opened.opened < c.set_count-opened-end.result = c.loop-opened-test.true in
    more_left frame c.args.a.now c.args.b.now c.args.place c.args.pieces.now.items c.loop-opened.pieces.items
    c.push_rest_led.new.pieces.items c.loop-opened.opened (length (sets_of box)) _ box c.loop-opened.invariant
    (omega (arith, sets, inside)) (c.columns_opening.ensures.width ∙ c.requires.width) refl refl refl refl
    (λ column. subst (λ (ts : List ℕ). IsTrue (has box column) ↔ (IsTrue (has c.args.a.now column)
    × (opened_among ts column ≡ open_tiers (length ts) c.loop-opened.opened))) frame.free_tiers
    (c.columns_opening.ensures.columns column))
    c.in_ok-push_rest_led.ensures

pub returns : goal.returns
returns c =
    let frame = c.args.self.now in
    let sets : c.set_count-opened-end.result ≡ 2 ^ length (tiers_in frame).free = c.set_count-opened-end.ensures
    ∙ ap (λ n. 2 ^ n) c.free_count.ensures.value in
    let past : c.set_count-opened-end.result ≤ c.loop-opened.opened = c.loop-opened-test.false in
    let end : c.loop-opened.opened ≤ c.set_count-opened-end.result = c.loop-opened.auto.opened-end in
    all_left frame c.args.a.now c.args.b.now c.args.place c.args.pieces.now.items
    c.loop-opened.pieces.items c.loop-opened.opened c.loop-opened.invariant (omega (arith, sets, past, end))
