use Rattle.std.proofs.Common.{◌∷◌, [], ◌++◌, ◌&&◌, not, map, length, refl, sym, ◌∙◌, ap}
use Rattle.std.proofs.{lemmas.Bool.{not-true, not-false}, lemmas.Result.on_ok_weaker}
use Rattle.tier_core.specs.{Classes.{sets_of, has}, Filled.is_filled}
use Rattle.symbol_class.specs.Held.{once_if}
use Rattle.kind_moves.specs.Leaving.{led_to}
use Rattle.kind_moves.proofs.{LeavingPieces.{led_none, led_by, led_pieces}, FittingSteps.rest_apart}
use Rattle.kind_moves.proofs.all_moves.push_rest_led.Goals as goal

pub returns-then-is_empty : goal.returns-then-is_empty
returns-then-is_empty c =
    led_none (length (sets_of c.args.a.now)) c.args.target c.args.pieces.now.items c.args.a.now c.args.b.now
    (not-true (is_filled c.args.a.now) (sym c.is_empty.ensures.sets ∙ c.if-is_empty.true))

pub returns-then-is_empty-2 : goal.returns-then-is_empty-2
returns-then-is_empty-2 c = on_ok_weaker c.push_led.result
    (λ is. led_by (length (sets_of c.args.a.now)) c.args.target c.args.pieces.now.items c.push_led.new.pieces.items
    (c.args.a.now ∷ []) (λ column. once_if (has c.args.a.now column && not (has c.args.b.now column)))
    (rest_apart [] (c.args.a.now ∷ []) c.args.a.now c.args.b.now c.meet.result
    (not-false (is_filled c.args.a.now) (sym c.is_empty.ensures.sets ∙ c.if-is_empty.false))
    (not-true (is_filled c.meet.result) (sym c.is_empty-2.ensures.sets ∙ c.if-is_empty-2.true))
    c.meet.ensures.columns refl) is)
    c.push_led.ensures

pub returns : goal.returns
returns c = on_ok_weaker c.push_led-2.result
    (λ is. led_pieces (length (sets_of c.args.a.now)) c.args.target c.args.pieces.now.items
    c.push_led-2.new.pieces.items c.in_ok-rest.rest.items
    (λ column. has c.args.a.now column && not (has c.args.b.now column))
    c.in_ok-rest.ensures.pieces c.in_ok-rest.ensures.columns
    (is ∙ ap (λ cs. c.args.pieces.now.items ++ map (led_to c.args.target) cs) c.deref.ensures.value))
    c.push_led-2.ensures
