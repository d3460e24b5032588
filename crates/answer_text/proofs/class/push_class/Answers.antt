use Rattle.std.proofs.Common.{arith}
use Rattle.tier_core.specs.Classes.{sets_of}
use Rattle.outside.proofs.Writing.{each_end, each_none, each_stop, each_turn, pushes_as, stop}
use Rattle.answer_text.proofs.class.push_class.Goals as goal

pub loop-tier-init : goal.loop-tier-init
loop-tier-init g c = each_none c.args.sink.now c.args.out.now _ (sets_of c.args.class.now)

pub loop-tier-preserved : goal.loop-tier-preserved
loop-tier-preserved g c =
    let piece = pushes_as c.set_text.ensures c.in_ok-push.ensures in
    each_turn 0 (omega arith) c.bits.ensures.value c.loop-tier.invariant piece

pub returns-in_err-push : goal.returns-in_err-push
returns-in_err-push g c =
    let piece = pushes_as c.set_text.ensures c.in_err-push.ensures in
    stop c.from_residual.ensures.1
    (each_stop 0 (omega arith) c.bits.ensures.value c.loop-tier.invariant piece)

pub returns : goal.returns
returns g c = each_end (omega arith) c.loop-tier.invariant
