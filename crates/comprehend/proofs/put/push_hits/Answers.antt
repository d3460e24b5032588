use Rattle.std.proofs.Common.{sym}
use Rattle.answer_text.proofs.Lines.{lines_of_each}
use Rattle.outside.proofs.Writing.{each_end, each_none, each_stop, each_turn, pushes_as, stop}
use Rattle.comprehend.specs.HitText.{names_of, hit_lines}
use Rattle.comprehend.proofs.put.push_hits.Goals as goal

pub loop-hit-init : goal.loop-hit-init
loop-hit-init g c = each_none c.args.sink.now c.args.out.now _ c.args.hits.now

pub loop-hit-preserved : goal.loop-hit-preserved
loop-hit-preserved g c =
    each_turn _ c.loop-hit-test.true c.hit-item.is c.loop-hit.invariant c.in_ok-push_hit.ensures

pub returns-in_err-push_hit : goal.returns-in_err-push_hit
returns-in_err-push_hit g c =
    stop c.from_residual.ensures.1
    (pushes_as (sym (lines_of_each (hit_lines (names_of c.args.lexicon.now)) c.args.hits.now))
    (each_stop _ c.loop-hit-test.true c.hit-item.is c.loop-hit.invariant c.in_err-push_hit.ensures))

pub returns : goal.returns
returns g c =
    pushes_as (sym (lines_of_each (hit_lines (names_of c.args.lexicon.now)) c.args.hits.now))
    (each_end c.loop-hit-test.false c.loop-hit.invariant)
