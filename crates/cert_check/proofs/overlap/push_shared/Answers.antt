use Rattle.std.proofs.{Common.{◌&&◌, sym, ap₂, ◌∙◌, arith}, lemmas.Option.get_or_from_slice_get}
use Rattle.tier_core.specs.Classes.{has}
use Rattle.answer_text.specs.declared.automaton.ArcLine.{ArcLine}
use Rattle.cert_check.proofs.Gathering.{adds_same, shared_none, shared_more, shared_all}
use Rattle.cert_check.proofs.overlap.push_shared.Goals as goal

pub loop-later-init : goal.loop-later-init
loop-later-init c = record {
  from = omega arith;
  adds = λ arc e. shared_none c.args.arcs.now c.args.place arc.class _;
}

pub loop-later-preserved : goal.loop-later-preserved
loop-later-preserved c =
    record {
      from = omega (arith, c.loop-later.invariant.from);
      adds = λ arc e. shared_more _ _ _ _ _ _ _ _ c.loop-later.invariant.from c.loop-later-test.true
          c.index-arcs-later.is (c.loop-later.invariant.adds arc e) (adds_same _ _ _ _ (λ column. c.meet.ensures.columns
          column ∙ ap₂ (λ (x y : ArcLine). has x.class column && has y.class column)
          (get_or_from_slice_get c.args.arcs.now c.args.place _ c.index-arcs-place.result e)
          (sym c.index-arcs-later.is)) c.in_ok-push_filled.ensures);
    }

pub returns : goal.returns
returns c = λ arc e. shared_all _ _ _ _ _ _ c.loop-later-test.false (c.loop-later.invariant.adds arc e)
