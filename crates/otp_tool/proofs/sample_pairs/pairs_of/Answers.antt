use Rattle.std.proofs.Common.{◌+◌, drop}
use Rattle.otp_tool.specs.Samples.{pairs_of}
use Rattle.otp_tool.proofs.SampleLemmas.{pairs_at, pairs_next, put_at_end}
use Rattle.otp_tool.proofs.sample_pairs.pairs_of.Goals as goal

pub loop-state-preserved : goal.loop-state-preserved
loop-state-preserved c =
    let states = c.args.states.now in
    let i = c.loop-state.state-index in
    put_at_end _ _ _ _ _ _ (rw c.as_slice.ensures.value at c.in_ok-push_pairs.ensures)
    (pairs_next _ i _ c.loop-state-test.true c.state-item.is) c.loop-state.invariant
