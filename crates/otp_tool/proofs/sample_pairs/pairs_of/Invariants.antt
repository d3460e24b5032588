use Rattle.std.proofs.Common.{◌≡◌, ◌++◌, drop}
use Rattle.otp_tool.specs.Samples.{pairs_of}
use Rattle.otp_tool.proofs.sample_pairs.pairs_of.Given as goal

-- the pairs so far, and those of the states that are left
abbrev pub invariant-loop-state : goal.invariant-loop-state
invariant-loop-state l = l.pairs.items ++ pairs_of (drop l.state-index l.states) ≡ pairs_of l.states
