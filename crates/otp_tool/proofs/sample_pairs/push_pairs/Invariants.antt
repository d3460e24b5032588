use Rattle.std.proofs.Common.{◌≡◌, ◌++◌, drop, map}
use Rattle.otp_tool.specs.Samples.{targets_of}
use Rattle.otp_tool.proofs.sample_pairs.push_pairs.Given as goal

-- the pairs so far, and those of the arcs that are left
abbrev pub invariant-loop-place : goal.invariant-loop-place
invariant-loop-place l = l.pairs.items ++ map (λ target. (l.node, target)) (targets_of (drop l.place l.arcs))
    ≡ l.fn.pairs.items ++ map (λ target. (l.node, target)) (targets_of l.arcs)
