use Rattle.std.proofs.Common.{◌≡◌, ℕ, ◌<◌}
use Rattle.tier_core.specs.{Scan.opens, Timelines.symbol}
use Rattle.cert_check.specs.Tests.{AddsTests}
use Rattle.cert_check.proofs.column_tests.push_open_tests.Given as goal

abbrev pub invariant-loop-tier : goal.invariant-loop-tier
invariant-loop-tier l = AddsTests l.width l.fn.tests.items l.tests.items
    (λ c d. (t : ℕ) → t < l.tier → opens (symbol c t) ≡ opens (symbol d t))
